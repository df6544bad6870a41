-- Products of sizes in range are small, which makes every place linear in numbers with bounds. Assumes nothing.
use Prim.Native.Nat.{ℕ, ◌*◌, ◌≤◌}
use native.Mathlib.Nat.{mul-le-mul}
use Rattle.model.specs.Settings.{Sizes}
use Rattle.layout.specs.Products.{Products}

pub square_few : {k : ℕ} → k ≤ 32 → k * k ≤ 1024
square_few h = mul-le-mul {n₂ = 32} {m₂ = 32} h h

pub product_few : {q p : ℕ} → q ≤ 32 → p ≤ 16 → q * p ≤ 512
product_few h l = mul-le-mul {n₂ = 32} {m₂ = 16} h l

pub products : {n p q : ℕ} → Sizes n p q → Products n p q
products z =
    record {
      qq = square_few z.q_few;
      qp = product_few z.q_few z.p_few;
      pp = mul-le-mul {n₂ = 16} {m₂ = 16} z.p_few z.p_few;
      np = mul-le-mul {n₂ = 512} {m₂ = 16} z.n_few z.p_few;
    }
