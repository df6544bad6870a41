-- Laws of the power that is held against the cap. Assumes nothing.
use mathlib.Core.Path.{◌≡◌, sym}
use mathlib.Core.Bool.{false}
use Prim.Native.Nat.{ℕ, ◌+◌, ◌*◌, ◌^◌, ◌<◌, ◌≤◌}
use native.Mathlib.Nat.{pow-zero, pow-suc, pow-le-pow_right, mul-le-mul}
use native.Mathlib.Numerals.{add-one}
use native.Mathlib.Omega.{arith}
use borrow.Author.Tests.{lt-leb}
use Rattle.quadrature.specs.Orders.{within_cap}

pub power_none : (size : ℕ) → 1 ≡ size ^ 0
power_none size = sym (pow-zero size)

pub power_step : (size i power : ℕ) → power ≡ size ^ i → power * size ≡ size ^ (i + 1)
power_step size i power e = rw (e, add-one i) (sym (pow-suc size i))

-- a power past the cap stays past it
pub power_past : (size i dims cap power : ℕ) → 3 ≤ size → i ≤ dims → power ≡ size ^ i → cap < power → false ≡ within_cap size dims cap
unfolding within_cap
power_past size i dims cap power s l e h =
    let up : size ^ i ≤ size ^ dims = pow-le-pow_right {n = size} (omega arith) l in
    sym (lt-leb (size ^ dims) cap (omega arith))

-- one factor more is far from 2^64
pub power_small : (size cap power : ℕ) → size ≤ 11 → cap ≤ 7000 → power ≤ cap → power * size ≤ 77000
power_small size cap power s c h = mul-le-mul {n₁ = power} {n₂ = 7000} (omega arith) s
