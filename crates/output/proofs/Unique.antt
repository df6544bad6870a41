-- One job, one output; one answer and one content of the lent buffers. Assumes nothing.
use mathlib.Core.Path.{◌≡◌, ap}
use mathlib.Core.List.{List, []}
use Prim.Native.Nat.{ℕ, ◌<◌}
use native.Mathlib.Omega.{arith}
use lib.Ieee.{Float}
use lib.ListN.{length, replicate, length-replicate}
use Rattle.base.proofs.Unique.{one_value}
use Rattle.output.specs.Output.{Response, response, respond_of, RespondLong}

-- `respond`
pub respond_unique : (job out a b : List ℕ) (terms x y : List Float) (r t : ℕ) → response r x a ≡ respond_of job terms out → response t y b ≡ respond_of job terms out
    → (r ≡ t) × (x ≡ y) × (a ≡ b)
respond_unique job out a b terms x y r t p q =
    let same : response r x a ≡ response t y b = one_value p q in
    (ap (λ (z : Response). z.told) same, ap (λ (z : Response). z.terms) same, ap (λ (z : Response). z.out) same)

long_by : (n : ℕ) → 65536 < n → (out a b : List ℕ) (r t : ℕ) → RespondLong out r a → RespondLong out t b → (r ≡ t) × (a ≡ b)
long_by n l out a b r t p q =
    let job : List ℕ = replicate n 0 in
    let long : 65536 < length job = rw (length-replicate {A = ℕ} n 0) l in
    let u = respond_unique job out a b [] [] [] r t (p job [] long) (q job [] long) in
    (u.0, u.2)

-- `respond_long`
pub long_unique : (out a b : List ℕ) (r t : ℕ) → RespondLong out r a → RespondLong out t b → (r ≡ t) × (a ≡ b)
long_unique out a b r t p q = long_by 65537 (omega arith) out a b r t p q
