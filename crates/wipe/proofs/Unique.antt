-- One content: each work slice is given by an equation with what it was. Assumes nothing.
use mathlib.Core.Path.{◌≡◌}
use mathlib.Core.List.{List}
use Prim.Native.Nat.{ℕ}
use lib.Ieee.{Float}
use Rattle.base.proofs.Unique.{one_value}
use Rattle.wipe.specs.Wiped.{Wiped}

-- `wipe_work`
pub wipe_work_unique : (n p q : ℕ) (r m t r' m' t' r'' m'' t'' : List Float) → Wiped n p q r r' m m' t t' → Wiped n p q r r'' m m'' t t'' → (r' ≡ r'') × (m' ≡ m'') × (t' ≡ t'')
wipe_work_unique n p q r m t r' m' t' r'' m'' t'' d e = (one_value d.rows e.rows, one_value d.matrices e.matrices, one_value d.terms e.terms)
