-- Sigma by the two tests of a diagonal entry, and where that stands. Assumes nothing.
use Rattle.std.specs.Prelude.{Result, Ok, Err}
use mathlib.Core.Path.{◌≡◌, refl, ap, ◌∙◌}
use mathlib.Core.List.{List}
use mathlib.Core.Bool.{Bool, true, false}
use Prim.Native.Nat.{ℕ, ◌+◌, ◌*◌, ◌<◌, ◌≤◌}
use native.Mathlib.Nat.{zero-add}
use native.Mathlib.Omega.{arith}
use lib.ListN.{length}
use lib.Ieee.{Float, le}
use Rattle.base.specs.Number.{◌⊘◌, one_f, eps_f, finite}
use Rattle.base.specs.Sum.{◌!◌}
use Rattle.base.specs.List.{at}
use Rattle.base.specs.Rows.{row}
use Rattle.base.proofs.Fills.{row_fits}
use Rattle.base.proofs.Rows.{row_at}
use Rattle.root.specs.Sqrt.{sqrt_of}
use Rattle.quadrature.specs.declared.orders.Decline.{Decline}
use Rattle.quadrature.specs.declared.orders.Decline.TheVariants.{Diagonal}
use Rattle.agq_rule.specs.Scale.{sigma_of, bad_diagonal}
use Rattle.scale.specs.Tells.{one_scale_by, one_scale_of}

pub sigma_low : (a : Float) → le a eps_f ≡ true → Err Diagonal ≡ one_scale_of a
unfolding one_scale_of one_scale_by bad_diagonal
sigma_low a e = rw e refl

pub sigma_endless : (a : Float) → le a eps_f ≡ false → finite a ≡ false → Err Diagonal ≡ one_scale_of a
unfolding one_scale_of one_scale_by bad_diagonal
sigma_endless a e f = rw (e, f) refl

pub sigma_found : (a r : Float) → le a eps_f ≡ false → finite a ≡ true → r ≡ sqrt_of a → Ok (one_f ⊘ r) ≡ one_scale_of a
unfolding one_scale_of one_scale_by bad_diagonal sigma_of
sigma_found a r e f g = rw (e, f, g) refl

-- the diagonal entry of A, which stands at the front of the slice
pub diagonal_read : (q g o : ℕ) (m : List Float) (r : Result Float Decline) → g < q → q * q ≤ length m → o ≡ g * q → r ≡ one_scale_of (m ! (o + g)) → r ≡ one_scale_of (at q (row 0 (q * q) m) g g)
diagonal_read q g o m r l h e f =
    let x : row 0 (q * q) m ! (g * q + g) ≡ m ! (g * q + g) = row_at 0 (q * q) m (omega arith) (g * q + g) (omega (arith, row_fits g q q l)) ∙ ap (λ (t : ℕ). m ! t) (zero-add (g * q + g)) in
    rw (x, ← e) f

-- ---- what an answer says of the entry
sigma_by : (b : Bool) (a x : Float) → Ok x ≡ one_scale_by b a → (b ≡ false) × (x ≡ sigma_of a)
unfolding one_scale_by
sigma_by true a x e = let z : ◌≡◌ {A = ℕ} 0 1 = cc in absurd (omega arith)
sigma_by false a x e = (refl, cc)

none_by : (b : Bool) (a : Float) (d : Decline) → Err d ≡ one_scale_by b a → (b ≡ true) × (d ≡ Diagonal)
unfolding one_scale_by
none_by true a d e = (refl, cc)
none_by false a d e = let z : ◌≡◌ {A = ℕ} 0 1 = cc in absurd (omega arith)

-- sigma: the entry can be used, and this is its sigma
pub sigma_told : (a x : Float) → Ok x ≡ one_scale_of a → (bad_diagonal a ≡ false) × (x ≡ sigma_of a)
unfolding one_scale_of
sigma_told a x e = sigma_by (bad_diagonal a) a x e

-- none: it cannot
pub none_told : (a : Float) (d : Decline) → Err d ≡ one_scale_of a → (bad_diagonal a ≡ true) × (d ≡ Diagonal)
unfolding one_scale_of
none_told a d e = none_by (bad_diagonal a) a d e
