-- The responses of an accepted call lie in their family's range, and a call that is refused with 9 has one that does not. Document 02, P6. Assumes nothing.
use mathlib.Core.Path.{◌≡◌, sym}
use mathlib.Core.Logic.{inl}
use mathlib.Core.Bool.{false}
use Prim.Native.Nat.{ℕ, ◌<◌}
use lib.ListN.{length}
use lib.Ieee.{Float}
use Rattle.base.specs.Sum.{◌!◌}
use Rattle.base.proofs.Doubles.{ff}
use Rattle.model.specs.Inputs.{Inputs}
use Rattle.model.specs.declared.names.Family.TheVariants.{Gaussian}
use Rattle.model.specs.declared.ends.Refusal.TheVariants.{ResponseRange}
use Rattle.model.specs.declared.sizes.Shape.{Shape}
use Rattle.model.specs.declared.sizes.Settings.{Settings}
use Rattle.family.specs.Carried.{carried_family}
use Rattle.family.specs.Family.{in_range}
use Rattle.family.proofs.InRange.{gaussian_range}
use Rattle.table.specs.Facts.{AllInRange}
use Rattle.table.specs.When.{GivenWhen}
use Rattle.table.proofs.Exactly.{range_exactly, outside_exactly}
use Rattle.call.specs.Call.{Lent, call_of, FitNumber}
use Rattle.call.proofs.When.{refused_exactly, accepted_exactly}

module _ (t : Settings) (s : Shape) (I : Inputs) (L : Lent) where
  -- an accepted call's responses are all in range, so a fitted one's are
  pub accepted_in_range : FitNumber (call_of t s I L).answer.number → AllInRange (carried_family t.family) I.y
  accepted_in_range e =
      let a = (accepted_exactly t s I L).0 e in
      (range_exactly (carried_family t.family) I.y).0 a.0.1

  pub fitted_in_range : (call_of t s I L).answer.number ≡ 0 → AllInRange (carried_family t.family) I.y
  fitted_in_range e = accepted_in_range (inl e)

  -- 9 is told of a call that passed every other test and has a response out of range
  pub nine_outside : (call_of t s I L).answer.number ≡ 9 → (i : ℕ) × ((i < length I.y) × (in_range (carried_family t.family) (I.y ! i) ≡ false))
  unfolding GivenWhen
  nine_outside e =
      let a = (refused_exactly t s I L ResponseRange).0 e in
      (outside_exactly (carried_family t.family) I.y).0 a.1

  inside : (y : Float) → t.family ≡ Gaussian → in_range (carried_family t.family) y ≡ false → ⊥
  inside y g h = ff (sym (rw (g, gaussian_range y) at h))

  -- a Gaussian call is never: the infinite deviance of a fit without residuals stays a fitted result
  pub gaussian_never : t.family ≡ Gaussian → (call_of t s I L).answer.number ≡ 9 → ⊥
  gaussian_never g e = let a = nine_outside e in inside (I.y ! a.0) g a.1.1
