-- One round of the dispersion loop, by what its inner fit comes to: the equations that a loop in code goes by. Assumes nothing.
use Rattle.std.specs.Prelude.{Some, None}
use mathlib.Core.Path.{◌≡◌, refl}
use mathlib.Core.Bool.{Bool, true, false}
use Prim.Native.Nat.{ℕ, suc}
use lib.Ieee.{Float}
use Rattle.model.specs.declared.ends.End.{End}
use Rattle.dispersion.specs.Phi.{round_of}
use Rattle.dispersion.specs.Rounds.{Result, result, no_result, Total, total_before, after_round, after_fit, dispersion_from}

-- a result was found
abbrev pub is_result : {F : Type 0} → Result F → Bool
is_result (result f) = true
is_result (no_result e) = false

module _ {F : Type 0} (effective : Float) (dev_sum : F → Float) (inner : Float → Total F) (left : ℕ) (phi : Float) where
  pub round_unfitted : (e : End) → (inner phi).outcome ≡ no_result e → dispersion_from effective dev_sum inner (suc left) phi ≡ record { outcome = no_result e; items = (inner phi).items }
  unfolding dispersion_from after_fit
  round_unfitted e a = rw a refl

  pub round_settled : (f : F) → (inner phi).outcome ≡ result f → round_of effective phi (dev_sum f) ≡ None
      → dispersion_from effective dev_sum inner (suc left) phi ≡ record { outcome = result (record { last = f; phi = phi; converged = true }); items = (inner phi).items }
  unfolding dispersion_from after_fit after_round
  round_settled f a b = rw (a, b) refl

  pub round_next : (f : F) (next : Float) → (inner phi).outcome ≡ result f → round_of effective phi (dev_sum f) ≡ Some next
      → dispersion_from effective dev_sum inner (suc left) phi ≡ total_before (inner phi).items (dispersion_from effective dev_sum inner left next)
  unfolding dispersion_from after_fit after_round
  round_next f next a b = rw (a, b) refl
