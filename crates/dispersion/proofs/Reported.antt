-- What the dispersion loop reports: the phi is the one that its last inner fit ran with, and the flag is false only after every round was used up. Assumes nothing.
use Rattle.std.specs.Prelude.{Option, Some, None}
use mathlib.Core.Path.{◌≡◌, refl, sym, ap, ◌∙◌}
use mathlib.Core.Bool.{Bool, true, false}
use mathlib.Core.List.{List}
use Prim.Native.Nat.{ℕ, zero, suc}
use native.Mathlib.Omega.{arith}
use lib.Ieee.{Float}
use Rattle.base.specs.Number.{one_f}
use Rattle.base.proofs.Doubles.{ff}
use Rattle.model.specs.Items.{Item, count_of}
use Rattle.model.proofs.Tallies.{count_append}
use Rattle.dispersion.specs.Phi.{round_of}
use Rattle.dispersion.specs.Rounds.{Result, result, no_result, Total, Dispersed, total_before, with_flag, last_fit, after_round, after_fit, dispersion_from, dispersion_of}
use Rattle.dispersion.proofs.Turns.{is_result}

-- the result that was found, f where none was
abbrev result_in : {F : Type 0} → F → Result F → F
result_in f (result g) = g
result_in f (no_result e) = f

-- at the phi of d the inner fit came to what d holds
abbrev Ran : {F : Type 0} → (Float → Total F) → Dispersed F → Type 0
Ran inner d = (inner d.phi).outcome ≡ result d.last

module _ {F : Type 0} (inner : Float → Total F) (d : Dispersed F) where
  pub last_ran : (flag : Bool) (phi : Float) (x : Result F) → (inner phi).outcome ≡ x → with_flag flag phi x ≡ result d → Ran inner d
  unfolding with_flag
  last_ran flag phi (result f) q e = let g : record { last = f; phi = phi; converged = flag } ≡ d = ap (result_in d) e in rw (← g) q
  last_ran flag phi (no_result n) q e = absurd (ff (ap is_result e))

module _ {F : Type 0} (effective : Float) (dev_sum : F → Float) (inner : Float → Total F) (d : Dispersed F) where
  module _ (phi : Float) (is : List Item) (rest : Float → Total (Dispersed F)) (ran : (next : Float) → (rest next).outcome ≡ result d → Ran inner d) where
    round_ran : (r : Option Float) (f : F) → (inner phi).outcome ≡ result f → (after_round r f phi is rest).outcome ≡ result d → Ran inner d
    unfolding after_round total_before
    round_ran None f q e = let g : record { last = f; phi = phi; converged = true } ≡ d = ap (result_in d) e in rw (← g) q
    round_ran (Some next) f q e = ran next e

    fit_ran : (x : Result F) → (inner phi).outcome ≡ x → (after_fit effective dev_sum phi x is rest).outcome ≡ result d → Ran inner d
    unfolding after_fit
    fit_ran (no_result n) q e = absurd (ff (ap is_result e))
    fit_ran (result f) q e = round_ran (round_of effective phi (dev_sum f)) f q e

  pub phi_ran : (left : ℕ) (phi : Float) → (dispersion_from effective dev_sum inner left phi).outcome ≡ result d → Ran inner d
  unfolding dispersion_from last_fit
  phi_ran zero phi e = last_ran inner d false phi (inner phi).outcome refl e
  phi_ran (suc left) phi e =
      fit_ran phi (inner phi).items (dispersion_from effective dev_sum inner left) (λ next q. phi_ran left next q) (inner phi).outcome refl e

-- ---- the flag: where each inner fit counts once, a flag that is false tells of one fit for each round and one more
module _ {F : Type 0} (effective : Float) (dev_sum : F → Float) (t : Item → Bool) (m : ℕ) (d : Dispersed F) (unsettled : d.converged ≡ false) (phi : Float) (is : List Item)
    (rest : Float → Total (Dispersed F)) (one : count_of t is ≡ 1) (all : (next : Float) → (rest next).outcome ≡ result d → count_of t (rest next).items ≡ m) where
  round_all : (r : Option Float) (f : F) → (after_round r f phi is rest).outcome ≡ result d → count_of t (after_round r f phi is rest).items ≡ suc m
  unfolding after_round total_before
  round_all None f e =
      let g : record { last = f; phi = phi; converged = true } ≡ d = ap (result_in d) e in
      absurd (ff (sym unsettled ∙ ap (λ (x : Dispersed F). x.converged) (sym g)))
  round_all (Some next) f e = omega (arith, one, all next e, count_append t is (rest next).items)

  fit_all : (x : Result F) → (after_fit effective dev_sum phi x is rest).outcome ≡ result d → count_of t (after_fit effective dev_sum phi x is rest).items ≡ suc m
  unfolding after_fit
  fit_all (no_result n) e = absurd (ff (ap is_result e))
  fit_all (result f) e = round_all (round_of effective phi (dev_sum f)) f e

pub unsettled_all : {F : Type 0} (effective : Float) (dev_sum : F → Float) (inner : Float → Total F) (t : Item → Bool) (d : Dispersed F) → ((phi : Float) → count_of t (inner phi).items ≡ 1) → d.converged ≡ false
    → (left : ℕ) (phi : Float) → (dispersion_from effective dev_sum inner left phi).outcome ≡ result d → count_of t (dispersion_from effective dev_sum inner left phi).items ≡ suc left
unfolding dispersion_from last_fit
unsettled_all effective dev_sum inner t d one unsettled zero phi e = one phi
unsettled_all effective dev_sum inner t d one unsettled (suc left) phi e =
    fit_all effective dev_sum t (suc left) d unsettled phi (inner phi).items (dispersion_from effective dev_sum inner left) (one phi) (λ next q. unsettled_all effective dev_sum inner t d one unsettled left next q) (inner phi).outcome e

-- of the loop of 240 rounds: 241 fits
pub unsettled_241 : {F : Type 0} (effective : Float) (dev_sum : F → Float) (inner : Float → Total F) (t : Item → Bool) (d : Dispersed F) → ((phi : Float) → count_of t (inner phi).items ≡ 1)
    → d.converged ≡ false → (dispersion_of effective dev_sum inner).outcome ≡ result d → count_of t (dispersion_of effective dev_sum inner).items ≡ 241
unfolding dispersion_of
unsettled_241 effective dev_sum inner t d one unsettled e = unsettled_all effective dev_sum inner t d one unsettled 240 one_f e
