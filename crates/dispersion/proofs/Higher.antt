-- A higher limit of the inner fit changes nothing in the dispersion loop that did not end with 13, and for 13 the counts do not shrink. Assumes nothing.
use Rattle.std.specs.Prelude.{Option, Some, None}
use mathlib.Core.Path.{◌≡◌, refl, sym, ap, ◌∙◌}
use mathlib.Core.Bool.{Bool, true, false}
use mathlib.Core.List.{List}
use Prim.Native.Nat.{ℕ, zero, suc, ◌≤◌}
use native.Mathlib.Omega.{arith}
use lib.Ieee.{Float}
use Rattle.base.specs.Number.{one_f}
use Rattle.base.proofs.Doubles.{ff}
use Rattle.model.specs.Items.{Item, count_of}
use Rattle.model.specs.declared.ends.End.TheVariants.{NoStop}
use Rattle.model.proofs.Tallies.{count_append}
use Rattle.dispersion.specs.Phi.{round_of}
use Rattle.dispersion.specs.Rounds.{Result, result, no_result, Total, Dispersed, total_before, with_flag, last_fit, after_round, after_fit, dispersion_from, dispersion_of, fixed_of}
use Rattle.dispersion.proofs.Turns.{is_result}

-- it did not end for want of iterations
abbrev pub Stopped : {F : Type 0} → Total F → Type 0
Stopped t = t.outcome ≡ no_result NoStop → ⊥

-- ---- one round with two rests
module _ {F : Type 0} (effective : Float) (dev_sum : F → Float) (phi : Float) (is : List Item) (rest more : Float → Total (Dispersed F)) where
  module _ (same : (next : Float) → Stopped (rest next) → more next ≡ rest next) where
    round_same : (r : Option Float) (f : F) → Stopped (after_round r f phi is rest) → after_round r f phi is more ≡ after_round r f phi is rest
    unfolding after_round total_before
    round_same None f h = refl
    round_same (Some next) f h = ap (total_before is) (same next h)

    fit_same : (x : Result F) → Stopped (after_fit effective dev_sum phi x is rest) → after_fit effective dev_sum phi x is more ≡ after_fit effective dev_sum phi x is rest
    unfolding after_fit
    fit_same (no_result e) h = refl
    fit_same (result f) h = round_same (round_of effective phi (dev_sum f)) f h

  module _ (t : Item → Bool) (grows : (next : Float) → count_of t (rest next).items ≤ count_of t (more next).items) where
    round_grows : (r : Option Float) (f : F) → count_of t (after_round r f phi is rest).items ≤ count_of t (after_round r f phi is more).items
    unfolding after_round total_before
    round_grows None f = omega arith
    round_grows (Some next) f = omega (arith, grows next, count_append t is (rest next).items, count_append t is (more next).items)

    fit_grows : (x : Result F) → count_of t (after_fit effective dev_sum phi x is rest).items ≤ count_of t (after_fit effective dev_sum phi x is more).items
    unfolding after_fit
    fit_grows (no_result e) = omega arith
    fit_grows (result f) = round_grows (round_of effective phi (dev_sum f)) f

  -- what the inner fit did is counted whatever follows it
  module _ (t : Item → Bool) where
    round_first : (r : Option Float) (f : F) → count_of t is ≤ count_of t (after_round r f phi is rest).items
    unfolding after_round total_before
    round_first None f = omega arith
    round_first (Some next) f = omega (arith, count_append t is (rest next).items)

    fit_first : (x : Result F) → count_of t is ≤ count_of t (after_fit effective dev_sum phi x is rest).items
    unfolding after_fit
    fit_first (no_result e) = omega arith
    fit_first (result f) = round_first (round_of effective phi (dev_sum f)) f

-- ---- the loop with two inner fits, of which the second may have a higher limit
module _ {F : Type 0} (effective : Float) (dev_sum : F → Float) (inner more : Float → Total F) (same : (phi : Float) → Stopped (inner phi) → more phi ≡ inner phi) where
  pub loop_same : (left : ℕ) (phi : Float) → Stopped (dispersion_from effective dev_sum inner left phi) → dispersion_from effective dev_sum more left phi ≡ dispersion_from effective dev_sum inner left phi
  unfolding dispersion_from last_fit with_flag after_fit
  loop_same zero phi h =
      let e : more phi ≡ inner phi = same phi (λ (q : (inner phi).outcome ≡ no_result NoStop). h (ap (with_flag false phi) q)) in
      ap (last_fit false phi) e
  loop_same (suc left) phi h =
      let e : more phi ≡ inner phi = same phi (λ (q : (inner phi).outcome ≡ no_result NoStop). h (ap (λ (x : Result F). (after_fit effective dev_sum phi x (inner phi).items (dispersion_from effective dev_sum inner left)).outcome) q)) in
      rw e
      (fit_same effective dev_sum phi (inner phi).items (dispersion_from effective dev_sum inner left) (dispersion_from effective dev_sum more left) (λ next s. loop_same left next s) (inner phi).outcome h)

  pub loop_grows : (t : Item → Bool) → ((phi : Float) → count_of t (inner phi).items ≤ count_of t (more phi).items) → (left : ℕ) (phi : Float)
      → count_of t (dispersion_from effective dev_sum inner left phi).items ≤ count_of t (dispersion_from effective dev_sum more left phi).items
  unfolding dispersion_from last_fit after_fit
  loop_grows t grows zero phi = grows phi
  loop_grows t grows (suc left) phi = by_inner (inner phi).outcome refl (λ next. loop_grows t grows left next)
    where
      by_inner : (x : Result F) → (inner phi).outcome ≡ x → ((next : Float) → count_of t (dispersion_from effective dev_sum inner left next).items ≤ count_of t (dispersion_from effective dev_sum more left next).items)
          → count_of t (dispersion_from effective dev_sum inner (suc left) phi).items ≤ count_of t (dispersion_from effective dev_sum more (suc left) phi).items
      by_inner (result f) q rest =
          let e : more phi ≡ inner phi = same phi (λ s. ff (ap is_result (sym s ∙ q))) in
          rw e (fit_grows effective dev_sum phi (inner phi).items (dispersion_from effective dev_sum inner left) (dispersion_from effective dev_sum more left) t rest (inner phi).outcome)
      by_inner (no_result d) q rest =
          rw q (omega (arith, grows phi, fit_first effective dev_sum phi (more phi).items (dispersion_from effective dev_sum more left) (dispersion_from effective dev_sum more left) t (more phi).outcome))

  -- ---- the loop of 240 rounds, and the one fit without dispersion
  pub dispersion_same : Stopped (dispersion_of effective dev_sum inner) → dispersion_of effective dev_sum more ≡ dispersion_of effective dev_sum inner
  unfolding dispersion_of
  dispersion_same h = loop_same 240 one_f h

  pub dispersion_grows : (t : Item → Bool) → ((phi : Float) → count_of t (inner phi).items ≤ count_of t (more phi).items)
      → count_of t (dispersion_of effective dev_sum inner).items ≤ count_of t (dispersion_of effective dev_sum more).items
  unfolding dispersion_of
  dispersion_grows t grows = loop_grows t grows 240 one_f

  pub fixed_same : Stopped (fixed_of inner) → fixed_of more ≡ fixed_of inner
  unfolding fixed_of last_fit with_flag
  fixed_same h = ap (last_fit true one_f) (same one_f (λ (q : (inner one_f).outcome ≡ no_result NoStop). h (ap (with_flag true one_f) q)))

  pub fixed_grows : (t : Item → Bool) → count_of t (inner one_f).items ≤ count_of t (more one_f).items → count_of t (fixed_of inner).items ≤ count_of t (fixed_of more).items
  unfolding fixed_of last_fit
  fixed_grows t grows = grows
