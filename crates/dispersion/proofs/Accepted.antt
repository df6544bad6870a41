-- Accepted tries of the dispersion loop: where each inner fit has one for each solve, but for the last solve of one that ends with 12, so has the loop. Document 02, P9. Assumes nothing.
use Rattle.std.specs.Prelude.{Option, Some, None}
use mathlib.Core.Path.{◌≡◌, refl}
use mathlib.Core.Bool.{Bool, true, false}
use mathlib.Core.List.{List}
use Prim.Native.Nat.{ℕ, zero, suc, ◌+◌}
use native.Mathlib.Omega.{arith}
use lib.Ieee.{Float}
use Rattle.base.specs.Number.{one_f}
use Rattle.model.specs.Items.{Item, is_solve, is_ok, count_of}
use Rattle.model.proofs.Tallies.{count_append}
use Rattle.rule.proofs.Accepted.{stuck_at}
use Rattle.dispersion.specs.Phi.{round_of}
use Rattle.dispersion.specs.Rounds.{Result, result, no_result, Total, Dispersed, total_before, with_flag, last_fit, after_round, after_fit, dispersion_from, dispersion_of, fixed_of}

-- 1 where a fit ended with 12
abbrev pub stuck_by : {F : Type 0} → Result F → ℕ
stuck_by (result f) = 0
stuck_by (no_result e) = stuck_at e

-- one accepted try for each solve, and one solve more where the fit ended with 12
abbrev pub TotalPaid : {F : Type 0} → Total F → Type 0
TotalPaid t = count_of is_solve t.items ≡ count_of is_ok t.items + stuck_by t.outcome

-- the last inner fit, with the flag
flag_stuck : {F : Type 0} (flag : Bool) (phi : Float) (x : Result F) → stuck_by (with_flag flag phi x) ≡ stuck_by x
unfolding with_flag
flag_stuck flag phi (result f) = refl
flag_stuck flag phi (no_result e) = refl

last_paid : {F : Type 0} (flag : Bool) (phi : Float) (t : Total F) → TotalPaid t → TotalPaid (last_fit flag phi t)
unfolding last_fit
last_paid flag phi t p = rw (flag_stuck flag phi t.outcome) p

-- ---- a round
module _ {F : Type 0} (effective : Float) (dev_sum : F → Float) (phi : Float) (is : List Item) (rest : Float → Total (Dispersed F)) (paid : (next : Float) → TotalPaid (rest next)) where
  round_paid : (r : Option Float) (f : F) → count_of is_solve is ≡ count_of is_ok is → TotalPaid (after_round r f phi is rest)
  unfolding after_round total_before
  round_paid None f q = omega (arith, q)
  round_paid (Some next) f q =
      let js = (rest next).items in
      omega (arith, q, paid next, count_append is_solve is js, count_append is_ok is js)

  fit_paid : (x : Result F) → count_of is_solve is ≡ count_of is_ok is + stuck_by x → TotalPaid (after_fit effective dev_sum phi x is rest)
  unfolding after_fit
  fit_paid (no_result e) q = q
  fit_paid (result f) q = round_paid (round_of effective phi (dev_sum f)) f (omega (arith, q))

-- ---- the loop
module _ {F : Type 0} (effective : Float) (dev_sum : F → Float) (inner : Float → Total F) (paid : (phi : Float) → TotalPaid (inner phi)) where
  from_paid : (left : ℕ) (phi : Float) → TotalPaid (dispersion_from effective dev_sum inner left phi)
  unfolding dispersion_from
  from_paid zero phi = last_paid false phi (inner phi) (paid phi)
  from_paid (suc left) phi =
      fit_paid effective dev_sum phi (inner phi).items (dispersion_from effective dev_sum inner left) (λ next. from_paid left next) (inner phi).outcome (paid phi)

  pub loop_paid : TotalPaid (dispersion_of effective dev_sum inner)
  unfolding dispersion_of
  loop_paid = from_paid 240 one_f

  -- the one fit of a family without dispersion
  pub fixed_paid : TotalPaid (fixed_of inner)
  unfolding fixed_of
  fixed_paid = last_paid true one_f (inner one_f) (paid one_f)
