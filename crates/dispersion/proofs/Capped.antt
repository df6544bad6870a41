-- The dispersion loop begins at most 241 inner fits, and its account keeps to the caps of a call. Assumes nothing.
use Rattle.std.specs.Prelude.{Option, Some, None}
use mathlib.Core.Bool.{Bool}
use mathlib.Core.List.{List}
use Prim.Native.Nat.{ℕ, zero, suc, ◌+◌, ◌*◌, ◌≤◌}
use native.Mathlib.Nat.{mul-suc}
use native.Mathlib.Omega.{arith}
use lib.Ieee.{Float}
use Rattle.base.specs.Number.{one_f}
use Rattle.model.specs.Account.{AtMost, inner_cap, Capped}
use Rattle.model.specs.Items.{Item, is_fit, is_solve, is_try, is_point, is_eta, is_mean, is_pwrss, is_ok, count_of, tally}
use Rattle.model.proofs.Tallies.{count_append}
use Rattle.dispersion.specs.Phi.{round_of}
use Rattle.dispersion.specs.Rounds.{Result, result, no_result, Total, Dispersed, total_before, last_fit, after_round, after_fit, dispersion_from, dispersion_of, fixed_of}

module _ {F : Type 0} (effective : Float) (dev_sum : F → Float) (t : Item → Bool) (c m : ℕ) (phi : Float) (is : List Item) (rest : Float → Total (Dispersed F)) (few : count_of t is ≤ c)
    (rest-few : (next : Float) → count_of t (rest next).items ≤ m) where
  round_most : (r : Option Float) (f : F) → count_of t (after_round r f phi is rest).items ≤ c + m
  unfolding after_round total_before
  round_most None f = omega arith
  round_most (Some next) f = omega (arith, rest-few next, count_append t is (rest next).items)

  fit_most : (x : Result F) → count_of t (after_fit effective dev_sum phi x is rest).items ≤ c + m
  unfolding after_fit
  fit_most (no_result e) = omega arith
  fit_most (result f) = round_most (round_of effective phi (dev_sum f)) f

-- ---- what no inner fit has more than c of, the loop has no more of than c for each round and c for the last
pub loop_most : {F : Type 0} (effective : Float) (dev_sum : F → Float) (inner : Float → Total F) (t : Item → Bool) (c : ℕ) → ((phi : Float) → count_of t (inner phi).items ≤ c)
    → (left : ℕ) (phi : Float) → count_of t (dispersion_from effective dev_sum inner left phi).items ≤ c * suc left
unfolding dispersion_from last_fit
loop_most effective dev_sum inner t c few zero phi = omega (arith, few phi)
loop_most effective dev_sum inner t c few (suc left) phi =
    let m : count_of t (after_fit effective dev_sum phi (inner phi).outcome (inner phi).items (dispersion_from effective dev_sum inner left)).items ≤ c + c * suc left =
    fit_most effective dev_sum t c (c * suc left) phi (inner phi).items (dispersion_from effective dev_sum inner left) (few phi) (λ next. loop_most effective dev_sum inner t c few left next) (inner phi).outcome in
    omega (arith, m, mul-suc c (suc left))

-- ---- the loop of 240 rounds
module _ {F : Type 0} (effective : Float) (dev_sum : F → Float) (inner : Float → Total F) where
  pub loop_capped : ((phi : Float) → AtMost inner_cap (tally (inner phi).items)) → Capped (tally (dispersion_of effective dev_sum inner).items)
  unfolding dispersion_of tally
  loop_capped few =
      record {
        fits = omega (arith, loop_most effective dev_sum inner is_fit 1 (λ phi. (few phi).fits) 240 one_f);
        solves = omega (arith, loop_most effective dev_sum inner is_solve 1000 (λ phi. (few phi).solves) 240 one_f);
        tries = omega (arith, loop_most effective dev_sum inner is_try 100000 (λ phi. (few phi).tries) 240 one_f);
        points = omega (arith, loop_most effective dev_sum inner is_point 7000 (λ phi. (few phi).points) 240 one_f);
        eta = omega (arith, loop_most effective dev_sum inner is_eta 100000 (λ phi. (few phi).eta) 240 one_f);
        mean = omega (arith, loop_most effective dev_sum inner is_mean 100000 (λ phi. (few phi).mean) 240 one_f);
        pwrss = omega (arith, loop_most effective dev_sum inner is_pwrss 100000 (λ phi. (few phi).pwrss) 240 one_f);
        ok = omega (arith, loop_most effective dev_sum inner is_ok 1000 (λ phi. (few phi).ok) 240 one_f);
      }

  -- the one fit of a family without dispersion keeps to them too
  pub fixed_capped : AtMost inner_cap (tally (inner one_f).items) → AtMost inner_cap (tally (fixed_of inner).items)
  unfolding fixed_of last_fit
  fixed_capped few = few
