-- The tally of items, by which the counters of a run are proved true: of two lists the sum, of single items, of n points. Assumes nothing.
use mathlib.Core.Path.{◌≡◌, refl}
use mathlib.Core.Bool.{Bool}
use mathlib.Core.List.{List, [], ◌∷◌, ◌++◌}
use Prim.Native.Nat.{ℕ, zero, suc, ◌+◌, ◌*◌}
use native.Mathlib.Nat.{zero-mul, suc-mul}
use native.Mathlib.Omega.{arith}
use lib.ListN.{replicate}
use Rattle.model.specs.Account.{no_counts, ◌⊞◌, one_fit, one_solve, points_of}
use Rattle.model.specs.Items.{Item, a_fit, a_solve, a_point, is_fit, is_solve, is_try, is_point, is_eta, is_mean, is_pwrss, is_ok, tick, count_of, tally}
use Rattle.model.proofs.Accounts.{same_counts}

-- whatever is counted
pub count_append : (t : Item → Bool) (is js : List Item) → count_of t (is ++ js) ≡ count_of t is + count_of t js
unfolding count_of
count_append t [] js = omega arith
count_append t (i ∷ is) js = omega (arith, count_append t is js)

pub tally_append : (is js : List Item) → tally (is ++ js) ≡ tally is ⊞ tally js
unfolding tally ◌⊞◌
tally_append is js =
    same_counts (count_append is_fit is js) (count_append is_solve is js) (count_append is_try is js) (count_append is_point is js)
    (count_append is_eta is js) (count_append is_mean is js) (count_append is_pwrss is js) (count_append is_ok is js)

pub tally_none : tally [] ≡ no_counts
unfolding tally count_of
tally_none = refl

pub tally_fit : tally (a_fit ∷ []) ≡ one_fit
unfolding tally count_of
tally_fit = refl

pub tally_solve : tally (a_solve ∷ []) ≡ one_solve
unfolding tally count_of
tally_solve = refl

-- n times the same item
pub count_same : (t : Item → Bool) (n : ℕ) (i : Item) → count_of t (replicate n i) ≡ n * tick (t i)
unfolding count_of
count_same t zero i = omega (arith, zero-mul (tick (t i)))
count_same t (suc n) i = omega (arith, suc-mul n (tick (t i)), count_same t n i)

pub tally_points : (n : ℕ) → tally (replicate n a_point) ≡ points_of n
unfolding tally
tally_points n =
    same_counts (omega (arith, count_same is_fit n a_point)) (omega (arith, count_same is_solve n a_point))
    (omega (arith, count_same is_try n a_point)) (omega (arith, count_same is_point n a_point))
    (omega (arith, count_same is_eta n a_point)) (omega (arith, count_same is_mean n a_point))
    (omega (arith, count_same is_pwrss n a_point)) (omega (arith, count_same is_ok n a_point))
