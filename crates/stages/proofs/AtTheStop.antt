-- The last stage of the iteration that stops, put together from its calls. Assumes nothing.
use mathlib.Core.Path.{◌≡◌, refl, ◌∙◌}
use mathlib.Core.List.{List}
use mathlib.Core.Logic.{inl}
use Prim.Native.Nat.{ℕ, ◌+◌, ◌-◌, ◌*◌, ◌/◌, ◌%◌, ◌≤◌}
use native.Mathlib.Omega.{arith}
use borrow.Rule.Slice.PartMut.{put_mid, mid_of, mid_len}
use lib.ListN.{length, take, drop}
use lib.Ieee.{Float}
use Rattle.base.specs.Number.{◌⊕◌}
use Rattle.base.specs.Sum.{dot_of}
use Rattle.base.specs.List.{build, matrix, grid_to}
use Rattle.base.specs.Rows.{row, Wrote}
use Rattle.base.proofs.Sums.{sum_cong}
use Rattle.base.proofs.Fills.{build_cong, grid_matrix}
use Rattle.base.proofs.Rows.{part_is, part_wrote, only_row}
use Rattle.layout.specs.WorkRows.{mu_row, raw_row, deviance_row, point_row, rows_length}
use Rattle.layout.specs.WorkMatrices.{root_inverse_place, wy_place, u_place, b_place}
use Rattle.layout.specs.WorkTerms.{factor_place, w_place, normal_place, spare_place}
use Rattle.family.specs.declared.carried.CarriedFamily.{CarriedFamily}
use Rattle.family_lists.specs.Lists.{dev_resid_at}
use Rattle.factor.specs.Inverse.{cholesky_column_at, cholesky_inverse}
use Rattle.factor.specs.Triangle.{SameBelow}
use Rattle.factor.proofs.Solved.{cholesky_inverse_same}
use Rattle.rule.specs.Stop.{deviances_of, deviance_sum, fit_term, log_pivot_at, log_pivots, laplace_of}
use Rattle.stages.specs.Stopped.{DeviancesLeft, Stops}

-- ---- factors with the same lower triangle
-- have the same inverse, by its columns
inverse_same : (s : ℕ) (F G : List Float) → SameBelow s F G → cholesky_inverse s F ≡ cholesky_inverse s G
unfolding cholesky_inverse matrix
inverse_same s F G same =
    build_cong (λ t. cholesky_column_at s F (t / s) (t % s)) (λ t. cholesky_column_at s G (t / s) (t % s)) (s * s) (λ t l. cholesky_inverse_same s F G same (t / s) (t % s))

-- and the same pivots
pivots_same : (s : ℕ) (F G : List Float) → SameBelow s F G → log_pivots s F ≡ log_pivots s G
unfolding log_pivots log_pivot_at
pivots_same s F G same = sum_cong s (log_pivot_at s F) (log_pivot_at s G) (λ i l. rw (same i i l (omega arith)) refl)

-- ---- the calls
-- the deviances, and the sum of the row that they are written to
pub deviances_made : (family : CarriedFamily) (y weights : List Float) (n mu dev point : ℕ) (r r' : List Float) (s : Float) → mu ≡ mu_row n → dev ≡ deviance_row n → point ≡ point_row n
    → Wrote dev n (build (dev_resid_at family y (row mu n r) weights) n) r r' → s ≡ deviance_sum n (take (point - dev) (drop dev r')) → DeviancesLeft family y weights n r r' s
deviances_made family y weights n mu dev point r r' s em ed ep w e =
    let devs : take (point - dev) (drop dev r') ≡ build (dev_resid_at family y (row mu n r) weights) n = part_is dev n point r' (omega arith) ∙ w.row' in
    let e' : s ≡ deviance_sum n (build (dev_resid_at family y (row mu n r) weights) n) = rw devs at e in
    record { wrote = rw (em, ed) at w; sum = rw em at e' }

-- the fit term at the row of the means
pub fit_made : (family : CarriedFamily) (y weights : List Float) (n mu raw : ℕ) (r : List Float) (s f : Float) → mu ≡ mu_row n → raw ≡ raw_row n
    → f ≡ fit_term family y (take (raw - mu) (drop mu r)) weights s → f ≡ fit_term family y (row (mu_row n) n r) weights s
fit_made family y weights n mu raw r s f em ea e =
    let means : take (raw - mu) (drop mu r) ≡ row (mu_row n) n r = part_is mu n raw r (omega arith) ∙ rw em refl in
    rw means at e

-- the Laplace deviance from the factor's square and from u
pub laplace_made : (p q factor w u b : ℕ) (m t : List Float) (fit d x : Float) → factor ≡ factor_place → w ≡ w_place q → u ≡ u_place p q → b ≡ b_place p q
    → d ≡ log_pivots q (take (w - factor) (drop factor t)) → x ≡ dot_of q (take (b - u) (drop u m)) (take (b - u) (drop u m))
    → (fit ⊕ d) ⊕ x ≡ (fit ⊕ log_pivots q (row factor_place (q * q) t)) ⊕ dot_of q (row (u_place p q) q m) (row (u_place p q) q m)
laplace_made p q factor w u b m t fit d x ef ew eu eb ed ex =
    let square : take (w - factor) (drop factor t) ≡ row factor_place (q * q) t = part_is factor (q * q) w t (omega arith) ∙ rw ef refl in
    let effects : take (b - u) (drop u m) ≡ row (u_place p q) q m = part_is u q b m (omega arith) ∙ rw eu refl in
    rw (ed, ex, square, effects) refl

-- the inverse in the part that was lent
pub inverse_made : (n p q normal spare root wy : ℕ) (t m ys : List Float) → normal ≡ normal_place n p q → spare ≡ spare_place n p q → root ≡ root_inverse_place p q → wy ≡ wy_place p q
    → wy ≤ length m → length ys ≡ length (mid_of root (wy - root) m) → ys ≡ grid_to p p (cholesky_column_at p (take (spare - normal) (drop normal t))) (mid_of root (wy - root) m)
    → Wrote (root_inverse_place p q) (p * p) (cholesky_inverse p (row (normal_place n p q) (p * p) t)) m (put_mid root (wy - root) m ys)
unfolding cholesky_inverse
inverse_made n p q normal spare root wy t m ys en es er eg h l y =
    let eb : wy ≡ root + p * p = omega arith in
    let k : length (mid_of root (wy - root) m) ≡ p * p = mid_len root wy m h ∙ omega arith in
    let w : Wrote root (p * p) ys m (put_mid root (wy - root) m ys) = part_wrote root (p * p) wy m ys eb h (l ∙ k) in
    let L : take (spare - normal) (drop normal t) ≡ row normal (p * p) t = part_is normal (p * p) spare t (omega arith) in
    let y' : ys ≡ matrix p p (cholesky_column_at p (row normal (p * p) t)) = y ∙ grid_matrix p p _ (mid_of root (wy - root) m) k ∙ rw L refl in
    rw (← er, ← en) (record { row' = w.row' ∙ y'; only = w.only })

-- ---- the stop
pub stop_made : (family : CarriedFamily) (y weights : List Float) (n p q : ℕ) (t r r' m m' : List Float) (s f l : Float) → rows_length n ≤ length r
    → DeviancesLeft family y weights n r r' s → f ≡ fit_term family y (row (mu_row n) n r') weights s
    → l ≡ (f ⊕ log_pivots q (row factor_place (q * q) t)) ⊕ dot_of q (row (u_place p q) q m) (row (u_place p q) q m)
    → Wrote (root_inverse_place p q) (p * p) (cholesky_inverse p (row (normal_place n p q) (p * p) t)) m m'
    → Stops family y weights n p q (row (mu_row n) n r) t r r' m m' (record { deviance_sum = s; fit = f; laplace = l })
unfolding deviances_of laplace_of
stop_made family y weights n p q t r r' m m' s f l h d ef el w link D v en lower root u =
    let mu : row (mu_row n) n r' ≡ row (mu_row n) n r = only_row (mu_row n) n (deviance_row n) n (inl (omega arith)) (omega arith) d.wrote.only in
    let ef' : f ≡ fit_term family y (row (mu_row n) n r) weights (deviance_sum n (build (dev_resid_at family y (row (mu_row n) n r) weights) n)) = rw (mu, d.sum) at ef in
    let el' : l ≡ (f ⊕ log_pivots q v.factor) ⊕ dot_of q v.u v.u = rw (u, pivots_same q (row factor_place (q * q) t) v.factor lower) at el in
    rw en
    (record {
      deviances = d.wrote.row';
      sum = d.sum;
      fit_term_lem = ef';
      laplace_deviance = el' ∙ rw ef' refl;
      inverse = w.row' ∙ inverse_same p (row (normal_place n p q) (p * p) t) v.root root;
      rows_only = d.wrote.only;
      matrices_only = w.only;
    })
