-- What the seven steps over all columns leave, put together. Assumes nothing.
use mathlib.Core.Path.{◌≡◌, refl, sym, ap, ◌∙◌}
use mathlib.Core.List.{List}
use mathlib.Core.Logic.{◌⊎◌, inl, inr, ⊎_elim}
use Prim.Native.Nat.{ℕ, ◌+◌, ◌*◌, ◌<◌, ◌≤◌}
use native.Mathlib.Nat.{mul_comm}
use native.Mathlib.Omega.{arith}
use lib.ListN.{length}
use lib.Ieee.{Float}
use Rattle.base.specs.Sum.{◌!◌}
use Rattle.base.specs.List.{at, build, matrix}
use Rattle.base.specs.Rows.{row, OnlyTwo, Wrote}
use Rattle.base.specs.Sparse.{Sparse}
use Rattle.base.proofs.Fills.{row_fits, build_at, build_cong, matrix_at, matrix_length}
use Rattle.base.proofs.Rows.{row_at, only_row, only_trans, only_wide}
use Rattle.base.proofs.TwoRows.{matrix_is, two_first, two_second, two_trans, two_row}
use Rattle.model.specs.Shape.{effects_of}
use Rattle.model.specs.declared.sizes.Shape.{Shape}
use Rattle.layout.specs.Layout.{WorkRoom, LaidOut}
use Rattle.layout.specs.WorkRows.{working_row}
use Rattle.layout.specs.WorkMatrices.{system_place, solved_place, root_inverse_place, wy_place, beta_place}
use Rattle.layout.specs.WorkTerms.{factor_place, w_place, unsolved_place, normal_place}
use Rattle.layout.proofs.LaidOut.{laid_out, lent_kept}
use Rattle.lambda.specs.Product.{lambda_transposed_at}
use Rattle.factor.specs.Substitution.{ldl_solve}
use Rattle.factor.specs.Sides.{ldl_columns_at}
use Rattle.factor.specs.Triangle.{SameBelow}
use Rattle.factor.proofs.Solved.{ldl_solve_same}
use Rattle.stored.specs.Stored.{zt_times_at}
use Rattle.linear.specs.Product.{cross_at, normal_at}
use Rattle.rule.specs.Given.{Design, design_of}
use Rattle.rule.specs.Working.{weighted_column}
use Rattle.rule.specs.Solve.{zt_times, side_of, unsolved_column, solved_column, solved_column_at, solved_columns, normal_entry, normal_of, normal_side_at, normal_side}
use Rattle.columns.specs.Weighted.{weighted_dot, weighted_side}
use Rattle.columns.specs.Pieces.{column_at, unsolved_at, less_mixed, less_solved, LowerWrote}
use Rattle.columns.specs.Columns.{ColumnsLeft, ColumnsOf}
use Rattle.columns.proofs.Laws.{matrix_line}

-- ---- an entry of each, by the rule

module _ (n p q : ℕ) (shape : Shape) (theta offset x : List Float) (zt : Sparse) (w : List Float) (e : q ≡ effects_of shape) where
  abbrev D : Design
  D = design_of n p shape theta offset x zt

  -- column a of Z'(x_a·w) for each a
  gathered : (S : List Float) (a : ℕ) → S ≡ matrix q p (weighted_side zt x p n w) → a < p → build (column_at S p a) q ≡ zt_times D (weighted_column D w a)
  unfolding weighted_side zt_times weighted_column
  gathered S a s l =
      build_cong (column_at S p a) (zt_times_at zt n (weighted_column D w a)) q
      (λ g h. ap (λ (y : List Float). at p y g a) s ∙ matrix_at q p (weighted_side zt x p n w) g a h l)
      ∙ ap (build (zt_times_at zt n (weighted_column D w a))) e

  pub unsolved_is : (S v : List Float) (a : ℕ) → S ≡ matrix q p (weighted_side zt x p n w) → v ≡ matrix p q (unsolved_at shape theta S p q) → a < p
      → row (a * q) q v ≡ unsolved_column D w a
  unfolding unsolved_at unsolved_column side_of
  unsolved_is S v a s u l =
      ap (row (a * q) q) u ∙ matrix_line p q (unsolved_at shape theta S p q) a l
      ∙ ap (λ (y : List Float). build (lambda_transposed_at shape theta y) q) (gathered S a s l)
      ∙ ap (build (lambda_transposed_at shape theta (zt_times D (weighted_column D w a)))) e

  module _ (v : List Float) (columns : (a : ℕ) → a < p → row (a * q) q v ≡ unsolved_column D w a) where
    pub solved_is : (L F : List Float) → SameBelow q L F → matrix p q (ldl_columns_at q L v) ≡ solved_columns D F w
    unfolding ldl_columns_at solved_columns solved_column_at solved_column
    solved_is L F same =
        rw (← e)
        (matrix_is p q (solved_column_at D F w) (matrix p q (ldl_columns_at q L v)) (matrix_length p q (ldl_columns_at q L v))
        (λ a i l h.
        matrix_at p q (ldl_columns_at q L v) a i l h
        ∙ ap (λ (y : List Float). y ! i) (ap (ldl_solve q L) (columns a l) ∙ ldl_solve_same q L F same (unsolved_column D w a) ∙ ap (λ (k : ℕ). ldl_solve k F (unsolved_column D w a)) e)))

    pub normal_is : (C W : List Float) (a b : ℕ) → a < p → at p C a b ≡ cross_at x p n w a b → less_mixed C v W p q a b ≡ normal_entry D w W a b
    unfolding less_mixed cross_at normal_entry normal_at weighted_column
    normal_is C W a b l c = rw (c, columns a l, e) refl

    pub side_is : (s target wy : List Float) (a : ℕ) → a < p → s ! a ≡ weighted_dot x p n w target a → less_solved s v wy q a ≡ normal_side_at D w target wy a
    unfolding less_solved weighted_dot normal_side_at weighted_column
    side_is s target wy a l d = rw (d, columns a l, e) refl

-- ---- the steps, each with the places as the code forms them

pub record Stepped (n p q : ℕ) (shape : Shape) (theta x : List Float) (zt : Sparse) (working w unsolved normal solved crossed wy beta : ℕ) (r m m1 m2 m3 m4 m5 t t1 t2 : List Float) : Type 0 where
  pub crosses : LowerWrote crossed p (cross_at x p n (row w n t)) m m1
  pub dots : Wrote beta p (build (weighted_dot x p n (row w n t) (row working n r)) p) m1 m2
  pub rows : Wrote solved (q * p) (matrix q p (weighted_side zt x p n (row w n t))) m2 m3
  pub before : Wrote unsolved (p * q) (matrix p q (unsolved_at shape theta (row solved (q * p) m3) p q)) t t1
  pub after : Wrote solved (p * q) (matrix p q (ldl_columns_at q (row 0 (q * q) t1) (row unsolved (p * q) t1))) m3 m4
  pub remains : LowerWrote normal p (less_mixed (row crossed (p * p) m4) (row unsolved (p * q) t1) (row solved (p * q) m4) p q) t1 t2
  pub sides : Wrote beta p (build (less_solved (row beta p m4) (row unsolved (p * q) t2) (row wy q m4) q) p) m4 m5

module _ (n p q : ℕ) (shape : Shape) (theta x : List Float) (zt : Sparse) (r m m1 m2 m3 m4 m5 t t1 t2 : List Float) (e : q ≡ effects_of shape) (lent : WorkRoom n p q r m t)
    (s : Stepped n p q shape theta x zt (working_row n) (w_place q) (unsolved_place n q) (normal_place n p q) (solved_place q) (root_inverse_place p q) (wy_place p q) (beta_place p q) r m m1 m2 m3 m4 m5 t t1 t2) where
  abbrev weights : List Float
  weights = row (w_place q) n t

  abbrev target : List Float
  target = row (working_row n) n r

  -- X'WX, V, W and the normal matrix where they stand when the last is made
  abbrev C4 : List Float
  C4 = row (root_inverse_place p q) (p * p) m4

  abbrev V1 : List Float
  V1 = row (unsolved_place n q) (p * q) t1

  abbrev W4 : List Float
  W4 = row (solved_place q) (p * q) m4

  laid : LaidOut n p q
  laid = laid_out lent.sizes

  turned : p * q ≡ q * p
  turned = mul_comm p q

  in_m : beta_place p q + p ≤ length m
  in_m = omega (arith, laid.matrices.beta, laid.matrices.beta_end_lem, lent.matrices_long)

  in_t : normal_place n p q + p * p ≤ length t
  in_t = omega (arith, laid.terms.normal, laid.terms.spare, lent.terms_long)

  -- of the matrices only W with X'WX behind it, and the place of β, have changed
  two2 : OnlyTwo (solved_place q) (q * p + p * p) (beta_place p q) p m m2
  two2 =
      two_trans
      (two_first (solved_place q) (q * p + p * p) (beta_place p q) p
      (only_wide (root_inverse_place p q) (p * p) (solved_place q) (q * p + p * p) (omega arith) (omega arith) s.crosses.only))
      (two_second (solved_place q) (q * p + p * p) (beta_place p q) p s.dots.only)

  two3 : OnlyTwo (solved_place q) (q * p + p * p) (beta_place p q) p m m3
  two3 =
      two_trans two2
      (two_first (solved_place q) (q * p + p * p) (beta_place p q) p (only_wide (solved_place q) (q * p) (solved_place q) (q * p + p * p) (omega arith) (omega arith) s.rows.only))

  two4 : OnlyTwo (solved_place q) (q * p + p * p) (beta_place p q) p m m4
  two4 =
      two_trans two3
      (two_first (solved_place q) (q * p + p * p) (beta_place p q) p
      (only_wide (solved_place q) (p * q) (solved_place q) (q * p + p * p) (omega arith) (omega (arith, turned)) s.after.only))

  two5 : OnlyTwo (solved_place q) (q * p + p * p) (beta_place p q) p m m5
  two5 = two_trans two4 (two_second (solved_place q) (q * p + p * p) (beta_place p q) p s.sides.only)

  -- a row apart from both
  kept : (d k : ℕ) (m' : List Float) → (d + k ≤ solved_place q) ⊎ (wy_place p q ≤ d) → d + k ≤ beta_place p q → OnlyTwo (solved_place q) (q * p + p * p) (beta_place p q) p m m' → row d k m' ≡ row d k m
  kept d k m' o l two =
      two_row d k (solved_place q) (q * p + p * p) (beta_place p q) p (⊎_elim (λ h. inl h) (λ h. inr (omega arith)) o) (inl l) (omega (arith, in_m)) two

  long1 : length t1 ≡ length t
  long1 = s.before.only.len

  -- entry (a, b) of X'WX still stands where it was written
  crossed_is : (a b : ℕ) → a < p → b ≤ a → at p C4 a b ≡ cross_at x p n weights a b
  crossed_is a b la lb =
      let place : a * p + b < p * p = omega (arith, row_fits a p p la) in
      row_at (root_inverse_place p q) (p * p) m4 (omega (arith, in_m, two4.len)) (a * p + b) place
      ∙ s.after.only.kept (root_inverse_place p q + (a * p + b)) (inr (omega (arith, turned)))
      ∙ s.rows.only.kept (root_inverse_place p q + (a * p + b)) (inr (omega arith))
      ∙ s.dots.only.kept (root_inverse_place p q + (a * p + b)) (inl (omega arith)) ∙ s.crosses.below a b la lb

  module _ (F offset : List Float) (same : SameBelow q (row factor_place (q * q) t) F) where
    abbrev E : Design
    E = design_of n p shape theta offset x zt

    columns_are : (a : ℕ) → a < p → row (a * q) q V1 ≡ unsolved_column E weights a
    columns_are a l = unsolved_is n p q shape theta offset x zt weights e (row (solved_place q) (q * p) m3) V1 a s.rows.row' s.before.row' l

    front : row 0 (q * q) t1 ≡ row factor_place (q * q) t
    front = only_row 0 (q * q) (unsolved_place n q) (p * q) (inl (omega arith)) (omega (arith, in_t)) s.before.only

    solved_all : W4 ≡ solved_columns E F weights
    solved_all = s.after.row' ∙ solved_is n p q shape theta offset x zt weights e V1 columns_are (row 0 (q * q) t1) F (rw front same)

    solved_kept : row (solved_place q) (p * q) m5 ≡ W4
    solved_kept = only_row (solved_place q) (p * q) (beta_place p q) p (inl (omega (arith, turned))) (omega (arith, turned, in_m, two4.len)) s.sides.only

    normal_all : SameBelow p (row (normal_place n p q) (p * p) t2) (normal_of E weights (solved_columns E F weights))
    unfolding normal_of
    normal_all i j li lj =
        let lj' : j < p = omega arith in
        let place : i * p + j < p * p = omega (arith, row_fits i p p li) in
        row_at (normal_place n p q) (p * p) t2 (omega (arith, in_t, long1, s.remains.only.len)) (i * p + j) place ∙ s.remains.below i j li lj
        ∙ normal_is n p q shape theta offset x zt weights e V1 columns_are C4 W4 i j li (crossed_is i j li lj)
        ∙ ap (λ (y : List Float). normal_entry E weights y i j) solved_all
        ∙ sym (matrix_at p p (normal_entry E weights (solved_columns E F weights)) i j li lj')

    columns_kept : row (unsolved_place n q) (p * q) t2 ≡ V1
    columns_kept = only_row (unsolved_place n q) (p * q) (normal_place n p q) (p * p) (inl (omega (arith, turned))) (omega (arith, turned, in_t, long1)) s.remains.only

    wy_kept4 : row (wy_place p q) q m4 ≡ row (wy_place p q) q m
    wy_kept4 = kept (wy_place p q) q m4 (inr (omega arith)) (omega arith) two4

    dots_kept : row (beta_place p q) p m4 ≡ row (beta_place p q) p m2
    dots_kept =
        only_row (beta_place p q) p (solved_place q) (p * q) (inr (omega (arith, turned))) (omega (arith, in_m, two3.len)) s.after.only
        ∙ only_row (beta_place p q) p (solved_place q) (q * p) (inr (omega arith)) (omega (arith, in_m, two2.len)) s.rows.only

    side_at : (a : ℕ) → a < p
        → less_solved (row (beta_place p q) p m4) (row (unsolved_place n q) (p * q) t2) (row (wy_place p q) q m4) q a ≡ normal_side_at E weights target (row (wy_place p q) q m) a
    side_at a l =
        let d : row (beta_place p q) p m4 ! a ≡ weighted_dot x p n weights target a =
        ap (λ (y : List Float). y ! a) (dots_kept ∙ s.dots.row') ∙ build_at (weighted_dot x p n weights target) p a l in
        rw (columns_kept, wy_kept4) (side_is n p q shape theta offset x zt weights e V1 columns_are (row (beta_place p q) p m4) target (row (wy_place p q) q m) a l d)

    pub columns_left : ColumnsLeft q E F weights target (row (wy_place p q) q m) m m5 t t2
    unfolding normal_side
    columns_left =
        record {
          solved = solved_kept ∙ solved_all;
          side = s.sides.row' ∙ build_cong _ (normal_side_at E weights target (row (wy_place p q) q m)) p side_at;
          normal = normal_all;
          system_kept = kept system_place (q * q) m5 (inl (omega arith)) (omega arith) two5;
          wy_kept = kept (wy_place p q) q m5 (inr (omega arith)) (omega arith) two5;
          matrices_only = record {
            len = two5.len;
            kept = λ j o. ⊎_elim (λ h. absurd (omega arith)) (λ h. two5.kept j (inr (omega (arith, laid.matrices.beta, laid.matrices.beta_end_lem))) (inr (omega (arith, laid.matrices.beta, laid.matrices.beta_end_lem)))) o;
          };
          terms_only = only_trans (only_wide (unsolved_place n q) (p * q) (unsolved_place n q) (q * p + p * p) (omega arith) (omega (arith, turned)) s.before.only)
              (only_wide (normal_place n p q) (p * p) (unsolved_place n q) (q * p + p * p) (omega arith) (omega arith) s.remains.only);
        }

-- ---- the places as the code forms them, in the work slices

pub record Places (n p q : ℕ) (r m t : List Float) (working w unsolved normal solved crossed wy beta : ℕ) : Type 0 where
  pub lent : WorkRoom n p q r m t
  pub working_place : working ≡ working_row n
  pub w_place_lem : w ≡ w_place q
  pub unsolved_place_lem : unsolved ≡ unsolved_place n q
  pub normal_place_lem : normal ≡ normal_place n p q
  pub solved_place_lem : solved ≡ solved_place q
  pub crossed_place : crossed ≡ root_inverse_place p q
  pub wy_place_lem : wy ≡ wy_place p q
  pub beta_place_lem : beta ≡ beta_place p q

-- a step leaves the lengths
pub places_kept : {n p q : ℕ} {r m t m' t' : List Float} {working w unsolved normal solved crossed wy beta : ℕ} → Places n p q r m t working w unsolved normal solved crossed wy beta
    → length m' ≡ length m → length t' ≡ length t → Places n p q r m' t' working w unsolved normal solved crossed wy beta
places_kept a em et =
    record {
      lent = lent_kept a.lent refl em et;
      working_place = a.working_place;
      w_place_lem = a.w_place_lem;
      unsolved_place_lem = a.unsolved_place_lem;
      normal_place_lem = a.normal_place_lem;
      solved_place_lem = a.solved_place_lem;
      crossed_place = a.crossed_place;
      wy_place_lem = a.wy_place_lem;
      beta_place_lem = a.beta_place_lem;
    }

pub columns_made : {n p q : ℕ} {shape : Shape} {theta x : List Float} {zt : Sparse} {working w unsolved normal solved crossed wy beta : ℕ} {r m m1 m2 m3 m4 m5 t t1 t2 : List Float}
    → q ≡ effects_of shape → Places n p q r m t working w unsolved normal solved crossed wy beta
    → Stepped n p q shape theta x zt working w unsolved normal solved crossed wy beta r m m1 m2 m3 m4 m5 t t1 t2 → ColumnsOf n p q shape theta x zt r m m5 t t2
columns_made {n} {p} {q} {shape} {theta} {x} {zt} {working} {w} {unsolved} {normal} {solved} {crossed} {wy} {beta} {r} {m} {m1} {m2} {m3} {m4} {m5} {t} {t1} {t2} e a s F offset same =
    columns_left n p q shape theta x zt r m m1 m2 m3 m4 m5 t t1 t2 e a.lent
    (rw (a.working_place, a.w_place_lem, a.unsolved_place_lem, a.normal_place_lem, a.solved_place_lem, a.crossed_place, a.wy_place_lem, a.beta_place_lem) at s) F offset same

-- ---- what the steps ask of their places

pub record Placed (n p q : ℕ) (r m t : List Float) (working w unsolved normal solved crossed wy beta : ℕ) : Type 0 where
  pub working_in : working + n ≤ length r
  pub factor_in : q * q ≤ length t
  pub w_in : w + n ≤ length t
  pub unsolved_in : unsolved + p * q ≤ length t
  pub apart : unsolved + p * q ≤ normal
  pub normal_in : normal + p * p ≤ length t
  pub rows_in_lem : solved + q * p ≤ length m
  pub solved_in : solved + p * q ≤ length m
  pub crossed_in : crossed + p * p ≤ length m
  pub wy_before : wy + q ≤ beta
  pub beta_in : beta + p ≤ length m

pub placed : {n p q : ℕ} {r m t : List Float} {working w unsolved normal solved crossed wy beta : ℕ} → Places n p q r m t working w unsolved normal solved crossed wy beta
    → Placed n p q r m t working w unsolved normal solved crossed wy beta
placed {n} {p} {q} {r} {m} {t} a =
    let lent : WorkRoom n p q r m t = a.lent in
    let laid : LaidOut n p q = laid_out lent.sizes in
    let turned : p * q ≡ q * p = mul_comm p q in
    let rows : working_row n + n ≤ length r = omega (arith, laid.rows.working, lent.rows_long) in
    let matrices : beta_place p q + p ≤ length m = omega (arith, laid.matrices.beta, laid.matrices.beta_end_lem, lent.matrices_long) in
    let terms : normal_place n p q + p * p ≤ length t = omega (arith, laid.terms.normal, laid.terms.spare, lent.terms_long) in
    rw (a.working_place, a.w_place_lem, a.unsolved_place_lem, a.normal_place_lem, a.solved_place_lem, a.crossed_place, a.wy_place_lem, a.beta_place_lem)
    (record {
      working_in = rows;
      factor_in = omega (arith, terms);
      w_in = omega (arith, terms);
      unsolved_in = omega (arith, terms, turned);
      apart = omega (arith, turned);
      normal_in = terms;
      rows_in_lem = omega (arith, matrices);
      solved_in = omega (arith, matrices, turned);
      crossed_in = omega (arith, matrices);
      wy_before = omega arith;
      beta_in = matrices;
    })
