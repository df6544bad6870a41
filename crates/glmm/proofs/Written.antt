-- The parts of a fit, read from where they stand. Assumes nothing.
use mathlib.Core.Path.{◌≡◌, refl, sym, ◌∙◌}
use mathlib.Core.List.{List}
use mathlib.Core.Bool.{Bool, true, false, cond}
use Prim.Native.Nat.{ℕ, ◌-◌, ◌*◌, ◌≤◌}
use native.Mathlib.Omega.{arith}
use lib.ListN.{length, take, drop}
use lib.Ieee.{Float}
use Rattle.base.specs.Rows.{row}
use Rattle.base.proofs.Doubles.{ff}
use Rattle.base.proofs.Rows.{part_is, row_length}
use Rattle.layout.specs.WorkRows.{second_eta_row, mu_row, raw_row, rows_length}
use Rattle.layout.specs.WorkMatrices.{root_inverse_place, wy_place, u_place, b_place, beta_place, beta_end}
use Rattle.layout.proofs.Inside.{root_inverse_in, u_in, beta_in, mu_in}
use Rattle.model.specs.declared.sizes.Shape.{Shape}
use Rattle.results.specs.Nine.{Results, results_from}
use Rattle.results.specs.Room.{Readable}
use Rattle.stages.specs.Held.{eta_row, Held}
use Rattle.stages.proofs.HeldRows.{held_row}
use Rattle.glmm.specs.Standing.{Standing}

-- the results are as they were where there is no fit
pub unwritten : (b : Bool) (N M : Results) → b ≡ false → N ≡ cond b M N
unwritten true N M e = absurd (ff (sym e))
unwritten false N M e = refl

pub written_if : (b : Bool) (N N' M : Results) → b ≡ true → N' ≡ M → N' ≡ cond b M N
written_if true N N' M e w = w
written_if false N N' M e w = absurd (ff e)

module _ (shape : Shape) (n p q : ℕ) (theta y r m : List Float) (s : Standing shape n p q theta y r m) (root wy fixed fixedEnd effects next second means raw : ℕ) (e-root : root ≡ root_inverse_place p q)
    (e-wy : wy ≡ wy_place p q) (e-fixed : fixed ≡ beta_place p q) (e-fixed-end : fixedEnd ≡ beta_end p q) (e-effects : effects ≡ u_place p q) (e-next : next ≡ b_place p q) (e-second : second ≡ second_eta_row n)
    (e-means : means ≡ mu_row n) (e-raw : raw ≡ raw_row n) where
  root_part : take (wy - root) (drop root m) ≡ row (root_inverse_place p q) (p * p) m
  root_part = rw (e-root, e-wy) (part_is (root_inverse_place p q) (p * p) (wy_place p q) m refl)

  fixed_part : take (fixedEnd - fixed) (drop fixed m) ≡ row (beta_place p q) p m
  fixed_part = rw (e-fixed, e-fixed-end) (part_is (beta_place p q) p (beta_end p q) m refl)

  effects_part : take (next - effects) (drop effects m) ≡ row (u_place p q) q m
  effects_part = rw (e-effects, e-next) (part_is (u_place p q) q (b_place p q) m refl)

  means_part : take (raw - means) (drop means r) ≡ row (mu_row n) n r
  means_part = rw (e-means, e-raw) (part_is (mu_row n) n (raw_row n) r (omega arith))

  first_part : take (second - 0) (drop 0 r) ≡ row 0 n r
  first_part = rw e-second (part_is 0 n n r (omega arith))

  second_part : take (means - second) (drop second r) ≡ row n n r
  second_part = rw (e-means, e-second) (part_is n n (mu_row n) r (omega arith))

  -- both rows of the predictor are long enough
  pub rows_read : (n ≤ length (take (second - 0) (drop 0 r))) × (n ≤ length (take (means - second) (drop second r)))
  rows_read =
      let l : rows_length n ≤ length r = s.rows_long in
      (rw first_part (omega (arith, row_length 0 n r (omega arith))), rw second_part (omega (arith, row_length n n r (omega arith))))

  module _ (inSecond : Bool) (predictor : List Float) (h : Held n inSecond (take (second - 0) (drop 0 r)) (take (means - second) (drop second r)) predictor) where
    predictor_row : predictor ≡ row (eta_row n inSecond) n r
    predictor_row =
        let l : rows_length n ≤ length r = s.rows_long in
        h.is ∙ rw (first_part, second_part) (held_row n inSecond r (omega arith))

    pub parts_read : Readable shape n p q theta y (take (wy - root) (drop root m)) (take (fixedEnd - fixed) (drop fixed m)) (take (next - effects) (drop effects m)) (take (raw - means) (drop means r)) predictor
    parts_read =
        rw (root_part, fixed_part, effects_part, means_part)
        (record {
          good = s.good;
          effects = s.effects;
          numbers = s.numbers;
          y_long = s.y_long;
          columns_long = omega (arith, row_length (root_inverse_place p q) (p * p) m (root_inverse_in s.sizes m refl s.matrices_long));
          beta_long = row_length (beta_place p q) p m (beta_in s.sizes m refl s.matrices_long);
          u_long = row_length (u_place p q) q m (u_in s.sizes m refl s.matrices_long);
          mu_long = row_length (mu_row n) n r (mu_in s.sizes r refl s.rows_long);
          eta_long = h.long;
        })

    pub parts_written : (N : Results)
        → N ≡ results_from n p shape theta y (take (wy - root) (drop root m)) (take (fixedEnd - fixed) (drop fixed m)) (take (next - effects) (drop effects m)) (take (raw - means) (drop means r)) predictor
        → N ≡ results_from n p shape theta y (row (root_inverse_place p q) (p * p) m) (row (beta_place p q) p m) (row (u_place p q) q m) (row (mu_row n) n r) (row (eta_row n inSecond) n r)
    parts_written N e = rw (root_part, fixed_part, effects_part, means_part, predictor_row) at e
