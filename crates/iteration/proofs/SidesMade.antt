-- The right sides: wy, and the columns after it. Assumes nothing.
use mathlib.Core.Path.{◌≡◌, ap, ◌∙◌}
use mathlib.Core.List.{List}
use mathlib.Core.Logic.{inl}
use Prim.Native.Nat.{ℕ, ◌+◌, ◌-◌, ◌*◌}
use native.Mathlib.Omega.{arith}
use lib.ListN.{take, drop}
use lib.Ieee.{Float}
use Rattle.base.specs.Rows.{row, Wrote}
use Rattle.base.specs.Sparse.{Sparse}
use Rattle.base.proofs.Rows.{part_is, front_is, only_row, only_wide, only_trans}
use Rattle.factor.specs.Substitution.{ldl_solve}
use Rattle.factor.specs.Triangle.{SameBelow}
use Rattle.layout.specs.Layout.{WorkRoom}
use Rattle.layout.specs.WorkRows.{weighted_row, working_row}
use Rattle.layout.specs.WorkMatrices.{system_place, wy_place, matrices_length}
use Rattle.layout.specs.WorkTerms.{w_place}
use Rattle.layout.proofs.LaidOut.{laid_out}
use Rattle.model.specs.Shape.{effects_of}
use Rattle.model.specs.declared.sizes.Shape.{Shape}
use Rattle.rule.specs.Given.{Design, q_of, design_of}
use Rattle.rule.specs.Solve.{side_of, normal_side}
use Rattle.solve.specs.Ready.{Whatever, SolvedSide}
use Rattle.columns.specs.Columns.{ColumnsLeft, ColumnsOf}
use Rattle.iteration.specs.Solving.{SidesOf}

-- the solution of a right side, q being how many effects there are
solved_side_at : (q b : ℕ) (D : Design) (v L m m' F : List Float) → q ≡ q_of D → SolvedSide v L b m m' D → SameBelow q L F → Wrote b q (ldl_solve q F (side_of D v)) m m'
solved_side_at q b D v L m m' F e s same = rw e (s F (rw e at same))

module _ (n p q weighted end wy : ℕ) (shape : Shape) (theta x : List Float) (zt : Sparse) (r m m' m'' t t' : List Float) where
  pub sides_made : q ≡ effects_of shape → WorkRoom n p q r m t → weighted ≡ weighted_row n → end ≡ weighted + n → wy ≡ wy_place p q
      → Whatever n shape theta zt (SolvedSide (take (end - weighted) (drop weighted r)) (take (q * q - 0) (drop 0 t)) wy m m') → ColumnsOf n p q shape theta x zt r m' m'' t t'
      → SidesOf n p q shape theta x zt r m m'' t t'
  sides_made e lent ew ee ey s c F offset same =
      let same' : SameBelow q (take (q * q - 0) (drop 0 t)) F = rw (front_is (q * q) t) same in
      let w : Wrote wy q (ldl_solve q F (side_of (design_of n p shape theta offset x zt) (take (end - weighted) (drop weighted r)))) m m' =
      solved_side_at q wy (design_of n p shape theta offset x zt) (take (end - weighted) (drop weighted r)) (take (q * q - 0) (drop 0 t)) m m' F e (s p offset x) same' in
      let w' : Wrote wy q (ldl_solve q F (side_of (design_of n p shape theta offset x zt) (row weighted n r))) m m' = rw (part_is weighted n end r ee) at w in
      let y : Wrote (wy_place p q) q (ldl_solve q F (side_of (design_of n p shape theta offset x zt) (row (weighted_row n) n r))) m m' = rw (ew, ey) at w' in
      let l : ColumnsLeft q (design_of n p shape theta offset x zt) F (row (w_place q) n t) (row (working_row n) n r) (row (wy_place p q) q m') m' m'' t t' = c F offset same in
      record {
        wy = l.wy_kept ∙ y.row';
        solved = l.solved;
        side = l.side ∙ ap (normal_side (design_of n p shape theta offset x zt) (row (w_place q) n t) (row (working_row n) n r)) y.row';
        normal = l.normal;
        system_kept = l.system_kept ∙ only_row system_place (q * q) (wy_place p q) q (inl (omega arith)) (omega (arith, (laid_out lent.sizes).matrices.beta_end_lem, lent.matrices_long)) y.only;
        matrices_only = only_trans (only_wide (wy_place p q) q 0 (matrices_length p q) (omega arith) (omega (arith, (laid_out lent.sizes).matrices.beta_end_lem)) y.only) l.matrices_only;
        terms_only = l.terms_only;
      }
