-- u, b and the raw predictor, at the places of the layout. Assumes nothing.
use mathlib.Core.Path.{◌≡◌, refl, ◌∙◌}
use mathlib.Core.List.{List}
use mathlib.Core.Logic.{inr}
use Prim.Native.Nat.{ℕ, ◌+◌, ◌-◌, ◌*◌, ◌≤◌}
use native.Mathlib.Omega.{arith}
use lib.ListN.{length, take, drop, length-take, length-drop}
use borrow.Rule.Slice.PartMut.{put_mid, mid_of}
use lib.Ieee.{Float}
use Rattle.base.specs.List.{build, fill_to}
use Rattle.base.specs.Rows.{row, Wrote}
use Rattle.base.specs.Sparse.{Sparse}
use Rattle.base.proofs.Rows.{part_is, filled_part, only_row, only_trans}
use Rattle.linear.specs.Product.{effect_at}
use Rattle.lambda.specs.Product.{lambda_times_at}
use Rattle.stored.specs.Stored.{z_times_at}
use Rattle.model.specs.Shape.{effects_of}
use Rattle.model.specs.declared.sizes.Shape.{Shape}
use Rattle.layout.specs.Layout.{WorkRoom}
use Rattle.layout.specs.WorkRows.{raw_row}
use Rattle.layout.specs.WorkMatrices.{solved_place, wy_place, u_place, b_place, beta_place}
use Rattle.layout.specs.WorkTerms.{spare_place}
use Rattle.layout.proofs.LaidOut.{laid_out}
use Rattle.rule.specs.Solve.{raw_at, effects_after, b_of, z_times, raw_of}
use Rattle.rule.specs.Given.{design_of}
use Rattle.solve.specs.Effects.{EffectsLeft}
use Rattle.iteration.specs.Solving.{RawLeft}

-- a part that is lent has what it was cut for
pub part_has : (b n e : ℕ) (w : List Float) → e ≡ b + n → e ≤ length w → n ≤ length (take (e - b) (drop b w))
part_has b n e w q h = simp (length-take, length-drop) (omega arith)

-- the raw predictor over the row that holds Zb
pub raw_row_wrote : (n p raw re beta be : ℕ) (offset x m r ys : List Float) → re ≡ raw + n → re ≤ length r → be ≡ beta + p → length ys ≡ length (mid_of raw (re - raw) r)
    → ys ≡ fill_to n (raw_at offset x p (take (be - beta) (drop beta m)) (mid_of raw (re - raw) r)) (mid_of raw (re - raw) r)
    → Wrote raw n (build (raw_at offset x p (row beta p m) (row raw n r)) n) r (put_mid raw (re - raw) r ys)
raw_row_wrote n p raw re beta be offset x m r ys er hr eb l y =
    let w : Wrote raw n (build (raw_at offset x p (take (be - beta) (drop beta m)) (mid_of raw (re - raw) r)) n) r (put_mid raw (re - raw) r ys) =
    filled_part raw n re (raw_at offset x p (take (be - beta) (drop beta m)) (mid_of raw (re - raw) r)) r ys er hr l y in
    rw (← part_is beta p be m eb, ← part_is raw n re r er) w

module _ (n p q : ℕ) (shape : Shape) (theta offset x : List Float) (zt : Sparse) (r r' r'' m m' t t' : List Float) (eq : q ≡ effects_of shape) (lent : WorkRoom n p q r m t) where
  abbrev wy : List Float
  wy = row (wy_place p q) q m

  abbrev W : List Float
  W = row (solved_place q) (p * q) m

  abbrev beta : List Float
  beta = row (beta_place p q) p m

  abbrev u : List Float
  u = row (spare_place n p q) q t'

  -- what the four calls leave, put together
  pub raw_made : Wrote (spare_place n p q) q (build (effect_at wy W q p beta) q) t t' → EffectsLeft shape theta (u_place p q) q u m m'
      → Wrote (raw_row n) n (build (z_times_at zt q (row (b_place p q) q m')) n) r r' → Wrote (raw_row n) n (build (raw_at offset x p (row (beta_place p q) p m') (row (raw_row n) n r')) n) r' r''
      → RawLeft (design_of n p shape theta offset x zt) wy W beta r r'' m m' t t'
  unfolding effects_after b_of z_times raw_of
  raw_made a b c d =
      let ub : u ≡ build (effect_at wy W q p beta) q = a.row' in
      let bb : row (b_place p q) q m' ≡ build (lambda_times_at shape theta (build (effect_at wy W q p beta) q)) q = b.second ∙ rw ub refl in
      let kb : row (beta_place p q) p m' ≡ beta = only_row (beta_place p q) p (u_place p q) (q + q) (inr (omega (arith, (laid_out lent.sizes).matrices))) (omega (arith, (laid_out lent.sizes).matrices.beta_end_lem, (laid_out lent.sizes).matrices.beta, lent.matrices_long)) b.frame in
      let zb : row (raw_row n) n r' ≡ build (z_times_at zt q (build (lambda_times_at shape theta (build (effect_at wy W q p beta) q)) q)) n = c.row' ∙ rw bb refl in
      record {
        u = rw (← eq) (b.first ∙ ub);
        raw = rw (← eq) (d.row' ∙ rw (kb, zb) refl);
        rows_only = only_trans c.only d.only;
        matrices_only = rw (← eq) b.frame;
        terms_only = rw (← eq) a.only;
      }

  -- the same, with the places as the layout's functions gave them
  pub raw_laid : (wyAt solvedAt betaAt spareAt u_at b_at rawAt' : ℕ) → wyAt ≡ wy_place p q → solvedAt ≡ solved_place q → betaAt ≡ beta_place p q → spareAt ≡ spare_place n p q → u_at ≡ u_place p q
      → b_at ≡ b_place p q → rawAt' ≡ raw_row n → Wrote spareAt q (build (effect_at (row wyAt q m) (row solvedAt (p * q) m) q p (row betaAt p m)) q) t t' → EffectsLeft shape theta u_at q (row spareAt q t') m m'
      → Wrote rawAt' n (build (z_times_at zt q (row b_at q m')) n) r r' → Wrote rawAt' n (build (raw_at offset x p (row betaAt p m') (row rawAt' n r')) n) r' r''
      → RawLeft (design_of n p shape theta offset x zt) wy W beta r r'' m m' t t'
  raw_laid wyAt solvedAt betaAt spareAt u_at b_at rawAt' e1 e2 e3 e4 e5 e6 e7 a b c d =
      raw_made (rw (e1, e2, e3, e4) at a) (rw (e5, e4) at b) (rw (e7, e6) at c) (rw (e7, e3) at d)
