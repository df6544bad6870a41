-- Rows within rows, squares that are written up to their diagonals, and what one turn adds to the normal matrix and to its right side. Assumes nothing.
use mathlib.Core.Path.{◌≡◌, refl, sym, ap, ◌∙◌}
use mathlib.Core.List.{List}
use mathlib.Core.Logic.{inl, ⊎_elim}
use Prim.Native.Nat.{ℕ, ◌+◌, ◌*◌, ◌-◌, ◌<◌, ◌≤◌}
use native.Mathlib.Nat.{not-suc-le-zero}
use native.Mathlib.Omega.{arith}
use borrow.Rule.Slice.PartMut.{put_mid, mid_of, mid_len}
use lib.ListN.{length, set, take, drop}
use lib.Seq.{ext_get_or}
use lib.Ieee.{Float, nan}
use Rattle.base.specs.Number.{◌⊖◌}
use Rattle.base.specs.Sum.{◌!◌, sum_to, dot_of, product_from}
use Rattle.base.specs.List.{at, build, matrix, fill_to, fill_at, grid_to, entry_of}
use Rattle.base.specs.Rows.{row, Only, Wrote}
use Rattle.base.proofs.Commutes.{times_commutes}
use Rattle.base.proofs.Sums.{lt_or_ge, sum_cong}
use Rattle.base.proofs.Fills.{row_fits, build_at, fill_build, length_fill, copied, fillat_step, fillat_above, matrix_at, matrix_length, grid_matrix}
use Rattle.base.proofs.Rows.{row_at, row_length, row_build, part_is, part_wrote, only_none, only_row, only_trans, only_wide, fillat_only}
use Rattle.base.proofs.TwoRows.{part_made}
use Rattle.model.specs.declared.sizes.Shape.{Shape}
use Rattle.lambda.specs.Product.{lambda_transposed_at}
use Rattle.factor.specs.Sides.{ldl_columns_at}
use Rattle.linear.specs.Product.{mixed_term}
use Rattle.linear.specs.SideBySide.{CrossLeft}
use Rattle.columns.specs.Pieces.{column_at, unsolved_at, less_mixed, less_solved, LowerWrote}

-- ---- rows within rows

pub row_within : (b n o k : ℕ) (w : List Float) → b + n ≤ length w → o + k ≤ n → row (b + o) k w ≡ row o k (row b n w)
row_within b n o k w fits inside =
    ext_get_or nan (row (b + o) k w) (row o k (row b n w)) (long ∙ sym (row_length o k (row b n w) fits''))
    (λ i l.
    let l' : i < k = omega (arith, long) in
    let l'' : o + i < n = omega arith in
    let place : b + o + i ≡ b + (o + i) = omega arith in
    row_at (b + o) k w fits' i l' ∙ ap (λ (j : ℕ). w ! j) place ∙ sym (row_at o k (row b n w) fits'' i l' ∙ row_at b n w fits (o + i) l''))
  where
    fits' : b + o + k ≤ length w
    fits' = omega arith

    fits'' : o + k ≤ length (row b n w)
    fits'' = omega (arith, row_length b n w fits)

    long : length (row (b + o) k w) ≡ k
    long = row_length (b + o) k w fits'

-- a row of a matrix
pub matrix_line : (r c : ℕ) (f : ℕ → ℕ → Float) (a : ℕ) → a < r → row (a * c) c (matrix r c f) ≡ build (f a) c
matrix_line r c f a l = row_build (a * c) c (matrix r c f) (omega (arith, row_fits a r c l, matrix_length r c f)) (f a) (λ k m. matrix_at r c f a k l m)

-- a part that came back filled by rows
pub matrix_part : (b r c e : ℕ) (f : ℕ → ℕ → Float) (w ys : List Float) → e ≡ b + r * c → e ≤ length w → length ys ≡ length (mid_of b (e - b) w)
    → ys ≡ grid_to r c f (mid_of b (e - b) w) → Wrote b (r * c) (matrix r c f) w (put_mid b (e - b) w ys)
matrix_part b r c e f w ys eb h l y =
    let k : length (mid_of b (e - b) w) ≡ r * c = mid_len b e w h ∙ omega arith in
    part_made b (r * c) e (matrix r c f) w ys eb h l (y ∙ grid_matrix r c f (mid_of b (e - b) w) k)

-- ---- squares up to their diagonals

-- a part that came back with its lower triangle
pub lower_part : (b p e : ℕ) (f : ℕ → ℕ → Float) (v ys : List Float) → e ≡ b + p * p → e ≤ length v → CrossLeft p f (mid_of b (e - b) v) ys → LowerWrote b p f v (put_mid b (e - b) v ys)
lower_part b p e f v ys eb h c =
    let k : length ys ≡ p * p = c.len ∙ mid_len b e v h ∙ omega arith in
    let y : Wrote b (p * p) ys v (put_mid b (e - b) v ys) = part_wrote b (p * p) e v ys eb h k in
    record {
      below = λ i j li lj.
          sym (row_at b (p * p) (put_mid b (e - b) v ys) (omega (arith, y.only.len)) (i * p + j) (omega (arith, row_fits i p p li)))
          ∙ ap (λ (z : List Float). z ! (i * p + j)) y.row' ∙ c.below i j li lj;
      only = y.only;
    }

-- its rows below a are written
pub record LowerTo (a b p : ℕ) (f : ℕ → ℕ → Float) (v w : List Float) : Type 0 where
  pub below : (i j : ℕ) → i < a → j ≤ i → w ! (b + (i * p + j)) ≡ f i j
  pub only : Only b (p * p) v w

pub lower_none : (b p : ℕ) (f : ℕ → ℕ → Float) (v : List Float) → LowerTo 0 b p f v v
lower_none b p f v = record { below = λ i j l _. absurd (not-suc-le-zero l); only = only_none b (p * p) v }

-- one row more
pub lower_more : (a b p : ℕ) (f : ℕ → ℕ → Float) (v w w' : List Float) → a < p → b + p * p ≤ length v → LowerTo a b p f v w → Wrote (b + a * p) (a + 1) (build (f a) (a + 1)) w w'
    → LowerTo (a + 1) b p f v w'
lower_more a b p f v w w' l h before wrote =
    record { below = more; only = only_trans before.only (only_wide (b + a * p) (a + 1) b (p * p) (omega arith) (omega (arith, row_fits a p p l)) wrote.only) }
  where
    here : (j : ℕ) → j ≤ a → w' ! (b + (a * p + j)) ≡ f a j
    here j lj =
        let place : b + (a * p + j) ≡ b + a * p + j = omega arith in
        let lj' : j < a + 1 = omega arith in
        ap (λ (k : ℕ). w' ! k) place
        ∙ sym (row_at (b + a * p) (a + 1) w' (omega (arith, row_fits a p p l, wrote.only.len, before.only.len)) j lj')
        ∙ ap (λ (z : List Float). z ! j) wrote.row' ∙ build_at (f a) (a + 1) j lj'

    more : (i j : ℕ) → i < a + 1 → j ≤ i → w' ! (b + (i * p + j)) ≡ f i j
    more i j li lj =
        ⊎_elim (λ (m : i < a). wrote.only.kept (b + (i * p + j)) (inl (omega (arith, row_fits i a p m))) ∙ before.below i j m lj)
        (λ (m : a ≤ i). let e : i ≡ a = omega arith in rw e (here j (omega arith))) (lt_or_ge i a)

pub lower_end : (a b p : ℕ) (f : ℕ → ℕ → Float) (v w : List Float) → a ≤ p → p ≤ a → LowerTo a b p f v w → LowerWrote b p f v w
lower_end a b p f v w l h done = record { below = λ i j li lj. done.below i j (omega arith) lj; only = done.only }

-- ---- V and W

-- a column, then Λ' over it
pub unsolved_made : (shape : Shape) (theta S : List Float) (p q a : ℕ) (before mid after : List Float) → length before ≡ q → mid ≡ fill_to q (column_at S p a) before
    → after ≡ fill_to q (lambda_transposed_at shape theta mid) mid → after ≡ build (unsolved_at shape theta S p q a) q
unfolding unsolved_at
unsolved_made shape theta S p q a before mid after h m e =
    let m' : mid ≡ build (column_at S p a) q = m ∙ fill_build q (column_at S p a) before h in
    let l : length mid ≡ q = ap length m ∙ length_fill q (column_at S p a) before ∙ h in
    e ∙ fill_build q (lambda_transposed_at shape theta mid) mid l ∙ rw m' refl

-- a copy, then the solutions over it
pub solved_made : (p q : ℕ) (l v before mid after : List Float) → length v ≡ p * q → length before ≡ p * q → mid ≡ fill_to (p * q) (entry_of v) before
    → after ≡ grid_to p q (ldl_columns_at q l mid) mid → after ≡ matrix p q (ldl_columns_at q l v)
solved_made p q l v before mid after lv lb m e =
    let m' : mid ≡ v = m ∙ copied (p * q) v before lv lb in
    e ∙ rw m' (grid_matrix p q (ldl_columns_at q l v) v lv)

-- ---- the normal matrix and its right side

-- an entry, its products the other way round
less_mixed_lem : (C v W u : List Float) (p q a b : ℕ) → u ≡ row (a * q) q v → at p C a b ⊖ sum_to q (product_from W (b * q) u) ≡ less_mixed C v W p q a b
unfolding less_mixed
less_mixed_lem C v W u p q a b e =
    rw e (ap (λ (y : Float). at p C a b ⊖ y) (sum_cong q _ (mixed_term (row (a * q) q v) W q b) (λ i l. times_commutes (at q W b i) (row (a * q) q v ! i))))

-- one entry more of row a, v being the list before the row was begun and w the list now
module _ (C W : List Float) (p q a unsolved normal : ℕ) (v : List Float) (l : a < p) (apart : unsolved + p * q ≤ normal) (fits : normal + p * p ≤ length v) where
  abbrev rule : ℕ → Float
  rule = less_mixed C (row unsolved (p * q) v) W p q a

  pub mixed_step : (d u ve o b : ℕ) (w : List Float) (s : Float) → d ≡ a * p → u ≡ a * q → ve ≡ unsolved + u + q → o ≡ b * q → b ≤ a
      → s ≡ sum_to q (product_from W o (take (ve - (unsolved + u)) (drop (unsolved + u) w))) → w ≡ fill_at (normal + d) b rule v
      → set w (normal + d + b) ((C ! (d + b)) ⊖ s) ≡ fill_at (normal + d) (b + 1) rule v
  mixed_step d u ve o b w s ed eu ev eo lb es e = ap (λ (y : Float). set w (normal + d + b) y) entry ∙ fillat_step (normal + d) rule v b w e
    where
      ends : unsolved + u + q ≤ normal
      ends = omega (arith, eu, apart, row_fits a p q l)

      same : row (unsolved + u) q w ≡ row (unsolved + u) q v
      same = rw e (only_row (unsolved + u) q (normal + d) (a + 1) (inl (omega (arith, ends))) (omega (arith, ends)) (fillat_only (normal + d) (a + 1) b rule v (omega arith)))

      inside : row (unsolved + u) q v ≡ row (a * q) q (row unsolved (p * q) v)
      inside = rw eu (row_within unsolved (p * q) (a * q) q v (omega arith) (row_fits a p q l))

      held : take (ve - (unsolved + u)) (drop (unsolved + u) w) ≡ row (a * q) q (row unsolved (p * q) v)
      held = part_is (unsolved + u) q ve w ev ∙ same ∙ inside

      entry : (C ! (d + b)) ⊖ s ≡ rule b
      entry = rw (es, ed, eo) (less_mixed_lem C (row unsolved (p * q) v) W _ p q a b held)

-- one row more, v being the list before the first and w the list now
pub normal_more : (a p q crossed solved unsolved normal ce se : ℕ) (m v w w' : List Float) → a < p → unsolved + p * q ≤ normal → normal + p * p ≤ length v → ce ≡ crossed + p * p → se ≡ solved + p * q
    → LowerTo a normal p (less_mixed (row crossed (p * p) m) (row unsolved (p * q) v) (row solved (p * q) m) p q) v w
    → Wrote (normal + a * p) (a + 1) (build (less_mixed (take (ce - crossed) (drop crossed m)) (row unsolved (p * q) w) (take (se - solved) (drop solved m)) p q a) (a + 1)) w w'
    → LowerTo (a + 1) normal p (less_mixed (row crossed (p * p) m) (row unsolved (p * q) v) (row solved (p * q) m) p q) v w'
normal_more a p q crossed solved unsolved normal ce se m v w w' l apart fits ec es before wrote =
    let same : row unsolved (p * q) w ≡ row unsolved (p * q) v = only_row unsolved (p * q) normal (p * p) (inl apart) (omega arith) before.only in
    lower_more a normal p (less_mixed (row crossed (p * p) m) (row unsolved (p * q) v) (row solved (p * q) m) p q) v w w' l fits before
    (rw (part_is crossed (p * p) ce m ec, part_is solved (p * q) se m es, same) at wrote)

less_solved_lem : (s v y : List Float) (q a : ℕ) → (s ! a) ⊖ dot_of q (row (a * q) q v) y ≡ less_solved s v y q a
unfolding less_solved
less_solved_lem s v y q a = refl

-- one entry more of the right side, v being the list before the first and w the list now
module _ (p q unsolved wy beta : ℕ) (t v : List Float) (room : unsolved + p * q ≤ length t) (apart : wy + q ≤ beta) (fits : beta + p ≤ length v) where
  abbrev side_rule : ℕ → Float
  side_rule = less_solved (row beta p v) (row unsolved (p * q) t) (row wy q v) q

  pub side_step : (a u ve ye : ℕ) (w : List Float) (s : Float) → a < p → u ≡ a * q → ve ≡ unsolved + u + q → ye ≡ wy + q
      → s ≡ dot_of q (take (ve - (unsolved + u)) (drop (unsolved + u) t)) (take (ye - wy) (drop wy w)) → w ≡ fill_at beta a side_rule v
      → set w (beta + a) ((w ! (beta + a)) ⊖ s) ≡ fill_at beta (a + 1) side_rule v
  side_step a u ve ye w s l eu ev ey es e = ap (λ (y : Float). set w (beta + a) y) entry ∙ fillat_step beta side_rule v a w e
    where
      column : take (ve - (unsolved + u)) (drop (unsolved + u) t) ≡ row (a * q) q (row unsolved (p * q) t)
      column = part_is (unsolved + u) q ve t ev ∙ rw eu (row_within unsolved (p * q) (a * q) q t room (row_fits a p q l))

      solved : take (ye - wy) (drop wy w) ≡ row wy q v
      solved = part_is wy q ye w ey ∙ rw e (only_row wy q beta p (inl apart) (omega arith) (fillat_only beta p a side_rule v (omega arith)))

      stood : w ! (beta + a) ≡ row beta p v ! a
      stood = ap (λ (y : List Float). y ! (beta + a)) e ∙ fillat_above beta a side_rule v (beta + a) (omega arith) ∙ sym (row_at beta p v fits a l)

      entry : (w ! (beta + a)) ⊖ s ≡ side_rule a
      entry = rw (stood, es, column, solved) (less_solved_lem (row beta p v) (row unsolved (p * q) t) (row wy q v) q a)
