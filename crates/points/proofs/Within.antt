-- Λu beside u in one slice, column after column: the row of Λu goes as a list of its own would. Assumes nothing.
use mathlib.Core.Path.{◌≡◌, refl, sym, ap, ◌∙◌}
use mathlib.Core.List.{List}
use mathlib.Core.Logic.{⊎_elim}
use Prim.Native.Nat.{ℕ, ◌+◌, ◌-◌, ◌<◌, ◌≤◌}
use native.Mathlib.Omega.{arith}
use lib.ListN.{length}
use lib.Ieee.{Float}
use Rattle.base.specs.Sum.{◌!◌}
use Rattle.base.specs.List.{build, zero_at, fill_to, fill_at}
use Rattle.base.specs.Rows.{row, Apart, Only}
use Rattle.base.proofs.Sums.{lt_or_ge}
use Rattle.base.proofs.Fills.{build_is, fill_build, fillat_cong, fillat_below, fillat_above, fillat_in, length_fillat}
use Rattle.base.proofs.Rows.{row_length, row_at, row_build, only_row, only_trans, only_wide, fillat_only}
use Rattle.model.specs.Shape.{effects_of, InRange}
use Rattle.model.specs.declared.sizes.Shape.{Shape}
use Rattle.lambda.specs.Column.{column_of}
use Rattle.lambda.specs.Product.{across_row, lambda_times_at, column_added_at}
use Rattle.lambda.proofs.ColumnPlaces.{column_rows}
use Rattle.lambda.proofs.Entries.{times_to, times_none, times_step}

-- ---- a stretch of a row that is filled
module _ (b n j c : ℕ) (f : ℕ → Float) (w : List Float) (h : b + n ≤ length w) (l : j + c ≤ n) where
  abbrev whole : List Float
  whole = fill_at (b + j) c f w

  abbrev part : List Float
  part = fill_at j c f (row b n w)

  at_place : (i : ℕ) → i < n → whole ! (b + i) ≡ part ! i
  at_place i g =
      ⊎_elim (λ (a : i < j). fillat_below (b + j) c f w (b + i) (omega arith) ∙ sym (row_at b n w h i g) ∙ sym (fillat_below j c f (row b n w) i a))
      (λ (a : j ≤ i).
      ⊎_elim
      (λ (d : i < j + c).
      let p : b + j + (i - j) ≡ b + i = omega arith in
      let q : j + (i - j) ≡ i = omega arith in
      let x : whole ! (b + j + (i - j)) ≡ f (i - j) = fillat_in (b + j) c f w (omega arith) (i - j) (omega arith) in
      let y : part ! (j + (i - j)) ≡ f (i - j) = fillat_in j c f (row b n w) (omega (arith, row_length b n w h)) (i - j) (omega arith) in
      (rw p at x) ∙ sym (rw q at y))
      (λ (d : j + c ≤ i). fillat_above (b + j) c f w (b + i) (omega arith) ∙ sym (row_at b n w h i g) ∙ sym (fillat_above j c f (row b n w) i d))
      (lt_or_ge i (j + c)))
      (lt_or_ge i j)

  pub row_filled : row b n whole ≡ part
  row_filled =
      row_build b n whole (omega (arith, length_fillat (b + j) c f w)) (λ i. part ! i) at_place
      ∙ sym (build_is (λ i. part ! i) n part (length_fillat j c f (row b n w) ∙ row_length b n w h) (λ i g. refl))

-- ---- the columns, u and the wiped row at b standing in v
module _ (s : Shape) (theta : List Float) (q u b : ℕ) (v : List Float) (e : q ≡ effects_of s) (hb : b + q ≤ length v) where
  abbrev U : List Float
  U = row u q v

  pub within_none : row b q v ≡ build zero_at q → row b q v ≡ fill_to q (times_to s theta U 0) (row b q v)
  within_none z =
      times_none s theta U q (row b q v) (row b q v) (omega (arith, row_length b q v hb))
      (z ∙ sym (fill_build q zero_at (row b q v) (row_length b q v hb)))

  -- one column more
  module _ (hu : u + q ≤ length v) (a : Apart u q b q) (r : InRange s) (j : ℕ) (l : j < q) (w : List Float) (o : Only b q v w) (x : row b q w ≡ fill_to q (times_to s theta U j) (row b q v)) where
    abbrev first : ℕ
    first = (column_of s j).first

    abbrev count : ℕ
    count = (column_of s j).count

    abbrev next : List Float
    next = fill_at (b + j) count (column_added_at theta first (w ! (u + j)) w (b + j)) w

    long : b + q ≤ length w
    long = omega (arith, o.len, hb)

    fits : j + count ≤ q
    fits = omega (arith, e, column_rows s j r (omega (arith, e)))

    same_u : w ! (u + j) ≡ U ! j
    same_u = sym (row_at u q w (omega (arith, o.len, hu)) j l) ∙ ap (λ (y : List Float). y ! j) (only_row u q b q a hu o)

    added : (t : ℕ) → t < count → column_added_at theta first (w ! (u + j)) w (b + j) t ≡ column_added_at theta first (U ! j) (row b q w) j t
    unfolding column_added_at
    added t m =
        let p : b + j + t ≡ b + (j + t) = omega arith in
        rw (same_u, p, row_at b q w long (j + t) (omega (arith, fits))) refl

    pub within_step : row b q next ≡ fill_to q (times_to s theta U (j + 1)) (row b q v)
    within_step =
        row_filled b q j count (column_added_at theta first (w ! (u + j)) w (b + j)) w long fits
        ∙ fillat_cong j count (column_added_at theta first (w ! (u + j)) w (b + j)) (column_added_at theta first (U ! j) (row b q w) j) (row b q w) added
        ∙ times_step s theta U q j (row b q v) (row b q w) r (omega (arith, e)) e (omega (arith, row_length b q v hb)) x

    pub within_only : Only b q v next
    within_only =
        only_trans o (only_wide (b + j) count b q (omega arith) (omega (arith, fits)) (fillat_only (b + j) count count (column_added_at theta first (w ! (u + j)) w (b + j)) w (omega arith)))

  -- all of them
  pub within_all : (j : ℕ) (w : List Float) → j ≤ q → q ≤ j → row b q w ≡ fill_to q (times_to s theta U j) (row b q v) → row b q w ≡ build (lambda_times_at s theta U) q
  unfolding times_to lambda_times_at across_row
  within_all j w m g x =
      let d : j ≡ effects_of s = omega (arith, e) in
      x ∙ fill_build q (times_to s theta U j) (row b q v) (row_length b q v hb) ∙ ap (λ (k : ℕ). build (times_to s theta U k) q) d
