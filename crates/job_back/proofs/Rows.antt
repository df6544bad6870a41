-- The rows of Z' of a written job say what was written. Assumes nothing.
use mathlib.Core.Path.{◌≡◌, refl, sym, ap, ◌∙◌}
use mathlib.Core.List.{List, ◌++◌}
use Prim.Native.Nat.{ℕ, zero, suc, ◌+◌, ◌*◌, ◌-◌, ◌≤◌, ◌<◌}
use native.Mathlib.Nat.{zero-add}
use native.Mathlib.Omega.{arith}
use lib.Ieee.{Float, nan}
use lib.ListN.{length, take, drop, length-append, length-drop}
use lib.Seq.{length-take-le, take-add, take_all, get_or-take, get_or-drop}
use Rattle.base.specs.List.{build}
use Rattle.base.specs.Sum.{◌!◌, ◌!!◌}
use Rattle.base.specs.Sparse.{Sparse}
use Rattle.base.proofs.Fills.{build_is}
use Rattle.bits.specs.Bits.{bits_of, double_of}
use Rattle.job.specs.Lists.{counts, join_to}
use Rattle.job.specs.Format.{z_at, short, row_at, start_of, column_read, value_read}
use Rattle.job.specs.Job.{columns_of, values_of}
use Rattle.job.specs.Write.{packed, short_bytes, number_bytes, entry_bytes, row_count, row_bytes}
use Rattle.job.proofs.ByteLaws.{Bytes}
use Rattle.job_back.specs.Sayable.{RowsSayable}
use Rattle.job_back.proofs.Pieces.{Has, has_left, has_right, has_join, has_number, has_double, peel}
use Rattle.job_back.proofs.Places.{short_length, entries_before, row_length}
use Rattle.job_back.proofs.Body.{counts_same, counts_of_lem}

-- thirteen bits and three zero bits
pub record ShortSaid (s : List ℕ) (p c : ℕ) : Type 0 where
  pub said : short s p ≡ c
  pub spare : bits_of s (8 * p + 13) 3 ≡ 0

short_said : (s : List ℕ) (p c : ℕ) → Bytes s → Has s p (short_bytes c) → c < 8192 → ShortSaid s p c
unfolding short_bytes packed
short_said s p c b h l =
    let whole = has_number s p 2 _ b h (omega arith) in
    let q = peel s (8 * p) 13 3 _ 0 whole (omega arith) in
    record { said = q.0 ∙ zero-add c; spare = q.1 }

-- entry e of Z', at byte p
pub record EntrySaid (z : Sparse) (s : List ℕ) (p e : ℕ) : Type 0 where
  pub column : ShortSaid s p (z.columns !! e)
  pub value : double_of s (p + 2) ≡ z.values ! e

module _ (z : Sparse) (rows entries : ℕ) (q : RowsSayable rows entries z) where
  start_most : (d r : ℕ) → r + d ≡ rows → (z.starts !! r) ≤ entries
  start_most zero r e = let t : r ≡ rows = omega arith in rw t (omega (arith, q.last))
  start_most (suc d) r e = omega (arith, q.rising r (omega arith), start_most d (r + 1) (omega arith))

  pub start_few : (r : ℕ) → r ≤ rows → (z.starts !! r) ≤ entries
  start_few r l = start_most (rows - r) r (omega arith)

  -- the rows before row r
  pub rows_before : (r : ℕ) → r ≤ rows → length (join_to r (row_bytes z)) ≡ 2 * r + 10 * (z.starts !! r)
  unfolding join_to
  rows_before zero l = rw q.first refl
  rows_before (suc r) l =
      let e : suc r ≡ r + 1 = omega arith in
      let h = q.rising r (omega arith) in
      length-append (join_to r (row_bytes z)) (row_bytes z r) ∙ rw (rows_before r (omega arith), row_length z r, e) (omega arith)

module _ (s : List ℕ) (bytes : Bytes s) (z : Sparse) (rows entries : ℕ) (q : RowsSayable rows entries z) (few : entries < 8192) where
  module _ (a : ℕ) (h : Has s a (join_to rows (row_bytes z))) where
    row_has : (r : ℕ) → r < rows → Has s (a + (2 * r + 10 * (z.starts !! r))) (row_bytes z r)
    row_has r l = rw (rows_before z rows entries q r (omega arith)) at (has_join s a rows r (row_bytes z) h l)

    pub row_said : (r : ℕ) → r < rows → ShortSaid s (a + (2 * r + 10 * (z.starts !! r))) (row_count z r)
    unfolding row_bytes
    row_said r l =
        let k = start_few z rows entries q (r + 1) (omega arith) in
        short_said s _ (row_count z r) bytes (has_left s _ (short_bytes (row_count z r)) _ (row_has r l)) (omega arith)

    pub entry_said : (r i : ℕ) → r < rows → i < row_count z r → EntrySaid z s (a + (2 * r + 10 * (z.starts !! r)) + 2 + 10 * i) ((z.starts !! r) + i)
    unfolding row_bytes entry_bytes
    entry_said r i l m =
        let p = a + (2 * r + 10 * (z.starts !! r)) in
        let e = (z.starts !! r) + i in
        let k = start_few z rows entries q (r + 1) (omega arith) in
        let rest : Has s (p + 2) (join_to (row_count z r) (λ t. entry_bytes z ((z.starts !! r) + t))) = has_right s p 2 (short_bytes (row_count z r)) _ (short_length (row_count z r)) (row_has r l) in
        let here : Has s (p + 2 + 10 * i) (entry_bytes z e) = rw (entries_before z (z.starts !! r) i) at (has_join s (p + 2) (row_count z r) i (λ t. entry_bytes z ((z.starts !! r) + t)) rest m) in
        let low : e < entries = omega arith in
        record {
          column = short_said s (p + 2 + 10 * i) (z.columns !! e) bytes (has_left s (p + 2 + 10 * i) (short_bytes (z.columns !! e)) (number_bytes (z.values ! e)) here) (q.low e low);
          value = has_double s (p + 2 + 10 * i + 2) (z.values ! e) bytes (has_right s (p + 2 + 10 * i) 2 (short_bytes (z.columns !! e)) (number_bytes (z.values ! e)) (short_length (z.columns !! e)) here) (q.doubles e (omega (arith, q.values)));
        }

  -- ---- where the reader finds the rows
  module _ (h : Has s (z_at s) (join_to rows (row_bytes z))) where
    pub row_place : (r : ℕ) → r ≤ rows → (row_at s r ≡ z_at s + (2 * r + 10 * (z.starts !! r))) × (start_of s r ≡ (z.starts !! r))
    unfolding row_at start_of
    row_place zero l = (rw q.first (omega arith), sym q.first)
    row_place (suc r) l =
        let e : suc r ≡ r + 1 = omega arith in
        let b = row_place r (omega arith) in
        let c = (row_said (z_at s) h r (omega arith)).said in
        let n = q.rising r (omega arith) in
        (rw (b.0, c, e) (omega arith), rw (b.0, b.1, c, e) (omega arith))

    row_count_lem : (r : ℕ) → r < rows → short s (row_at s r) ≡ row_count z r
    row_count_lem r l = rw (row_place r (omega arith)).0 (row_said (z_at s) h r l).said

    pub starts_said : counts (start_of s) (rows + 1) ≡ z.starts
    starts_said = counts_same (start_of s) (λ i. z.starts !! i) (rows + 1) (λ i l. (row_place i (omega arith)).1) ∙ sym (counts_of_lem z.starts (rows + 1) q.starts)

    columns_to : (r : ℕ) → r ≤ rows → join_to r (columns_of s) ≡ take (z.starts !! r) z.columns
    unfolding join_to columns_of
    columns_to zero l = rw q.first refl
    columns_to (suc r) l =
        let e : suc r ≡ r + 1 = omega arith in
        let k = start_few z rows entries q (r + 1) (omega arith) in
        let n = q.rising r (omega arith) in
        let t : (z.starts !! (r + 1)) ≡ (z.starts !! r) + row_count z r = omega arith in
        let here : join_to r (columns_of s) ++ columns_of s r ≡ take (z.starts !! r) z.columns ++ take (row_count z r) (drop (z.starts !! r) z.columns) =
        rw (columns_to r (omega arith), row_count_lem r (omega arith)) (ap (λ (ys : List ℕ). take (z.starts !! r) z.columns ++ ys) (row_columns r (omega arith) (omega arith))) in
        here ∙ sym (take-add (z.starts !! r) (row_count z r) z.columns) ∙ rw e (ap (λ (n : ℕ). take n z.columns) (sym t))
      where
        row_columns : (r : ℕ) → r < rows → (z.starts !! r) + row_count z r ≤ entries → counts (column_read s (row_at s r)) (row_count z r) ≡ take (row_count z r) (drop (z.starts !! r) z.columns)
        row_columns r l k =
            let long : length (take (row_count z r) (drop (z.starts !! r) z.columns)) ≡ row_count z r = length-take-le (row_count z r) (drop (z.starts !! r) z.columns) (omega (arith, length-drop (z.starts !! r) z.columns, q.columns)) in
            counts_same (column_read s (row_at s r)) (λ i. take (row_count z r) (drop (z.starts !! r) z.columns) !! i) (row_count z r)
            (λ i m. rw (row_place r (omega arith)).0 (entry_said (z_at s) h r i l m).column.said ∙ sym (get_or-take (row_count z r) (drop (z.starts !! r) z.columns) i 0 m ∙ get_or-drop (z.starts !! r) z.columns i 0))
            ∙ sym (counts_of_lem (take (row_count z r) (drop (z.starts !! r) z.columns)) (row_count z r) long)

    values_to : (r : ℕ) → r ≤ rows → join_to r (values_of s) ≡ take (z.starts !! r) z.values
    unfolding join_to values_of
    values_to zero l = rw q.first refl
    values_to (suc r) l =
        let e : suc r ≡ r + 1 = omega arith in
        let k = start_few z rows entries q (r + 1) (omega arith) in
        let n = q.rising r (omega arith) in
        let t : (z.starts !! (r + 1)) ≡ (z.starts !! r) + row_count z r = omega arith in
        let here : join_to r (values_of s) ++ values_of s r ≡ take (z.starts !! r) z.values ++ take (row_count z r) (drop (z.starts !! r) z.values) =
        rw (values_to r (omega arith), row_count_lem r (omega arith)) (ap (λ (ys : List Float). take (z.starts !! r) z.values ++ ys) (row_values r (omega arith) (omega arith))) in
        here ∙ sym (take-add (z.starts !! r) (row_count z r) z.values) ∙ rw e (ap (λ (n : ℕ). take n z.values) (sym t))
      where
        row_values : (r : ℕ) → r < rows → (z.starts !! r) + row_count z r ≤ entries → build (value_read s (row_at s r)) (row_count z r) ≡ take (row_count z r) (drop (z.starts !! r) z.values)
        row_values r l k =
            let long : length (take (row_count z r) (drop (z.starts !! r) z.values)) ≡ row_count z r = length-take-le (row_count z r) (drop (z.starts !! r) z.values) (omega (arith, length-drop (z.starts !! r) z.values, q.values)) in
            sym (build_is (value_read s (row_at s r)) (row_count z r) (take (row_count z r) (drop (z.starts !! r) z.values)) long
            (λ i m. get_or-take (row_count z r) (drop (z.starts !! r) z.values) i nan m ∙ get_or-drop (z.starts !! r) z.values i nan ∙ sym (rw (row_place r (omega arith)).0 (entry_said (z_at s) h r i l m).value)))

    pub columns_said : join_to rows (columns_of s) ≡ z.columns
    columns_said = columns_to rows (omega arith) ∙ rw q.last (take_all entries z.columns (omega (arith, q.columns)))

    pub values_said : join_to rows (values_of s) ≡ z.values
    values_said = values_to rows (omega arith) ∙ rw q.last (take_all entries z.values (omega (arith, q.values)))
