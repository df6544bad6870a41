-- Where the rows of Z' stand, and what a sound job's bytes reach: each row ends before the last one does, and the last where the job does. Assumes nothing.
use mathlib.Core.Path.{◌≡◌, refl, ◌∙◌}
use mathlib.Core.Bool.{true}
use mathlib.Core.List.{List}
use mathlib.Core.Logic.{⊎_elim}
use Prim.Native.Nat.{ℕ, zero, suc, ◌+◌, ◌*◌, ◌≤◌}
use native.Mathlib.Numerals.{add-one}
use native.Mathlib.Nat.{eq-or-lt_of_le, le_of_suc-le-suc, add-zero}
use native.Mathlib.Omega.{arith}
use lib.Dec.{leb}
use lib.ListN.{length, length-append}
use borrow.Author.Tests.{leb-true}
use Rattle.base.proofs.Fills.{build_length}
use Rattle.job.specs.Lists.{join_to}
use Rattle.job.specs.Format.{short, after_row, row_at, start_of, column_read, value_read, z_at, rows_in, sizes_fit, blocks, blocks_at}
use Rattle.job.specs.Places.{Fitting}
use Rattle.job.specs.Faults.{demand, is_sound, reaches, pair_fault, entry_fault, entries_fault, row_fault, rows_fault, numbers_fault, body_fault, head_fault, fault_of}
use Rattle.job.specs.Job.{columns_of, values_of}
use Rattle.job.proofs.ListLaws.{counts_length_lem}
use Rattle.job.proofs.FaultLaws.{both, demanded, reached, pair_reached, head_reached, blocks_reached}
use Rattle.job.proofs.SizeLaws.{Small, sizes_small}

-- a row ends where the next begins, and so before the last ends
pub row_next : (s : List ℕ) (r : ℕ) → row_at s (r + 1) ≡ row_at s r + 2 + 10 * short s (row_at s r)
unfolding row_at
row_next s r = rw add-one

pub start_next : (s : List ℕ) (r : ℕ) → start_of s (r + 1) ≡ start_of s r + short s (row_at s r)
unfolding start_of
start_next s r = rw add-one

pub row_before : (s : List ℕ) (r n : ℕ) → r ≤ n → row_at s r ≤ row_at s n
unfolding row_at
row_before s r zero l = let e : r ≡ 0 = omega arith in rw e (omega arith)
row_before s r (suc n) l =
    ⊎_elim
    (λ e. rw e (omega arith))
    (λ m. let h : row_at s r ≤ row_at s n = row_before s r n (le_of_suc-le-suc m) in omega arith)
    (eq-or-lt_of_le l)

-- ten bytes an entry, two a row
pub row_starts : (s : List ℕ) (r : ℕ) → row_at s r ≡ z_at s + 2 * r + 10 * start_of s r
unfolding row_at start_of
row_starts s zero = omega arith
row_starts s (suc r) = let h = row_starts s r in omega arith

-- the columns and the values of the rows before r are as many as the entries before it
pub columns_before : (s : List ℕ) (r : ℕ) → length (join_to r (columns_of s)) ≡ start_of s r
unfolding join_to start_of columns_of
columns_before s zero = refl
columns_before s (suc r) =
    length-append (join_to r (columns_of s)) (columns_of s r) ∙ rw (columns_before s r, counts_length_lem (column_read s (row_at s r)) (short s (row_at s r))) refl

pub values_before : (s : List ℕ) (r : ℕ) → length (join_to r (values_of s)) ≡ start_of s r
unfolding join_to start_of values_of
values_before s zero = refl
values_before s (suc r) =
    length-append (join_to r (values_of s)) (values_of s r) ∙ rw (values_before s r, build_length (value_read s (row_at s r)) (short s (row_at s r))) refl

-- ---- what a sound job reaches
entry_reached : (s : List ℕ) (p : ℕ) → is_sound (entry_fault s p) ≡ true → p + 10 ≤ length s
unfolding entry_fault
entry_reached s p h =
    let b = both (pair_fault s p 3) (reaches s (8 * p + 80)) h in
    let r : 8 * p + 80 ≤ length s * 8 = reached s (8 * p + 80) b.1 in
    omega arith

pub entries_reached : (s : List ℕ) (p n : ℕ) → p ≤ length s → is_sound (entries_fault s p n) ≡ true → p + 10 * n ≤ length s
unfolding entries_fault
entries_reached s p zero l h = omega arith
entries_reached s p (suc n) l h =
    let b = both (entry_fault s p) (entries_fault s (p + 10) n) h in
    let r : p + 10 ≤ length s = entry_reached s p b.0 in
    let t : p + 10 + 10 * n ≤ length s = entries_reached s (p + 10) n r b.1 in
    omega arith

pub row_whole : (s : List ℕ) (p : ℕ) → is_sound (row_fault s p) ≡ true → after_row s p ≤ length s
unfolding row_fault
row_whole s p h =
    let b = both (pair_fault s p 3) (entries_fault s (p + 2) (short s p)) h in
    let r : 8 * p + 16 ≤ length s * 8 = pair_reached s p 3 b.0 in
    entries_reached s (p + 2) (short s p) (omega arith) b.1

-- n sound rows from row r on end where the job does
pub rows_whole : (s : List ℕ) (n r : ℕ) → row_at s r ≤ length s → is_sound (rows_fault s (row_at s r) n) ≡ true → row_at s (r + n) ≡ length s
unfolding rows_fault row_at
rows_whole s zero r l h = let m : length s ≤ row_at s r = leb-true _ _ (demanded _ _ _ h) in rw add-zero (omega arith)
rows_whole s (suc n) r l h =
    let b = both (row_fault s (row_at s r)) _ h in
    let k : row_at s (suc r + n) ≡ length s = rows_whole s n (suc r) (row_whole s (row_at s r) b.0) b.1 in
    let e : r + suc n ≡ suc r + n = omega arith in
    rw e k

-- a sound job is no longer than 65,536 bytes, has sizes that fit, and ends with its last row
pub record Fits (s : List ℕ) : Type 0 where
  pub fitting : Fitting s
  pub small : Small s
  pub whole : z_at s ≤ length s
  pub ends : row_at s (rows_in s) ≡ length s

pub sound_fits : (s : List ℕ) → is_sound (fault_of s) ≡ true → Fits s
unfolding fault_of body_fault numbers_fault row_at
sound_fits s h =
    let a = both (demand (leb (length s) 65536) 25 65536) _ h in
    let b = both (head_fault s) _ a.1 in
    let d = both _ (numbers_fault s) b.1 in
    let e = both (demand (sizes_fit s) 1 0) _ d.1 in
    let f = both (reaches s (8 * z_at s)) _ e.1 in
    let w : 8 * z_at s ≤ length s * 8 = reached s (8 * z_at s) f.0 in
    let z : z_at s ≤ length s = omega arith in
    let k : row_at s (0 + rows_in s) ≡ length s = rows_whole s (rows_in s) 0 z f.1 in
    let n : 0 + rows_in s ≡ rows_in s = omega arith in
    let t : sizes_fit s ≡ true = demanded _ _ _ e.0 in
    record {
      fitting = ((leb-true _ _ (demanded _ _ _ a.0), blocks_reached s (blocks_at s) (blocks s) (head_reached s b.0) d.0), t);
      small = sizes_small s t;
      whole = z;
      ends = rw n at k;
    }
