-- One more row of Z' read: where it stands, that it lies in the job and its entries in the lent lists, and what these then hold. Assumes nothing.
use mathlib.Core.Path.{◌≡◌, refl, sym, ◌∙◌}
use mathlib.Core.List.{List, ◌++◌}
use Prim.Native.Nat.{ℕ, ◌+◌, ◌*◌, ◌≤◌, ◌<◌}
use native.Mathlib.Numerals.{add-one}
use native.Mathlib.Omega.{arith}
use lib.Ieee.{Float}
use lib.ListN.{length, take}
use Rattle.base.specs.List.{build}
use Rattle.job.specs.Lists.{counts, join_to, laid}
use Rattle.job.specs.Format.{short, row_at, start_of, column_read, value_read}
use Rattle.job.specs.Job.{columns_of, values_of}
use Rattle.job.proofs.RowLaws.{row_next, start_next, row_before, row_starts, columns_before, values_before}
use Rattle.job.proofs.ListLaws.{laid_on}

-- row r of q rows, which begins at byte at after e entries, lies in the job, and its entries in the lent lists
pub row_fits : (s : List ℕ) (r q at e : ℕ) → length s ≤ 65536 → row_at s q ≤ length s → r < q → at ≡ row_at s r → e ≡ start_of s r
    → (at + 2 + 10 * short s at ≤ length s) × (e + short s at ≤ 6553)
row_fits s r q at e l w h i j =
    let b : row_at s (r + 1) ≤ row_at s q = row_before s (r + 1) q (omega arith) in
    let n = row_next s r in
    let m = start_next s r in
    let k = row_starts s (r + 1) in
    rw (i, j) (omega arith, omega arith)

-- the next row's place, and the entries before it
pub at_step : (s : List ℕ) (r at n : ℕ) → at ≡ row_at s r → n ≡ short s at → at + (2 + 10 * n) ≡ row_at s (r + 1)
at_step s r at n h i = rw (i, h) (omega (arith, row_next s r))

pub e_step : (s : List ℕ) (r at n e : ℕ) → at ≡ row_at s r → n ≡ short s at → e ≡ start_of s r → e + n ≡ start_of s (r + 1)
e_step s r at n e h i j = rw (i, h, j) (sym (start_next s r))

-- the lent columns and values
pub columns_step : (s : List ℕ) (r at n e : ℕ) (b w v : List ℕ) → at ≡ row_at s r → n ≡ short s at → e ≡ start_of s r → w ≡ laid (join_to r (columns_of s)) b
    → v ≡ laid (take e w ++ counts (column_read s at) n) w → v ≡ laid (join_to (r + 1) (columns_of s)) b
unfolding join_to columns_of
columns_step s r at n e b w v h i j k l =
    l ∙ laid_on (join_to r (columns_of s)) (counts (column_read s at) n) b w e (columns_before s r ∙ sym j) k ∙ rw (add-one, i, h) refl

pub values_step : (s : List ℕ) (r at n e : ℕ) (b w v : List Float) → at ≡ row_at s r → n ≡ short s at → e ≡ start_of s r → w ≡ laid (join_to r (values_of s)) b
    → v ≡ laid (take e w ++ build (value_read s at) n) w → v ≡ laid (join_to (r + 1) (values_of s)) b
unfolding join_to values_of
values_step s r at n e b w v h i j k l =
    l ∙ laid_on (join_to r (values_of s)) (build (value_read s at) n) b w e (values_before s r ∙ sym j) k ∙ rw (add-one, i, h) refl

-- no row is read yet
pub join_none : {A : Type 0} (f : ℕ → List A) (b : List A) → b ≡ laid (join_to 0 f) b
unfolding join_to laid
join_none f b = refl
