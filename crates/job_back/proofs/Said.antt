-- What is read from a sound job is a call that a job can say: so such calls are all that there are. Assumes nothing.
use mathlib.Core.Path.{◌≡◌, refl, sym, ap, ◌∙◌}
use mathlib.Core.Bool.{Bool, true, false, not, ◌&&◌}
use mathlib.Core.List.{List, [], ◌∷◌, ◌++◌}
use mathlib.Core.Logic.{⊎_elim}
use Prim.Native.Nat.{ℕ, zero, suc, ◌+◌, ◌*◌, ◌≤◌, ◌<◌}
use native.Mathlib.Omega.{arith}
use borrow.Author.Tests.{le-leb, lt-ltb, eq-eqb, ne_eqb}
use lib.Dec.{T, leb, ltb}
use lib.Ieee.{Float, fits, binary64}
use lib.Ieee.Bits.{of_bits-fits}
use lib.ListN.{length, replicate}
use Rattle.base.specs.List.{build}
use Rattle.base.specs.Sum.{◌!◌, ◌!!◌}
use Rattle.base.proofs.Fills.{build_length}
use Rattle.base.proofs.Sums.{lt_or_ge}
use Rattle.bits.specs.Bits.{double_of}
use Rattle.bits.proofs.BitLaws.{bits_below}
use Rattle.model.specs.Settings.{good_limit}
use Rattle.model.specs.declared.names.Start.TheVariants.{Usual}
use Rattle.model.specs.Shape.{within}
use Rattle.model.proofs.Tests.{both, from_within}
use Rattle.job.specs.Lists.{counts, join_to, laid}
use Rattle.job.specs.Format.{limit_field, is_second, blocks, blocks_at, obs, cols, weighted, shifted, rows_in, thetas, groups, effects_in, shape_of, number, theta_at, y_at, weights_at, offset_at, x_at, row_at, start_of, short, entry_at, column_read, value_read, sizes_fit}
use Rattle.job.specs.Faults.{demand, is_sound, head_fault, fault_of}
use Rattle.job.specs.Job.{limit_from, start_in, settings_of, columns_of, values_of, sparse_of, sound, job_of, read_of}
use Rattle.job.specs.Write.{present, version1, version2, version_of, head_length, job_bytes}
use Rattle.job.proofs.ListLaws.{counts_length_lem, counts_at, laid_at}
use Rattle.job.proofs.FaultLaws as faults
use Rattle.job.proofs.RowLaws.{Fits, sound_fits, start_next, row_starts, columns_before, values_before}
use Rattle.job.proofs.Written.{present_back}
use Rattle.job_back.specs.Sayable.{Doubles, ZeroPast, SettingsSayable, ShapeSayable, RowsSayable, Sayable}
use Rattle.job_back.proofs.Places.{laid_out}
use Rattle.job_back.proofs.Body.{counts_same}
use Rattle.job_back.proofs.Rows.{rows_before}
use Rattle.job_back.proofs.Back.{read_back}

-- ---- entries of joined lists
all_low : (xs ys : List ℕ) → ((i : ℕ) → (xs !! i) < 8192) → ((i : ℕ) → (ys !! i) < 8192) → (i : ℕ) → ((xs ++ ys) !! i) < 8192
all_low [] ys a b i = b i
all_low (x ∷ xs) ys a b zero = a 0
all_low (x ∷ xs) ys a b (suc i) = all_low xs ys (λ k. a (suc k)) b i

counts_low : (f : ℕ → ℕ) (n : ℕ) → ((i : ℕ) → f i < 8192) → (i : ℕ) → (counts f n !! i) < 8192
unfolding counts
counts_low f zero h i = omega arith
counts_low f (suc n) h zero = h 0
counts_low f (suc n) h (suc i) = counts_low (λ k. f (suc k)) n (λ k. h (suc k)) i

joined_low : (f : ℕ → List ℕ) (n : ℕ) → ((r i : ℕ) → (f r !! i) < 8192) → (i : ℕ) → (join_to n f !! i) < 8192
unfolding join_to
joined_low f zero h i = omega arith
joined_low f (suc n) h i = all_low (join_to n f) (f n) (joined_low f n h) (h n) i

both_fit : (xs ys : List Float) → ((i : ℕ) → T (fits binary64 (xs ! i))) → ((i : ℕ) → T (fits binary64 (ys ! i))) → (i : ℕ) → T (fits binary64 ((xs ++ ys) ! i))
both_fit [] ys a b i = b i
both_fit (x ∷ xs) ys a b zero = a 0
both_fit (x ∷ xs) ys a b (suc i) = both_fit xs ys (λ k. a (suc k)) b i

built_fit : (f : ℕ → Float) (n : ℕ) → ((i : ℕ) → T (fits binary64 (f i))) → (i : ℕ) → T (fits binary64 (build f n ! i))
unfolding build fits
built_fit f zero h i = tt
built_fit f (suc n) h zero = h 0
built_fit f (suc n) h (suc i) = built_fit (λ k. f (suc k)) n (λ k. h (suc k)) i

joined_fit : (f : ℕ → List Float) (n : ℕ) → ((r i : ℕ) → T (fits binary64 (f r ! i))) → (i : ℕ) → T (fits binary64 (join_to n f ! i))
unfolding join_to fits
joined_fit f zero h i = tt
joined_fit f (suc n) h i = both_fit (join_to n f) (f n) (joined_fit f n h) (h n) i

double_fits : (s : List ℕ) (p : ℕ) → T (fits binary64 (double_of s p))
unfolding double_of
double_fits s p = of_bits-fits binary64 _

numbers_fit : (s : List ℕ) (a n : ℕ) → Doubles (build (number s a) n)
numbers_fit s a n i l = built_fit (number s a) n (λ k. double_fits s (a + 8 * k)) i

-- ---- a row of eight
row_zero : (f : ℕ → ℕ) (n : ℕ) → ZeroPast n (laid (counts f n) (replicate 8 0))
row_zero f n =
    ap (λ (l : List ℕ). laid l (replicate 8 0))
    (counts_same f (λ i. laid (counts f n) (replicate 8 0) !! i) n (λ i l. sym (laid_at (counts f n) (replicate 8 0) i 0 (omega (arith, counts_length_lem f n)) ∙ counts_at f n i l)))

-- ---- the limit
limit_good : (l : ℕ) → l < 1024 → not (ltb 1000 l && ltb l 1023) ≡ true → good_limit (limit_from l) ≡ true
unfolding good_limit limit_from
limit_good l h e =
    ⊎_elim
    (λ (a : 1000 < l). ⊎_elim (λ (b : l < 1023). let z : not true ≡ true = rw (lt-ltb 1000 l a, lt-ltb l 1023 b) at e in cc) (λ (b : 1023 ≤ l). rw (eq-eqb l 1023 (omega arith))) (lt_or_ge l 1023))
    (λ (a : l ≤ 1000). rw (ne_eqb l 1023 (λ q. omega arith), le-leb l 1000 a))
    (lt_or_ge 1000 l)

limit_of_lem : (s : List ℕ) → is_sound (head_fault s) ≡ true → good_limit (limit_from (limit_field s)) ≡ true
limit_of_lem s h = limit_good (limit_field s) (bits_below s 38 10) (faults.headed s h).limited

-- ---- the version
version_long : (s : List ℕ) (b : Bool) → is_second s ≡ b → head_length (version_of s) ≡ blocks_at s
unfolding version_of blocks_at
version_long s true e = rw e
version_long s false e = rw e

version_start : (s : List ℕ) (b : Bool) → is_second s ≡ b → version_of s ≡ version1 → start_in s ≡ Usual
unfolding version_of start_in
version_start s true e v = let never : version2 ≡ version1 = rw e at v in cc
version_start s false e v = rw e

-- ---- the parts
module _ (s : List ℕ) (h : is_sound (fault_of s) ≡ true) where
  whole : Fits s
  whole = sound_fits s h

  headed : is_sound (head_fault s) ≡ true
  unfolding fault_of
  headed = (faults.both (head_fault s) _ (faults.both (demand (leb (length s) 65536) 25 65536) _ h).1).0

  columned : 1 ≤ cols s
  unfolding sizes_fit
  columned =
      let a : (within 1 512 (obs s) ≡ true) × (_ ≡ true) = both whole.fitting.1 in
      let b : (within 1 16 (cols s) ≡ true) × (_ ≡ true) = both a.1 in
      let c : (1 ≤ cols s) × (cols s ≤ 16) = from_within b.0 in
      c.0

  settings_sayable : SettingsSayable (settings_of s)
  unfolding settings_of
  settings_sayable =
      record { some = whole.small.some; few = whole.small.rows; column = columned; columns = whole.small.wide; wish = bits_below s 11 5; limit = limit_of_lem s headed }

  shape_sayable : ShapeSayable (shape_of s)
  shape_sayable = record { good = whole.small.good; m_zero = row_zero (groups s) (blocks s); k_zero = row_zero (effects_in s) (blocks s) }

  start_at_lem : (r : ℕ) → r ≤ rows_in s → (sparse_of s).starts !! r ≡ start_of s r
  unfolding sparse_of
  start_at_lem r l = counts_at (start_of s) (rows_in s + 1) r (omega arith)

  starts_long : length (sparse_of s).starts ≡ rows_in s + 1
  unfolding sparse_of
  starts_long = counts_length_lem (start_of s) (rows_in s + 1)

  start_zero : start_of s 0 ≡ 0
  unfolding start_of
  start_zero = refl

  columns_long : length (sparse_of s).columns ≡ start_of s (rows_in s)
  unfolding sparse_of
  columns_long = columns_before s (rows_in s)

  values_long : length (sparse_of s).values ≡ start_of s (rows_in s)
  unfolding sparse_of
  values_long = values_before s (rows_in s)

  columns_low : (e : ℕ) → ((sparse_of s).columns !! e) < 8192
  unfolding sparse_of columns_of
  columns_low e = joined_low (columns_of s) (rows_in s) (λ r i. counts_low (column_read s (row_at s r)) (short s (row_at s r)) (λ k. bits_below s (8 * entry_at (row_at s r) k) 13) i) e

  values_fit : (i : ℕ) → T (fits binary64 ((sparse_of s).values ! i))
  unfolding sparse_of values_of
  values_fit i = joined_fit (values_of s) (rows_in s) (λ r k. built_fit (value_read s (row_at s r)) (short s (row_at s r)) (λ t. double_fits s (entry_at (row_at s r) t + 2)) k) i

  rows_sayable : RowsSayable (rows_in s) (start_of s (rows_in s)) (sparse_of s)
  rows_sayable =
      record {
        starts = starts_long;
        first = start_at_lem 0 (omega arith) ∙ start_zero;
        last = start_at_lem (rows_in s) (omega arith);
        rising = λ r l. rw (start_at_lem r (omega arith), start_at_lem (r + 1) (omega arith), start_next s r) (omega arith);
        columns = columns_long;
        values = values_long;
        low = λ e l. columns_low e;
        doubles = λ i l. values_fit i;
      }

  -- as long as it was
  short_again : length (job_bytes (version_of s) (job_of s)) ≤ 65536
  unfolding job_of settings_of
  short_again =
      let placed = laid_out (version_of s) (job_of s) (obs s) (obs s * cols s) (weighted s * obs s) (shifted s * obs s) (thetas s) (blocks s) refl (build_length _ _) (build_length _ _) (build_length _ _) (build_length _ _) (build_length _ _) in
      let rows = rows_before (sparse_of s) (rows_in s) (start_of s (rows_in s)) rows_sayable (rows_in s) (omega arith) in
      omega (arith, placed.long, rows, start_at_lem (rows_in s) (omega arith), row_starts s (rows_in s), whole.ends, whole.fitting.0.0, version_long s (is_second s) refl)

  -- what is read can be said
  pub read_sayable : Sayable (version_of s) (job_of s)
  unfolding job_of settings_of
  read_sayable =
      let weights : weighted s * obs s ≡ present (build (number s (weights_at s)) (weighted s * obs s)) * obs s = rw (present_back (number s (weights_at s)) (weighted s) (obs s) (bits_below s 9 1) whole.small.some) refl in
      let offset : shifted s * obs s ≡ present (build (number s (offset_at s)) (shifted s * obs s)) * obs s = rw (present_back (number s (offset_at s)) (shifted s) (obs s) (bits_below s 10 1) whole.small.some) refl in
      record {
        settings = settings_sayable;
        start = version_start s (is_second s) refl;
        shape = shape_sayable;
        effects = refl;
        theta = build_length _ _;
        y = build_length _ _;
        weights = build_length _ _ ∙ weights;
        offset = build_length _ _ ∙ offset;
        x = build_length _ _;
        z = rows_sayable;
        theta_doubles = numbers_fit s (theta_at s) (thetas s);
        y_doubles = numbers_fit s (y_at s) (obs s);
        weights_doubles = numbers_fit s (weights_at s) (weighted s * obs s);
        offset_doubles = numbers_fit s (offset_at s) (shifted s * obs s);
        x_doubles = numbers_fit s (x_at s) (obs s * cols s);
        short = short_again;
      }

-- so what was read, written and read again is the same, also where a NaN of another pattern stood in the bytes
pub read_again : (s : List ℕ) → is_sound (fault_of s) ≡ true → read_of (job_bytes (version_of s) (job_of s)) ≡ sound (job_of s)
read_again s h = read_back (version_of s) (job_of s) (read_sayable s h)
