-- The bytes of a sound job without NaN are `job_bytes` of its version and of what was read: part by part, each part of the file is written from the numbers that stand in it. Assumes nothing.
use Rattle.std.specs.Prelude.{Some, None}
use mathlib.Core.Path.{◌≡◌, refl, sym, ◌∙◌}
use mathlib.Core.Bool.{Bool, true, false, not, cond}
use mathlib.Core.List.{List, [], ◌∷◌, ◌++◌, append-nil}
use Prim.Native.Nat.{ℕ, zero, suc, ◌+◌, ◌*◌, ◌-◌, ◌≤◌, ◌<◌}
use native.Mathlib.Nat.{add-zero, zero-add, zero-mul, one-mul, le_of_suc-le-suc, not-suc-le-zero}
use native.Mathlib.Omega.{arith}
use borrow.Author.Tests.{eqb-true}
use lib.Dec.{T, leb, eqb}
use lib.Ieee.{Float, nan, is_nan, binary64}
use lib.Ieee.Bits.{to_bits-of_bits}
use lib.ListN.{length}
use Rattle.base.specs.Sum.{◌!◌, ◌!!◌}
use Rattle.base.specs.List.{build}
use Rattle.base.proofs.Fills.{build_length, build_at}
use Rattle.bits.specs.Bits.{bits_of, double_of}
use Rattle.bits.proofs.BitLaws.{bits_below}
use Rattle.model.specs.Names.{family_code, family_coded, link_code, link_coded, start_code, start_coded}
use Rattle.model.specs.declared.names.Start.TheVariants.{Usual}
use Rattle.job.specs.Lists.{join_to}
use Rattle.job.specs.Format.{version, family_field, link_field, limit_field, is_second, start_field, blocks, blocks_at, block_at, groups, effects_in, shape_of, number, short, entry_at, column_read, value_read, row_at, start_of, rows_in, obs, cols, weighted, shifted, thetas, theta_at, y_at, weights_at, offset_at, x_at, z_at, sizes_fit}
use Rattle.job.specs.Faults.{is_sound, demand, spare, pair_fault, reaches, head_fault, blocks_fault, entry_fault, entries_fault, row_fault, rows_fault, numbers_fault, body_fault, fault_of}
use Rattle.job.specs.Job.{family_from, link_from, limit_from, start_from, start_in, settings_of, columns_of, values_of, sparse_of, Job, job_of}
use Rattle.job.specs.Write.{fld, packed, present, limit_code, Version, version1, version2, version_of, version_code, common_bytes, start_bytes, head_bytes, block_bytes, number_bytes, numbers_bytes, short_bytes, entry_bytes, row_count, row_bytes, job_bytes}
use Rattle.job.proofs.ListLaws.{counts_length_lem, counts_at, laid_at, join_at}
use Rattle.job.proofs.FaultLaws.{both, demanded, reached, pair_reached, Headed, headed, version_one, second_said, at_six, at_seven}
use Rattle.job.proofs.SizeLaws.{Small}
use Rattle.job.proofs.RowLaws.{Fits, sound_fits, row_before, start_next, columns_before, values_before}
use Rattle.bits.proofs.ByteLaws.{split}
use Rattle.job.proofs.ByteLaws.{Bytes, part, part_none, part_add, bytes_are, join_parts, joined, whole}

-- ---- the header's numbers are written as they were read
pub family_back : (c : ℕ) → c < 4 → family_code (family_from (family_coded c)) ≡ c
unfolding family_from family_coded
family_back zero l = refl
family_back (suc zero) l = refl
family_back (suc (suc zero)) l = refl
family_back (suc (suc (suc zero))) l = refl
family_back (suc (suc (suc (suc c)))) l = absurd (omega arith)

pub link_back : (c : ℕ) → c < 7 → link_code (link_from (link_coded c)) ≡ c
unfolding link_from link_coded
link_back zero l = refl
link_back (suc zero) l = refl
link_back (suc (suc zero)) l = refl
link_back (suc (suc (suc zero))) l = refl
link_back (suc (suc (suc (suc zero)))) l = refl
link_back (suc (suc (suc (suc (suc zero))))) l = refl
link_back (suc (suc (suc (suc (suc (suc zero)))))) l = refl
link_back (suc (suc (suc (suc (suc (suc (suc c))))))) l = absurd (omega arith)

pub limit_back : (l : ℕ) → limit_code (limit_from l) ≡ l
unfolding limit_from limit_code
limit_back l = by (eqb l 1023) refl
  where
    by : (b : Bool) → eqb l 1023 ≡ b → limit_code (cond b None (Some l)) ≡ l
    by true e = sym (eqb-true l 1023 e)
    by false e = refl

pub start_back : (c : ℕ) → c < 2 → start_code (start_from (start_coded c)) ≡ c
unfolding start_from start_coded
start_back zero l = refl
start_back (suc zero) l = refl
start_back (suc (suc c)) l = absurd (omega arith)

-- a list is there exactly where its bit is set
pub present_back : (f : ℕ → Float) (w n : ℕ) → w < 2 → 1 ≤ n → present (build f (w * n)) ≡ w
unfolding present build
present_back f zero n l h = rw (zero-mul n) refl
present_back f (suc zero) zero l h = absurd (not-suc-le-zero h)
present_back f (suc zero) (suc n) l h = rw (one-mul (suc n)) refl
present_back f (suc (suc w)) n l h = absurd (omega arith)

head_number : (s : List ℕ) (c : ℕ) → version s ≡ c → packed 0 (fld 4 c ∷ fld 2 (bits_of s 4 2) ∷ fld 3 (bits_of s 6 3) ∷ fld 1 (bits_of s 9 1) ∷ fld 1 (bits_of s 10 1) ∷ fld 5 (bits_of s 11 5) ∷ fld 13 (bits_of s 16 13) ∷ fld 5 (bits_of s 29 5) ∷ fld 4 (bits_of s 34 4) ∷ fld 10 (bits_of s 38 10) ∷ []) ≡ bits_of s 0 48
unfolding packed
head_number s c e =
    rw
    (split s 0 38 10, split s 0 34 4, split s 0 29 5, split s 0 16 13, split s 0 11 5, split s 0 10 1, split s 0 9 1, split s 0 6 3, split s 0 4 2, e, zero-add)

common_written : (s : List ℕ) (v : Version) → Bytes s → Headed s → version s ≡ version_code v → Small s → common_bytes v (job_of s) ≡ part s 0 6
unfolding common_bytes job_of settings_of
common_written s v h e k m =
    rw (
      family_back (family_field s) (bits_below s 4 2),
      link_back (link_field s) e.carried,
      present_back (number s (weights_at s)) (weighted s) (obs s) (bits_below s 9 1) m.some,
      present_back (number s (offset_at s)) (shifted s) (obs s) (bits_below s 10 1) m.some,
      limit_back (limit_field s),
      head_number s (version_code v) k,
    )
    (bytes_are s 0 6 h e.long)

start_written : (s : List ℕ) → Bytes s → Headed s → is_second s ≡ true → start_bytes version2 (job_of s).settings.start ≡ part s 6 1
unfolding start_bytes job_of settings_of start_in packed
start_written s h e k =
    let q = second_said s e k in
    let n : bits_of s 48 8 ≡ start_field s * 128 + 0 = rw (split s 48 1 7, q.1) refl in
    rw (k, start_back (start_field s) (bits_below s 48 1), ← bytes_are s 6 1 h q.0, n, zero-add)

none_behind : (j : Job) → head_bytes version1 j ≡ common_bytes version1 j
unfolding head_bytes start_bytes
none_behind j = append-nil (common_bytes version1 j)

head_written : (s : List ℕ) (b : Bool) → is_second s ≡ b → Bytes s → Headed s → Small s → head_bytes (version_of s) (job_of s) ≡ part s 0 (blocks_at s)
unfolding version_of head_bytes
head_written s true k h e m =
    rw (k, at_seven s k) (joined s 0 6 1 7 _ _ (common_written s version2 h e (eqb-true (version s) 2 k) m) (start_written s h e k) refl)
head_written s false k h e m = rw (k, at_six s k) (none_behind (job_of s) ∙ common_written s version1 h e (version_one s e k) m)

-- ---- two bytes, the last w bits of which are zero bits
spared : (s : List ℕ) (p w : ℕ) → is_sound (pair_fault s p w) ≡ true → bits_of s (8 * p + (16 - w)) w ≡ 0
unfolding pair_fault spare
spared s p w h = eqb-true _ 0 (demanded _ _ _ (both _ _ h).1)

-- m and k of a block, from the shape
m_of : (s : List ℕ) (i : ℕ) → i < blocks s → (shape_of s).m !! i ≡ groups s i
m_of s i l = laid_at _ _ i 0 (omega (arith, counts_length_lem (groups s) (blocks s))) ∙ counts_at (groups s) (blocks s) i l

k_of : (s : List ℕ) (i : ℕ) → i < blocks s → (shape_of s).k !! i ≡ effects_in s i
k_of s i l = laid_at _ _ i 0 (omega (arith, counts_length_lem (effects_in s) (blocks s))) ∙ counts_at (effects_in s) (blocks s) i l

block_number : (s : List ℕ) (i : ℕ) → is_sound (pair_fault s (block_at s i) 5) ≡ true → packed 0 (fld 7 (groups s i) ∷ fld 4 (effects_in s i) ∷ fld 5 0 ∷ []) ≡ bits_of s (8 * block_at s i) 16
unfolding packed groups effects_in
block_number s i e =
    let z : bits_of s (8 * block_at s i + 11) 5 ≡ 0 = spared s (block_at s i) 5 e in
    rw (split s (8 * block_at s i) 11 5, split s (8 * block_at s i) 7 4, z, zero-add)

block_written : (s : List ℕ) (i : ℕ) → Bytes s → i < blocks s → is_sound (pair_fault s (block_at s i) 5) ≡ true → block_bytes (shape_of s) i ≡ part s (block_at s i) 2
unfolding block_bytes
block_written s i h l e =
    let r : 8 * block_at s i + 16 ≤ length s * 8 = pair_reached s (block_at s i) 5 e in
    rw (m_of s i l, k_of s i l, block_number s i e) (bytes_are s (block_at s i) 2 h (omega arith))

short_written : (s : List ℕ) (p : ℕ) → Bytes s → is_sound (pair_fault s p 3) ≡ true → short_bytes (bits_of s (8 * p) 13) ≡ part s p 2
unfolding short_bytes packed
short_written s p h e =
    let z : bits_of s (8 * p + 13) 3 ≡ 0 = spared s p 3 e in
    let l : 8 * p + 16 ≤ length s * 8 = pair_reached s p 3 e in
    let n = split s (8 * p) 13 3 in
    rw (← bytes_are s p 2 h (omega arith), n, z, zero-add)

-- ---- a double that is no NaN
number_written : (s : List ℕ) (p : ℕ) → Bytes s → p + 8 ≤ length s → T (not (is_nan (double_of s p))) → number_bytes (double_of s p) ≡ part s p 8
unfolding number_bytes double_of
number_written s p h l n = rw (to_bits-of_bits binary64 (bits_of s (8 * p) 64) (bits_below s (8 * p) 64) n) (bytes_are s p 8 h l)

-- ---- each part of a sound whole is sound
blocks_each : (s : List ℕ) (p n i : ℕ) → i < n → is_sound (blocks_fault s p n) ≡ true → is_sound (pair_fault s (p + 2 * i) 5) ≡ true
unfolding blocks_fault
blocks_each s p zero i l h = absurd (not-suc-le-zero l)
blocks_each s p (suc n) zero l h =
    let e : p + 2 * 0 ≡ p = omega arith in
    rw e (both (pair_fault s p 5) (blocks_fault s (p + 2) n) h).0
blocks_each s p (suc n) (suc i) l h =
    let e : p + 2 * suc i ≡ p + 2 + 2 * i = omega arith in
    rw e (blocks_each s (p + 2) n i (le_of_suc-le-suc l) (both (pair_fault s p 5) (blocks_fault s (p + 2) n) h).1)

entries_each : (s : List ℕ) (p n i : ℕ) → i < n → is_sound (entries_fault s p n) ≡ true → is_sound (entry_fault s (p + 10 * i)) ≡ true
unfolding entries_fault
entries_each s p zero i l h = absurd (not-suc-le-zero l)
entries_each s p (suc n) zero l h =
    let e : p + 10 * 0 ≡ p = omega arith in
    rw e (both (entry_fault s p) (entries_fault s (p + 10) n) h).0
entries_each s p (suc n) (suc i) l h =
    let e : p + 10 * suc i ≡ p + 10 + 10 * i = omega arith in
    rw e (entries_each s (p + 10) n i (le_of_suc-le-suc l) (both (entry_fault s p) (entries_fault s (p + 10) n) h).1)

rows_each : (s : List ℕ) (r n i : ℕ) → i < n → is_sound (rows_fault s (row_at s r) n) ≡ true → is_sound (row_fault s (row_at s (r + i))) ≡ true
unfolding rows_fault row_at
rows_each s r zero i l h = absurd (not-suc-le-zero l)
rows_each s r (suc n) zero l h = rw add-zero (both (row_fault s (row_at s r)) (rows_fault s (row_at s (suc r)) n) h).0
rows_each s r (suc n) (suc i) l h =
    let e : r + suc i ≡ suc r + i = omega arith in
    rw e (rows_each s (suc r) n i (le_of_suc-le-suc l) (both (row_fault s (row_at s r)) (rows_fault s (row_at s (suc r)) n) h).1)

-- ---- Z'
-- no value of the row at p is a NaN
abbrev pub PlainRow : List ℕ → ℕ → Type 0
PlainRow s p = (j : ℕ) → j < short s p → T (not (is_nan (value_read s p j)))

module _ (s : List ℕ) (r : ℕ) (l : r < rows_in s) where
  start_at_lem : (sparse_of s).starts !! r ≡ start_of s r
  unfolding sparse_of
  start_at_lem = counts_at (start_of s) (rows_in s + 1) r (omega arith)

  count_is : row_count (sparse_of s) r ≡ short s (row_at s r)
  unfolding sparse_of
  count_is = rw (counts_at (start_of s) (rows_in s + 1) (r + 1) (omega arith), counts_at (start_of s) (rows_in s + 1) r (omega arith), start_next s r) (omega arith)

  column_is : (j : ℕ) → j < short s (row_at s r) → (sparse_of s).columns !! (start_of s r + j) ≡ column_read s (row_at s r) j
  unfolding sparse_of columns_of
  column_is j h =
      let n = counts_length_lem (column_read s (row_at s r)) (short s (row_at s r)) in
      rw (← columns_before s r) (join_at (columns_of s) (rows_in s) r j 0 l (omega (arith, n)) ∙ counts_at (column_read s (row_at s r)) (short s (row_at s r)) j h)

  value_is : (j : ℕ) → j < short s (row_at s r) → (sparse_of s).values ! (start_of s r + j) ≡ value_read s (row_at s r) j
  unfolding sparse_of values_of
  value_is j h =
      let n = build_length (value_read s (row_at s r)) (short s (row_at s r)) in
      rw (← values_before s r) (join_at (values_of s) (rows_in s) r j nan l (omega (arith, n)) ∙ build_at (value_read s (row_at s r)) (short s (row_at s r)) j h)

  entry_written : (j : ℕ) → Bytes s → j < short s (row_at s r) → is_sound (entry_fault s (entry_at (row_at s r) j)) ≡ true → T (not (is_nan (value_read s (row_at s r) j)))
      → entry_bytes (sparse_of s) (start_of s r + j) ≡ part s (entry_at (row_at s r) j) 10
  unfolding entry_bytes entry_fault
  entry_written j h m e n =
      let p = entry_at (row_at s r) j in
      let b = both (pair_fault s p 3) (reaches s (8 * p + 80)) e in
      let reach : 8 * p + 80 ≤ length s * 8 = reached s (8 * p + 80) b.1 in
      rw (column_is j m, value_is j m, short_written s p h b.0, number_written s (p + 2) h (omega arith) n) (sym (part_add s p 2 8))

  row_written : Bytes s → is_sound (row_fault s (row_at s r)) ≡ true → PlainRow s (row_at s r) → row_bytes (sparse_of s) r ≡ part s (row_at s r) (2 + 10 * short s (row_at s r))
  unfolding row_bytes row_fault
  row_written h e n =
      let p = row_at s r in
      let b = both (pair_fault s p 3) (entries_fault s (p + 2) (short s p)) e in
      rw (
        count_is,
        start_at_lem,
        short_written s p h b.0,
        join_parts s (λ j. entry_bytes (sparse_of s) (start_of s r + j)) (p + 2) 10 (short s p) (λ j m. entry_written j h m (entries_each s (p + 2) (short s p) j m b.1) (n j m)),
      )
      (sym (part_add s p 2 (10 * short s p)))

rows_written : (s : List ℕ) (n : ℕ) → n ≤ rows_in s → Bytes s → ((r : ℕ) → r < n → (is_sound (row_fault s (row_at s r)) ≡ true) × PlainRow s (row_at s r))
    → join_to n (row_bytes (sparse_of s)) ≡ part s (z_at s) (row_at s n - z_at s)
unfolding join_to row_at
rows_written s zero l h k = let e : z_at s - z_at s ≡ 0 = omega arith in rw e (part_none s (z_at s))
rows_written s (suc n) l h k =
    let o : z_at s ≤ row_at s n = row_before s 0 n (omega arith) in
    let e : row_at s n + 2 + 10 * short s (row_at s n) - z_at s ≡ (row_at s n - z_at s) + (2 + 10 * short s (row_at s n)) = omega arith in
    let f : z_at s + (row_at s n - z_at s) ≡ row_at s n = omega arith in
    rw (rows_written s n (omega arith) h (λ r m. k r (omega arith)), row_written s n l h (k n (omega arith)).0 (k n (omega arith)).1, e)
    (sym (part_add s (z_at s) (row_at s n - z_at s) (2 + 10 * short s (row_at s n)) ∙ rw f))

-- ---- the job
-- none of n doubles from byte a on is a NaN
abbrev pub Plain : List ℕ → ℕ → ℕ → Type 0
Plain s a n = (i : ℕ) → i < n → T (not (is_nan (number s a i)))

-- none of the doubles of the job is a NaN
pub record NoNan (s : List ℕ) : Type 0 where
  pub of_theta : Plain s (theta_at s) (thetas s)
  pub of_y : Plain s (y_at s) (obs s)
  pub of_weights : Plain s (weights_at s) (weighted s * obs s)
  pub of_offset : Plain s (offset_at s) (shifted s * obs s)
  pub of_x : Plain s (x_at s) (obs s * cols s)
  pub of_z : (r : ℕ) → r < rows_in s → PlainRow s (row_at s r)

numbers_written : (s : List ℕ) (a n : ℕ) → Bytes s → a + 8 * n ≤ length s → Plain s a n → numbers_bytes (build (number s a) n) ≡ part s a (8 * n)
unfolding numbers_bytes
numbers_written s a n h l k =
    rw (build_length (number s a) n)
    (join_parts s (λ i. number_bytes (build (number s a) n ! i)) a 8 n
    (λ i m. rw (build_at (number s a) n i m) (number_written s (a + 8 * i) h (omega arith) (k i m))))

rows_all : (s : List ℕ) → Bytes s → is_sound (rows_fault s (z_at s) (rows_in s)) ≡ true → NoNan s → row_at s (rows_in s) ≡ length s
    → join_to (rows_in s) (row_bytes (sparse_of s)) ≡ part s (z_at s) (length s - z_at s)
unfolding row_at
rows_all s h e n o =
    rw (← o) (rows_written s (rows_in s) (omega arith) h (λ r l. (rw zero-add at (rows_each s 0 (rows_in s) r l e), n.of_z r l)))

-- the blocks and all that follows them
body_written : (s : List ℕ) → Bytes s → Fits s → is_sound (body_fault s) ≡ true → NoNan s
    → join_to (blocks s) (block_bytes (shape_of s)) ++ (numbers_bytes (build (number s (theta_at s)) (thetas s)) ++ (numbers_bytes (build (number s (y_at s)) (obs s))
    ++ (numbers_bytes (build (number s (weights_at s)) (weighted s * obs s)) ++ (numbers_bytes (build (number s (offset_at s)) (shifted s * obs s))
    ++ (numbers_bytes (build (number s (x_at s)) (obs s * cols s)) ++ join_to (rows_in s) (row_bytes (sparse_of s)))))))
    ≡ part s (blocks_at s) (length s - blocks_at s)
unfolding body_fault numbers_fault
body_written s h f e n =
    let d = both (blocks_fault s (blocks_at s) (blocks s)) (numbers_fault s) e in
    let g = both (demand (sizes_fit s) 1 0) _ d.1 in
    let i = both (reaches s (8 * z_at s)) _ g.1 in
    let z : z_at s ≤ length s = f.whole in
    joined s (blocks_at s) (2 * blocks s) (length s - theta_at s) (length s - blocks_at s) _ _
    (join_parts s (block_bytes (shape_of s)) (blocks_at s) 2 (blocks s) (λ k l. block_written s k h l (blocks_each s (blocks_at s) (blocks s) k l d.0)))
    (joined s (theta_at s) (8 * thetas s) (length s - y_at s) (length s - theta_at s) _ _ (numbers_written s (theta_at s) (thetas s) h (omega arith) n.of_theta)
    (joined s (y_at s) (8 * obs s) (length s - weights_at s) (length s - y_at s) _ _ (numbers_written s (y_at s) (obs s) h (omega arith) n.of_y)
    (joined s (weights_at s) (8 * (weighted s * obs s)) (length s - offset_at s) (length s - weights_at s) _ _ (numbers_written s (weights_at s) (weighted s * obs s) h (omega arith) n.of_weights)
    (joined s (offset_at s) (8 * (shifted s * obs s)) (length s - x_at s) (length s - offset_at s) _ _ (numbers_written s (offset_at s) (shifted s * obs s) h (omega arith) n.of_offset)
    (joined s (x_at s) (8 * (obs s * cols s)) (length s - z_at s) (length s - x_at s) _ _ (numbers_written s (x_at s) (obs s * cols s) h (omega arith) n.of_x)
    (rows_all s h i.1 n f.ends)
    (omega arith)) (omega arith)) (omega arith)) (omega arith)) (omega arith)) (omega arith)

-- the bytes of a sound job are those of what was read
pub written : (s : List ℕ) → Bytes s → is_sound (fault_of s) ≡ true → NoNan s → job_bytes (version_of s) (job_of s) ≡ s
unfolding job_bytes job_of settings_of fault_of
written s h e n =
    let f = sound_fits s e in
    let a = both (demand (leb (length s) 65536) 25 65536) _ e in
    let b = both (head_fault s) (body_fault s) a.1 in
    let l : theta_at s ≤ length s = f.fitting.0.1 in
    let first : head_bytes (version_of s) (job_of s) ≡ part s 0 (blocks_at s) = head_written s (is_second s) refl h (headed s b.0) f.small in
    joined s 0 (blocks_at s) (length s - blocks_at s) (length s) _ _ first (rw (zero-add (blocks_at s)) (body_written s h f b.1 n)) (omega arith) ∙ whole s

-- "version 1 keeps the old start", whatever stands where version 2 has its bit
pub version_1_start : (s : List ℕ) → version s ≡ 1 → (settings_of s).start ≡ Usual
unfolding settings_of start_in
version_1_start s e = rw e
