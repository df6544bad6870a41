-- Where each part of a written job stands, and that all of it is bytes. Assumes nothing.
use mathlib.Core.Path.{◌≡◌, refl, ap, ◌∙◌}
use mathlib.Core.List.{List, ◌++◌}
use Prim.Native.Nat.{ℕ, ◌+◌, ◌*◌}
use native.Mathlib.Nat.{zero-add}
use native.Mathlib.Omega.{arith}
use lib.Ieee.{Float, to_bits, binary64}
use lib.ListN.{length, length-append}
use Rattle.base.specs.Sum.{◌!◌, ◌!!◌}
use Rattle.base.specs.Sparse.{Sparse}
use Rattle.model.specs.declared.names.Start.{Start}
use Rattle.model.specs.declared.sizes.Shape.{Shape}
use Rattle.job.specs.Lists.{join_to}
use Rattle.job.specs.Job.{Job}
use Rattle.job.specs.Write.{Version, version1, version2, head_length, common_bytes, start_bytes, head_bytes, block_bytes, number_bytes, numbers_bytes, short_bytes, entry_bytes, row_count, row_bytes, job_bytes}
use Rattle.job.proofs.ByteLaws.{Bytes}
use Rattle.job_back.proofs.Pieces.{bytes_none, bytes_both, bytes_of_lem, bytes_join, bytes_length, join_length, Has, has_whole, has_left, has_right}

-- ---- lengths
common_length : (v : Version) (j : Job) → length (common_bytes v j) ≡ 6
unfolding common_bytes
common_length v j = bytes_length 6 _

start_length : (v : Version) (t : Start) → 6 + length (start_bytes v t) ≡ head_length v
unfolding start_bytes
start_length version1 t = refl
start_length version2 t = ap (λ (n : ℕ). 6 + n) (bytes_length 1 _)

pub head_length_lem : (v : Version) (j : Job) → length (head_bytes v j) ≡ head_length v
unfolding head_bytes
head_length_lem v j = length-append (common_bytes v j) (start_bytes v j.settings.start) ∙ rw (common_length v j) (start_length v j.settings.start)

block_length_lem : (h : Shape) (i : ℕ) → length (block_bytes h i) ≡ 2
unfolding block_bytes
block_length_lem h i = bytes_length 2 _

pub blocks_length : (h : Shape) (n : ℕ) → length (join_to n (block_bytes h)) ≡ 2 * n
blocks_length h n = join_length n 2 (block_bytes h) (block_length_lem h)

number_length : (x : Float) → length (number_bytes x) ≡ 8
unfolding number_bytes
number_length x = bytes_length 8 (to_bits binary64 x)

pub numbers_before : (xs : List Float) (n : ℕ) → length (join_to n (λ i. number_bytes (xs ! i))) ≡ 8 * n
numbers_before xs n = join_length n 8 (λ i. number_bytes (xs ! i)) (λ i. number_length (xs ! i))

pub numbers_length_lem : (xs : List Float) → length (numbers_bytes xs) ≡ 8 * length xs
unfolding numbers_bytes
numbers_length_lem xs = numbers_before xs (length xs)

pub short_length : (c : ℕ) → length (short_bytes c) ≡ 2
unfolding short_bytes
short_length c = bytes_length 2 _

pub entry_length : (z : Sparse) (e : ℕ) → length (entry_bytes z e) ≡ 10
unfolding entry_bytes
entry_length z e = length-append (short_bytes (z.columns !! e)) (number_bytes (z.values ! e)) ∙ rw (short_length (z.columns !! e), number_length (z.values ! e)) refl

pub entries_before : (z : Sparse) (k n : ℕ) → length (join_to n (λ i. entry_bytes z (k + i))) ≡ 10 * n
entries_before z k n = join_length n 10 (λ i. entry_bytes z (k + i)) (λ i. entry_length z (k + i))

pub row_length : (z : Sparse) (r : ℕ) → length (row_bytes z r) ≡ 2 + 10 * row_count z r
unfolding row_bytes
row_length z r =
    length-append (short_bytes (row_count z r)) (join_to (row_count z r) (λ i. entry_bytes z ((z.starts !! r) + i))) ∙ rw (short_length (row_count z r), entries_before z (z.starts !! r) (row_count z r)) refl

-- ---- bytes
numbers_bytes_lem : (xs : List Float) → Bytes (numbers_bytes xs)
unfolding numbers_bytes number_bytes
numbers_bytes_lem xs = bytes_join (length xs) (λ i. number_bytes (xs ! i)) (λ i. bytes_of_lem 8 (to_bits binary64 (xs ! i)))

row_bytes_lem : (z : Sparse) (r : ℕ) → Bytes (row_bytes z r)
unfolding row_bytes short_bytes entry_bytes number_bytes
row_bytes_lem z r =
    bytes_both (short_bytes (row_count z r)) (join_to (row_count z r) (λ i. entry_bytes z ((z.starts !! r) + i))) (bytes_of_lem 2 _)
    (bytes_join (row_count z r) (λ i. entry_bytes z ((z.starts !! r) + i)) (λ i. bytes_both (short_bytes (z.columns !! ((z.starts !! r) + i))) (number_bytes (z.values ! ((z.starts !! r) + i))) (bytes_of_lem 2 _) (bytes_of_lem 8 _)))

start_bytes_lem : (v : Version) (t : Start) → Bytes (start_bytes v t)
unfolding start_bytes
start_bytes_lem version1 t = bytes_none
start_bytes_lem version2 t = bytes_of_lem 1 _

head_bytes_lem : (v : Version) (j : Job) → Bytes (head_bytes v j)
unfolding head_bytes common_bytes
head_bytes_lem v j = bytes_both (common_bytes v j) (start_bytes v j.settings.start) (bytes_of_lem 6 _) (start_bytes_lem v j.settings.start)

pub job_bytes_lem : (v : Version) (j : Job) → Bytes (job_bytes v j)
unfolding job_bytes block_bytes
job_bytes_lem v j =
    bytes_both (head_bytes v j) _ (head_bytes_lem v j)
    (bytes_both (join_to j.shape.count (block_bytes j.shape)) _ (bytes_join j.shape.count (block_bytes j.shape) (λ i. bytes_of_lem 2 _))
    (bytes_both (numbers_bytes j.theta) _ (numbers_bytes_lem j.theta)
    (bytes_both (numbers_bytes j.y) _ (numbers_bytes_lem j.y)
    (bytes_both (numbers_bytes j.weights) _ (numbers_bytes_lem j.weights)
    (bytes_both (numbers_bytes j.offset) _ (numbers_bytes_lem j.offset)
    (bytes_both (numbers_bytes j.x) _ (numbers_bytes_lem j.x) (bytes_join j.settings.rows (row_bytes j.z) (row_bytes_lem j.z))))))))

-- ---- the parts of the whole
pub record Laid (v : Version) (j : Job) (s : List ℕ) (theta y weights offset x z : ℕ) : Type 0 where
  pub has_head : Has s 0 (head_bytes v j)
  pub has_blocks : Has s (head_length v) (join_to j.shape.count (block_bytes j.shape))
  pub has_theta : Has s theta (numbers_bytes j.theta)
  pub has_y : Has s y (numbers_bytes j.y)
  pub has_weights : Has s weights (numbers_bytes j.weights)
  pub has_offset : Has s offset (numbers_bytes j.offset)
  pub has_x : Has s x (numbers_bytes j.x)
  pub has_rows : Has s z (join_to j.settings.rows (row_bytes j.z))
  pub long : length s ≡ z + length (join_to j.settings.rows (row_bytes j.z))

module _ (v : Version) (j : Job) (n p w o t c : ℕ) (ec : j.shape.count ≡ c) (et : length j.theta ≡ t) (ey : length j.y ≡ n) (ew : length j.weights ≡ w) (eo : length j.offset ≡ o) (ex : length j.x ≡ p) where
  pub laid_out : Laid v j (job_bytes v j) (head_length v + 2 * c) (head_length v + 2 * c + 8 * t) (head_length v + 2 * c + 8 * t + 8 * n) (head_length v + 2 * c + 8 * t + 8 * n + 8 * w) (head_length v + 2 * c + 8 * t + 8 * n + 8 * w + 8 * o) (head_length v + 2 * c + 8 * t + 8 * n + 8 * w + 8 * o + 8 * p)
  unfolding job_bytes
  laid_out =
      let s = job_bytes v j in
      let zs = join_to j.settings.rows (row_bytes j.z) in
      let xs = numbers_bytes j.x ++ zs in
      let os = numbers_bytes j.offset ++ xs in
      let ws = numbers_bytes j.weights ++ os in
      let ys = numbers_bytes j.y ++ ws in
      let ts = numbers_bytes j.theta ++ ys in
      let bs = join_to j.shape.count (block_bytes j.shape) ++ ts in
      let lb : length (join_to j.shape.count (block_bytes j.shape)) ≡ 2 * c = blocks_length j.shape j.shape.count ∙ rw ec refl in
      let lt : length (numbers_bytes j.theta) ≡ 8 * t = numbers_length_lem j.theta ∙ rw et refl in
      let ly : length (numbers_bytes j.y) ≡ 8 * n = numbers_length_lem j.y ∙ rw ey refl in
      let lw : length (numbers_bytes j.weights) ≡ 8 * w = numbers_length_lem j.weights ∙ rw ew refl in
      let lo : length (numbers_bytes j.offset) ≡ 8 * o = numbers_length_lem j.offset ∙ rw eo refl in
      let lx : length (numbers_bytes j.x) ≡ 8 * p = numbers_length_lem j.x ∙ rw ex refl in
      let hb : Has s (head_length v) bs = rw (zero-add (head_length v)) at (has_right s 0 (head_length v) (head_bytes v j) bs (head_length_lem v j) (has_whole s)) in
      let ht : Has s (head_length v + 2 * c) ts = has_right s (head_length v) (2 * c) (join_to j.shape.count (block_bytes j.shape)) ts lb hb in
      let hy : Has s (head_length v + 2 * c + 8 * t) ys = has_right s (head_length v + 2 * c) (8 * t) (numbers_bytes j.theta) ys lt ht in
      let hw : Has s (head_length v + 2 * c + 8 * t + 8 * n) ws = has_right s (head_length v + 2 * c + 8 * t) (8 * n) (numbers_bytes j.y) ws ly hy in
      let ho : Has s (head_length v + 2 * c + 8 * t + 8 * n + 8 * w) os = has_right s (head_length v + 2 * c + 8 * t + 8 * n) (8 * w) (numbers_bytes j.weights) os lw hw in
      let hx : Has s (head_length v + 2 * c + 8 * t + 8 * n + 8 * w + 8 * o) xs = has_right s (head_length v + 2 * c + 8 * t + 8 * n + 8 * w) (8 * o) (numbers_bytes j.offset) xs lo ho in
      record {
        has_head = has_left s 0 (head_bytes v j) bs (has_whole s);
        has_blocks = has_left s (head_length v) (join_to j.shape.count (block_bytes j.shape)) ts hb;
        has_theta = has_left s (head_length v + 2 * c) (numbers_bytes j.theta) ys ht;
        has_y = has_left s (head_length v + 2 * c + 8 * t) (numbers_bytes j.y) ws hy;
        has_weights = has_left s (head_length v + 2 * c + 8 * t + 8 * n) (numbers_bytes j.weights) os hw;
        has_offset = has_left s (head_length v + 2 * c + 8 * t + 8 * n + 8 * w) (numbers_bytes j.offset) xs ho;
        has_x = has_left s (head_length v + 2 * c + 8 * t + 8 * n + 8 * w + 8 * o) (numbers_bytes j.x) zs hx;
        has_rows = has_right s (head_length v + 2 * c + 8 * t + 8 * n + 8 * w + 8 * o) (8 * p) (numbers_bytes j.x) zs lx hx;
        long = omega (
          arith,
          length-append (head_bytes v j) bs,
          head_length_lem v j,
          length-append (join_to j.shape.count (block_bytes j.shape)) ts,
          length-append (numbers_bytes j.theta) ys,
          length-append (numbers_bytes j.y) ws,
          length-append (numbers_bytes j.weights) os,
          length-append (numbers_bytes j.offset) xs,
          length-append (numbers_bytes j.x) zs,
        );
      }
