-- The parts of what was read: the job, the bytes behind it, and their numbers. Assumes nothing.
use mathlib.Core.Path.{◌≡◌, refl, sym, ap, ◌∙◌}
use mathlib.Core.List.{List, ◌++◌}
use mathlib.Core.Logic.{⊎_elim}
use Prim.Native.Nat.{ℕ, ◌+◌, ◌-◌, ◌/◌, ◌≤◌, min}
use native.Mathlib.Omega.{arith}
use lib.Ieee.{Float}
use lib.ListN.{length, take, drop, replicate, length-drop, length-replicate, replicate-append-replicate, drop_of_length-le}
use lib.Seq.{take_all, take-length, drop-length, drop-drop, take-append-add, take_at, drop_at}
use Rattle.base.specs.Number.{zero_f}
use Rattle.base.specs.List.{build}
use Rattle.base.proofs.Fills.{build_length}
use Rattle.base.proofs.Sums.{lt_or_ge}
use Rattle.job.specs.Lists.{laid}
use Rattle.jobfit.specs.Done.{zeros}
use Rattle.manytext.specs.Input.{job_size, job_in, rest_in, word_at, numbers_in}

-- ---- the job and what stands behind it
-- no more than there is
module _ {A : Type 0} (n k : ℕ) (l : List A) (e : k ≡ min n (length l)) where
  least_take : take k l ≡ take n l
  least_take = ⊎_elim (λ h. let q : k ≡ n = omega arith in rw q refl) (λ h. let q : k ≡ length l = omega arith in rw q (take-length l ∙ sym (take_all n l h))) (lt_or_ge n (length l))

  least_drop : drop k l ≡ drop n l
  least_drop = ⊎_elim (λ h. let q : k ≡ n = omega arith in rw q refl) (λ h. let q : k ≡ length l = omega arith in rw q (drop-length l ∙ sym (drop_of_length-le l h))) (lt_or_ge n (length l))

module _ (s : List ℕ) (from left held to : ℕ) (ef : from ≡ min 3 (length s)) (el : left ≡ length s - from) (eh : held ≡ min (job_size s) left) (et : to ≡ from + held) where
  begun : drop from s ≡ drop 3 s
  begun = least_drop 3 from s ef

  held_is : held ≡ min (job_size s) (length (drop 3 s))
  held_is = rw (← begun, length-drop from s) (rw el at eh)

  pub job_part : take (to - from) (drop from s) ≡ job_in s
  unfolding job_in
  job_part =
      let k : to - from ≡ held = omega arith in
      rw (k, begun) (least_take (job_size s) held (drop 3 s) held_is)

  pub rest_part : take (length s - to) (drop to s) ≡ rest_in s
  unfolding rest_in
  rest_part =
      take_all (length s - to) (drop to s) (omega (arith, length-drop to s))
      ∙ ap (λ (k : ℕ). drop k s) et
      ∙ sym (drop-drop held from s)
      ∙ ap (drop held) begun
      ∙ least_drop (job_size s) held (drop 3 s) held_is

-- what stands behind it is no longer than all
pub part_few : (s : List ℕ) (to most : ℕ) → length s ≤ most → length (take (length s - to) (drop to s)) ≤ most
part_few s to most h = rw (take_all (length s - to) (drop to s) (omega (arith, length-drop to s))) (omega (arith, length-drop to s))

-- ---- numbers
part_same : {A : Type 0} (a m k : ℕ) (x : A) → take m (drop a (replicate (a + (m + k)) x)) ≡ replicate m x
part_same a m k x =
    ap (λ l. take m (drop a l)) (sym (replicate-append-replicate a (m + k) x) ∙ ap (λ l. replicate a x ++ l) (sym (replicate-append-replicate m k x)))
    ∙ ap (take m) (drop_at (replicate a x) _ a (length-replicate a x))
    ∙ take_at (replicate m x) _ m (length-replicate m x)

-- a part of a list of one number
pub part_zeros : (a m n : ℕ) → a + m ≤ n → take m (drop a (zeros n)) ≡ zeros m
unfolding zeros
part_zeros a m n h = let e : n ≡ a + (m + (n - (a + m))) = omega arith in rw e (part_same a m (n - (a + m)) zero_f)

-- the doubles that were read into zeros, and the one behind them where bytes are left over
pub numbers_part : (bytes : List ℕ) (n all : ℕ) → n ≡ (length bytes + 7) / 8 → n ≤ all → take (n - 0) (drop 0 (laid (build (word_at bytes) (length bytes / 8)) (zeros all))) ≡ numbers_in bytes
unfolding laid numbers_in
numbers_part bytes n all e h =
    let w = length bytes / 8 in
    let xs = build (word_at bytes) w in
    let long : length xs ≡ w = build_length (word_at bytes) w in
    let k : n - 0 ≡ length xs + (n - w) = omega (arith, long) in
    let m : n - w ≡ (length bytes + 7) / 8 - w = omega arith in
    ap (λ (q : ℕ). take q (xs ++ drop (length xs) (zeros all))) k
    ∙ take-append-add xs (drop (length xs) (zeros all)) (n - w)
    ∙ ap (λ (q : ℕ). xs ++ take (n - w) (drop q (zeros all))) long
    ∙ ap (λ (l : List Float). xs ++ l) (part_zeros w (n - w) all (omega arith))
    ∙ ap (λ (q : ℕ). xs ++ zeros q) m
