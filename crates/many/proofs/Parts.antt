-- Parts of one list: a part that is put back stands in its place, and every other part is as it was. Assumes nothing.
use mathlib.Core.Path.{◌≡◌, refl, sym, ap, ◌∙◌}
use mathlib.Core.Bool.{Bool, true}
use mathlib.Core.List.{List, ◌++◌, append_assoc}
use Prim.Native.Nat.{ℕ, suc, ◌+◌, ◌-◌, ◌*◌, ◌≤◌, ◌<◌}
use native.Mathlib.Nat.{mul-le-mul_right, suc-mul}
use native.Mathlib.Omega.{arith}
use lib.Ieee.{Float, nan}
use lib.ListN.{length, take, drop, length-append, length-drop, take-append-drop}
use lib.Seq.{length-take-le, take_at, drop_at, take-append-le, drop-append-le, drop-drop, get_or-take, get_or-drop}
use Rattle.base.specs.Sum.{◌!◌}
use Rattle.many.specs.Many.{part_of, placed_in}

module _ {A : Type 0} where
  pub part_length : (at k : ℕ) (v : List A) → at + k ≤ length v → length (part_of at k v) ≡ k
  unfolding part_of
  part_length at k v h = length-take-le k (drop at v) (omega (arith, length-drop at v))

  -- a part of the front of two lists is one of the first
  front_part : (a m : ℕ) (p q : List A) → a + m ≤ length p → take m (drop a (p ++ q)) ≡ take m (drop a p)
  front_part a m p q h =
      ap (take m) (drop-append-le a p q (omega arith)) ∙ take-append-le m (drop a p) q (omega (arith, length-drop a p))

  -- so many entries from at on are changed
  module _ (at k : ℕ) (xs v : List A) (same : length xs ≡ k) (fits : at + k ≤ length v) where
    before_length : length (take at v) ≡ at
    before_length = length-take-le at v (omega arith)

    pub placed_length : length (placed_in at k xs v) ≡ length v
    unfolding placed_in
    placed_length =
        length-append (take at v) (xs ++ drop k (drop at v)) ∙ rw (before_length, length-append xs (drop k (drop at v)), drop-drop k at v, length-drop (at + k) v, same) (omega arith)

    pub part_own : part_of at k (placed_in at k xs v) ≡ xs
    unfolding part_of placed_in
    part_own = ap (take k) (drop_at (take at v) (xs ++ drop k (drop at v)) at before_length) ∙ take_at xs (drop k (drop at v)) k same

    pub part_before : (a m : ℕ) → a + m ≤ at → part_of a m (placed_in at k xs v) ≡ part_of a m v
    unfolding part_of placed_in
    part_before a m h =
        front_part a m (take at v) (xs ++ drop k (drop at v)) (rw before_length h)
        ∙ sym (front_part a m (take at v) (drop at v) (rw before_length h))
        ∙ ap (λ (w : List A). take m (drop a w)) (take-append-drop at v)

    -- all that stands behind
    pub rest_kept : (a : ℕ) → at + k ≤ a → drop a (placed_in at k xs v) ≡ drop a v
    unfolding placed_in
    rest_kept a h =
        let front : length (take at v ++ xs) ≡ at + k = length-append (take at v) xs ∙ rw (before_length, same) refl in
        let whole : at + k + (a - (at + k)) ≡ a = omega arith in
        let left : drop (at + k) (take at v ++ (xs ++ drop k (drop at v))) ≡ drop k (drop at v) = ap (drop (at + k)) (sym (append_assoc (take at v) xs (drop k (drop at v)))) ∙ drop_at (take at v ++ xs) (drop k (drop at v)) (at + k) front in
        ap (λ (n : ℕ). drop n (take at v ++ (xs ++ drop k (drop at v)))) (sym whole)
        ∙ sym (drop-drop (a - (at + k)) (at + k) (take at v ++ (xs ++ drop k (drop at v))))
        ∙ ap (drop (a - (at + k))) (left ∙ drop-drop k at v)
        ∙ drop-drop (a - (at + k)) (at + k) v
        ∙ ap (λ (n : ℕ). drop n v) whole

  -- a part put back as it was
  pub placed_same : (at k : ℕ) (v : List A) → placed_in at k (part_of at k v) v ≡ v
  unfolding part_of placed_in
  placed_same at k v = ap (λ (w : List A). take at v ++ w) (take-append-drop k (drop at v)) ∙ take-append-drop at v

-- what holds of every number holds of those of a part
pub all_in_part : (test : Float → Bool) (at k : ℕ) (v : List Float) → at + k ≤ length v → ((i : ℕ) → i < length v → test (v ! i) ≡ true) → (j : ℕ) → j < length (part_of at k v)
    → test (part_of at k v ! j) ≡ true
unfolding part_of
all_in_part test at k v fits all j h =
    let few : j < k = rw (length-take-le k (drop at v) (omega (arith, length-drop at v))) at h in
    rw (get_or-take k (drop at v) j nan few, get_or-drop at v j nan) (all (at + j) (omega arith))

-- ---- blocks of k entries, one behind another
-- block i of r ends where r blocks do, or before
pub block_fits : (i r k : ℕ) → i < r → i * k + k ≤ r * k
block_fits i r k h = let m : suc i * k ≤ r * k = mul-le-mul_right k h in omega (arith, suc-mul i k, m)
