-- Closed parts, which the checker computes: where a response stands, and what is put back where. Assumes nothing.
use mathlib.Core.Path.{◌≡◌, refl}
use mathlib.Core.List.{[], ◌∷◌}
use Prim.Native.Nat.{ℕ, ◌*◌}
use Rattle.many.specs.Many.{part_of, placed_in}
use Rattle.many.specs.Room.{few_of}

-- five numbers in blocks of two: the second block
second : part_of {A = ℕ} (1 * 2) 2 (10 ∷ 11 ∷ 12 ∷ 13 ∷ 14 ∷ []) ≡ 12 ∷ 13 ∷ []
unfolding part_of
second = refl

-- another in its place, with what stands before and behind it
second_placed : placed_in {A = ℕ} (1 * 2) 2 (22 ∷ 23 ∷ []) (10 ∷ 11 ∷ 12 ∷ 13 ∷ 14 ∷ []) ≡ 10 ∷ 11 ∷ 22 ∷ 23 ∷ 14 ∷ []
unfolding placed_in
second_placed = refl

-- 64 responses are all of them, of 65 products are formed as of 64
most : (few_of 64 ≡ 64) × (few_of 65 ≡ 64)
unfolding few_of
most = (refl, refl)
