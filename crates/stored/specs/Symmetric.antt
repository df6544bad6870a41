-- A symmetric square that is written row by row up to the diagonal, each number to its place and to the mirrored one. Assumes nothing.
use Rattle.std.specs.Prelude.{◌≡◌, List, ℕ, ◌*◌, ◌<◌, ◌≤◌, length, Float}
use Rattle.base.specs.Sum.{◌!◌}
use Rattle.base.specs.List.{at}

-- X is v, but for the first m entries of row a and of column a, which are f's
pub record Bordered (s a m : ℕ) (f : ℕ → ℕ → Float) (v X : List Float) : Type 0 where
  pub len : length X ≡ length v
  pub across : (k : ℕ) → k < m → at s X a k ≡ f a k
  pub down : (k : ℕ) → k < m → at s X k a ≡ f k a
  pub kept : (i j : ℕ) → j < s → (i ≡ a → j < m → ⊥) → (j ≡ a → i < m → ⊥) → at s X i j ≡ at s v i j
  pub past : (t : ℕ) → s * s ≤ t → X ! t ≡ v ! t
