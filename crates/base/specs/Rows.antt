-- Rows of one work slice: n places from b on. Assumes nothing.
use Rattle.std.specs.Prelude.{◌≡◌, List, ◌⊎◌, ℕ, ◌+◌, ◌≤◌, ◌<◌, length, take, drop, Float}
use Rattle.base.specs.Sum.{◌!◌}

-- the n entries of w from b on
unfoldable pub row : ℕ → ℕ → List Float → List Float
row b n w = take n (drop b w)

-- the place j is not among the n places from b on
abbrev pub Out : ℕ → ℕ → ℕ → Type 0
Out b n j = (j < b) ⊎ (b + n ≤ j)

-- the m places from c on are none of the n places from b on
abbrev pub Apart : ℕ → ℕ → ℕ → ℕ → Type 0
Apart c m b n = (c + m ≤ b) ⊎ (b + n ≤ c)

-- w is as v, but for the n places from b on
pub record Only (b n : ℕ) (v w : List Float) : Type 0 where
  pub len : length w ≡ length v
  pub kept : (j : ℕ) → Out b n j → w ! j ≡ v ! j

-- w is as v, but for the n places from b on and the k places from c on
pub record OnlyTwo (b n c k : ℕ) (v w : List Float) : Type 0 where
  pub len : length w ≡ length v
  pub kept : (j : ℕ) → Out b n j → Out c k j → w ! j ≡ v ! j

-- the row at b, and no other place, is f
pub record Wrote (b n : ℕ) (f v w : List Float) : Type 0 where
  pub row' : row b n w ≡ f
  pub only : Only b n v w
