-- Marks of observations, by which rows of Z' that share none are told apart: what the code between the contracts of Z'WZ keeps. Assumes nothing.
use Rattle.std.specs.Prelude.{◌≡◌, List, cond, ℕ, zero, suc, ◌+◌, ◌-◌, ◌%◌, ◌<◌, ◌≤◌, ltb, set}
use Rattle.base.specs.Sum.{◌!!◌}
use Rattle.base.specs.Sparse.{Sparse}

-- the lesser of two numbers
unfoldable pub lesser : ℕ → ℕ → ℕ
lesser a b = cond (ltb b a) b a

-- the place of an observation's mark; of the 512 that a design may have each has one of its own
abbrev pub place_of : ℕ → ℕ
place_of i = i % 512

-- the least mark, 255 being none, of the observations of the t entries from b on
unfoldable pub least_mark : List ℕ → ℕ → ℕ → List ℕ → ℕ
least_mark columns b zero marks = 255
least_mark columns b (suc t) marks = lesser (least_mark columns b t marks) (marks !! place_of (columns !! (b + t)))

-- the marks, those of the observations of the t entries from b on lowered to x
unfoldable pub lowered : List ℕ → ℕ → ℕ → ℕ → List ℕ → List ℕ
lowered columns b x zero marks = marks
lowered columns b x (suc t) marks = set (lowered columns b x t marks) (place_of (columns !! (b + t))) (lesser (lowered columns b x t marks !! place_of (columns !! (b + t))) x)

-- rows a and b store no observation both
abbrev pub Disjoint : Sparse → ℕ → ℕ → Type 0
Disjoint Z a b = (k l : ℕ) → Z.starts !! a ≤ k → k < Z.starts !! (a + 1) → Z.starts !! b ≤ l → l < Z.starts !! (b + 1) → Z.columns !! k ≡ Z.columns !! l → ⊥

-- of the rows before a, those before `low` share no observation with it, nor those with fewer than `far` rows behind them
pub record Between (Z : Sparse) (rows a low far : ℕ) : Type 0 where
  pub before : (b : ℕ) → b < a → b < low → Disjoint Z a b
  pub behind : (b : ℕ) → b < a → rows - 1 - b < far → Disjoint Z a b
