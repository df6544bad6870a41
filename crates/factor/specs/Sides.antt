-- Several right sides of s numbers each, one behind the other in X. Assumes nothing.
use Rattle.std.specs.Prelude.{◌≡◌, List, Bool, ℕ, ◌*◌, Float}
use Rattle.base.specs.Number.{finite}
use Rattle.base.specs.Sum.{◌!◌, all_to}
use Rattle.base.specs.List.{grid_to}
use Rattle.base.specs.Rows.{row}
use Rattle.base.specs.InPlace.{Rule, ruled}
use Rattle.factor.specs.Substitution.{ldl_solve}

-- entry k of what h makes of column a
unfoldable pub column_at : (List Float → List Float) → ℕ → List Float → ℕ → ℕ → Float
column_at h s X a k = h (row (a * s) s X) ! k

-- entry k of what h a makes of column a
unfoldable pub changed_at : (ℕ → List Float → List Float) → ℕ → List Float → ℕ → ℕ → Float
changed_at h s X a k = h a (row (a * s) s X) ! k

-- h of each of the first n columns
unfoldable pub each_column : (List Float → List Float) → ℕ → ℕ → List Float → List Float
each_column h s n X = grid_to n s (column_at h s X) X

-- entry i of the solution with LDL' of column a
unfoldable pub ldl_columns_at : ℕ → List Float → List Float → ℕ → ℕ → Float
ldl_columns_at s L X a i = ldl_solve s L (row (a * s) s X) ! i

-- X is b with entry i replaced by the rule, and r says whether that entry is finite
pub record Entered (g : Rule) (i : ℕ) (b : List Float) (r : Bool) (X : List Float) : Type 0 where
  pub list : X ≡ ruled g i b
  pub fine : r ≡ finite (X ! i)

-- X is b with entry i of each of the first n columns replaced by the rule, and r says whether all these entries are finite
pub record RowEntered (g : Rule) (i s n : ℕ) (b : List Float) (r : Bool) (X : List Float) : Type 0 where
  pub list : X ≡ each_column (ruled g i) s n b
  pub fine : r ≡ all_to n (λ a. finite (column_at (ruled g i) s b a i))
