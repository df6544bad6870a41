-- The definition of Λ on closed shapes, by computation: document 01, "Cases to prove", its case of Λ, and the packing of three effects, where columns and rows differ. Assumes nothing.
use mathlib.Core.Path.{◌≡◌, refl}
use mathlib.Core.List.{[], ◌∷◌}
use Prim.Native.Nat.{ℕ}
use lib.Ieee.{Float}
use Rattle.base.specs.Number.{zero_f}
use Rattle.base.specs.Sparse.{find_to}
use Rattle.base.specs.List.{build, matrix}
use Rattle.model.specs.Shape.{total_to, block_effects, block_thetas}
use Rattle.model.specs.declared.sizes.Shape.{Shape}
use Rattle.lambda.specs.Column.{block_of, column_start, column_in, column_of, is_entry, lambda_at, lambda_full}

-- one block of m groups with k effects
abbrev block : ℕ → ℕ → Shape
block m k = record { count = 1; m = m ∷ 0 ∷ 0 ∷ 0 ∷ 0 ∷ 0 ∷ 0 ∷ 0 ∷ []; k = k ∷ 0 ∷ 0 ∷ 0 ∷ 0 ∷ 0 ∷ 0 ∷ 0 ∷ [] }

-- m = 2, k = 2, theta a, b, c: rows (a), (b c), (0 0 a), (0 0 b c)
pub two_groups : (a b c : Float) → matrix 4 4 (lambda_full (block 2 2) (a ∷ b ∷ c ∷ []))
    ≡ a ∷ zero_f ∷ zero_f ∷ zero_f
    ∷ b ∷ c ∷ zero_f ∷ zero_f
    ∷ zero_f ∷ zero_f ∷ a ∷ zero_f
    ∷ zero_f ∷ zero_f ∷ b ∷ c ∷ []
unfolding matrix build lambda_full is_entry lambda_at column_of column_in column_start block_of find_to total_to block_effects block_thetas
two_groups a b c = refl

-- m = 1, k = 3: the first column is a, b, c, the second d, e, the third f
pub three_effects : (a b c d e f : Float) → matrix 3 3 (lambda_full (block 1 3) (a ∷ b ∷ c ∷ d ∷ e ∷ f ∷ []))
    ≡ a ∷ zero_f ∷ zero_f
    ∷ b ∷ d ∷ zero_f
    ∷ c ∷ e ∷ f ∷ []
unfolding matrix build lambda_full is_entry lambda_at column_of column_in column_start block_of find_to total_to block_effects block_thetas
three_effects a b c d e f = refl

-- a block of two groups with one effect, then one of one group with two: the second block's numbers follow the first's
pub two_blocks : (a b c d : Float) → matrix 4 4 (lambda_full (record { count = 2; m = 2 ∷ 1 ∷ 0 ∷ 0 ∷ 0 ∷ 0 ∷ 0 ∷ 0 ∷ []; k = 1 ∷ 2 ∷ 0 ∷ 0 ∷ 0 ∷ 0 ∷ 0 ∷ 0 ∷ [] }) (a ∷ b ∷ c ∷ d ∷ []))
    ≡ a ∷ zero_f ∷ zero_f ∷ zero_f
    ∷ zero_f ∷ a ∷ zero_f ∷ zero_f
    ∷ zero_f ∷ zero_f ∷ b ∷ zero_f
    ∷ zero_f ∷ zero_f ∷ c ∷ d ∷ []
unfolding matrix build lambda_full is_entry lambda_at column_of column_in column_start block_of find_to total_to block_effects block_thetas
two_blocks a b c d = refl
