-- Shapes of closed lists, by computation. Assumes nothing.
use mathlib.Core.Path.{◌≡◌, refl}
use mathlib.Core.List.{[], ◌∷◌}
use Prim.Native.Nat.{ℕ}
use lib.ListN.{replicate}
use Rattle.blocks.specs.Blocks.{shape_of, blank_shape}
use Rattle.blocks.specs.declared.Block.{Block}

-- m groups with k effects
abbrev block : ℕ → ℕ → Block
block m k = record { m = m; k = k }

no_block : shape_of [] ≡ blank_shape 0
no_block = refl

-- 3 groups of 1 effect, then 2 groups of 4
two_blocks : shape_of (block 3 1 ∷ block 2 4 ∷ []) ≡ record { count = 2; m = 3 ∷ 2 ∷ 0 ∷ 0 ∷ 0 ∷ 0 ∷ 0 ∷ 0 ∷ []; k = 1 ∷ 4 ∷ 0 ∷ 0 ∷ 0 ∷ 0 ∷ 0 ∷ 0 ∷ [] }
two_blocks = refl

-- a ninth block is counted, and its numbers are not looked at
nine_blocks : shape_of (block 1 2 ∷ replicate 8 (block 5 6)) ≡ record { count = 9; m = 1 ∷ 5 ∷ 5 ∷ 5 ∷ 5 ∷ 5 ∷ 5 ∷ 5 ∷ []; k = 2 ∷ 6 ∷ 6 ∷ 6 ∷ 6 ∷ 6 ∷ 6 ∷ 6 ∷ [] }
nine_blocks = refl
