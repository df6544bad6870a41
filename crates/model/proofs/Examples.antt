-- The definitions of sizes and limits on closed examples, by computation. Assumes nothing.
use Rattle.std.specs.Prelude.{Some, None}
use mathlib.Core.Path.{◌≡◌, refl}
use mathlib.Core.Bool.{true, false}
use mathlib.Core.List.{[], ◌∷◌}
use Prim.Native.Nat.{ℕ, ◌^◌}
use Rattle.base.specs.Sum.{all_to}
use Rattle.model.specs.Names.{limit_of}
use Rattle.model.specs.Shape.{total_to, block_effects, block_thetas, first_effect, first_theta, effects_of, theta_length, good_block, good_shape}
use Rattle.model.specs.Settings.{good_limit}
use Rattle.model.specs.declared.names.Link.TheVariants.{Logit, Inverse}
use Rattle.model.specs.declared.sizes.Shape.{Shape}

-- one block of m groups with k effects
abbrev block : ℕ → ℕ → Shape
block m k = record { count = 1; m = m ∷ 0 ∷ 0 ∷ 0 ∷ 0 ∷ 0 ∷ 0 ∷ 0 ∷ []; k = k ∷ 0 ∷ 0 ∷ 0 ∷ 0 ∷ 0 ∷ 0 ∷ 0 ∷ [] }

-- 3 groups of 1 effect, then 2 groups of 3
abbrev two : Shape
two = record { count = 2; m = 3 ∷ 2 ∷ 0 ∷ 0 ∷ 0 ∷ 0 ∷ 0 ∷ 0 ∷ []; k = 1 ∷ 3 ∷ 0 ∷ 0 ∷ 0 ∷ 0 ∷ 0 ∷ 0 ∷ [] }

-- n blocks of 1 group with 1 effect
abbrev ones : ℕ → Shape
ones n = record { count = n; m = 1 ∷ 1 ∷ 1 ∷ 1 ∷ 1 ∷ 1 ∷ 1 ∷ 1 ∷ []; k = 1 ∷ 1 ∷ 1 ∷ 1 ∷ 1 ∷ 1 ∷ 1 ∷ 1 ∷ [] }

two_effects : effects_of two ≡ 9
unfolding total_to block_effects
two_effects = refl

two_thetas : theta_length two ≡ 7
unfolding total_to block_thetas
two_thetas = refl

two_second : (first_effect two 1 ≡ 3) × (first_theta two 1 ≡ 1)
unfolding total_to block_effects block_thetas
two_second = (refl, refl)

good : (good_shape two ≡ true) × (good_shape (block 32 1) ≡ true) × (good_shape (block 4 8) ≡ true) × (good_shape (ones 8) ≡ true)
unfolding good_shape good_block all_to total_to block_effects
good = (refl, refl, refl, refl)

-- q above 32, m or k of 0, k above 8, no block, nine blocks, an m whose product with k passes 64 bits
bad : (good_shape (block 33 1) ≡ false) × (good_shape (block 0 1) ≡ false) × (good_shape (block 1 0) ≡ false) × (good_shape (block 1 9) ≡ false) × (good_shape (ones 0) ≡ false) × (good_shape (ones 9) ≡ false) × (good_shape (block (2 ^ 63) 8) ≡ false)
unfolding good_shape good_block all_to total_to block_effects
bad = (refl, refl, refl, refl, refl, refl, refl)

limits : (good_limit (Some 0) ≡ true) × (good_limit (Some 1000) ≡ true) × (good_limit (Some 1001) ≡ false) × (good_limit None ≡ true)
unfolding good_limit
limits = (refl, refl, refl, refl)

usual : (limit_of None Logit ≡ 100) × (limit_of None Inverse ≡ 1000) × (limit_of (Some 0) Inverse ≡ 0)
unfolding limit_of
usual = (refl, refl, refl)
