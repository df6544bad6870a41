-- The random effects by number: up to 8 blocks, block i of m groups with k effects each. Document 01, "What the port carries", its sizes. Assumes nothing.
use Rattle.std.specs.Prelude.{Bool, ◌&&◌, ℕ, zero, suc, ◌+◌, ◌*◌, ◌/◌, ◌≤◌, ◌<◌, leb}
use Rattle.base.specs.Sum.{◌!!◌, all_to}
use Rattle.model.specs.declared.sizes.Shape.{Shape}

-- f 0 + f 1 + .. + f (n - 1)
unfoldable pub total_to : ℕ → (ℕ → ℕ) → ℕ
total_to zero f = 0
total_to (suc n) f = total_to n f + f n

-- a is from lo to hi
abbrev pub within : ℕ → ℕ → ℕ → Bool
within lo hi a = leb lo a && leb a hi

-- the effects of block i: m·k
unfoldable pub block_effects : Shape → ℕ → ℕ
block_effects s i = (s.m !! i) * (s.k !! i)

-- the numbers of theta that block i has: its k by k lower triangle
unfoldable pub block_thetas : Shape → ℕ → ℕ
block_thetas s i = (s.k !! i) * ((s.k !! i) + 1) / 2

-- where the effects of block i begin: after those of the blocks before it
abbrev pub first_effect : Shape → ℕ → ℕ
first_effect s i = total_to i (block_effects s)

-- where block i's numbers of theta begin
abbrev pub first_theta : Shape → ℕ → ℕ
first_theta s i = total_to i (block_thetas s)

-- q: the effects of all blocks together
abbrev pub effects_of : Shape → ℕ
effects_of s = first_effect s s.count

-- how many numbers theta has
abbrev pub theta_length : Shape → ℕ
theta_length s = first_theta s s.count

-- k and m of block i are in range
unfoldable pub good_block : Shape → ℕ → Bool
good_block s i = within 1 8 (s.k !! i) && leb 1 (s.m !! i)

-- the number of blocks, each block, and q are in range
unfoldable pub good_shape : Shape → Bool
good_shape s = within 1 8 s.count && all_to s.count (good_block s) && within 1 32 (effects_of s)

-- what a good shape keeps to, as facts
pub record InRange (s : Shape) : Type 0 where
  pub some : 1 ≤ s.count
  pub few : s.count ≤ 8
  pub k_some : (i : ℕ) → i < s.count → 1 ≤ s.k !! i
  pub k_few : (i : ℕ) → i < s.count → s.k !! i ≤ 8
  pub m_some : (i : ℕ) → i < s.count → 1 ≤ s.m !! i
  pub q_some : 1 ≤ effects_of s
  pub q_few : effects_of s ≤ 32
