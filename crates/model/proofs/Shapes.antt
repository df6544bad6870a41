-- A good shape as facts, and the bounds of its sums. Assumes nothing.
use mathlib.Core.Path.{◌≡◌, refl, sym, ◌∙◌}
use mathlib.Core.Bool.{true, false, ◌&&◌, true≢false}
use Prim.Native.Nat.{ℕ, ◌+◌, ◌*◌, ◌/◌, ◌<◌, ◌≤◌}
use native.Mathlib.Nat.{mul-le-mul, one-le-mul, div-le_of_le-mul, le-mul_of_pos_right}
use native.Mathlib.Omega.{arith}
use lib.Dec.{leb}
use borrow.Author.Tests.{leb-true, le-leb}
use Rattle.base.specs.Sum.{◌!!◌, all_to}
use Rattle.model.specs.Shape.{within, block_effects, block_thetas, first_effect, first_theta, effects_of, good_block, good_shape, InRange}
use Rattle.model.specs.declared.sizes.Shape.{Shape}
use Rattle.base.proofs.Sums.{all_at, all_end}
use Rattle.model.proofs.Tests.{both, joined, false_unless, from_within, to_within}
use Rattle.model.proofs.Totals.{total_step, total_end, total_part, total_most}

-- a good block's numbers
block_facts : (s : Shape) (i : ℕ) → good_block s i ≡ true → ((1 ≤ s.k !! i) × (s.k !! i ≤ 8)) × (1 ≤ s.m !! i)
unfolding good_block
block_facts s i e =
    let p : (within 1 8 (s.k !! i) ≡ true) × (leb 1 (s.m !! i) ≡ true) = both e in
    (from_within p.0, leb-true 1 (s.m !! i) p.1)

pub in_range_lem : (s : Shape) → good_shape s ≡ true → InRange s
unfolding good_shape
in_range_lem s e =
    let p : (within 1 8 s.count && all_to s.count (good_block s) ≡ true) × (within 1 32 (effects_of s) ≡ true) = both e in
    let c : (within 1 8 s.count ≡ true) × (all_to s.count (good_block s) ≡ true) = both p.0 in
    let b = all_at (good_block s) s.count (sym c.1) in
    record {
      some = (from_within c.0).0;
      few = (from_within c.0).1;
      k_some = λ i l. (block_facts s i (b i l)).0.0;
      k_few = λ i l. (block_facts s i (b i l)).0.1;
      m_some = λ i l. (block_facts s i (b i l)).1;
      q_some = (from_within p.1).0;
      q_few = (from_within p.1).1;
    }

-- block i's effects end within q
pub effects_end : (s : Shape) (i : ℕ) → i < s.count → first_effect s i + block_effects s i ≤ effects_of s
effects_end s i l = total_part (block_effects s) i s.count l

-- twice a block's numbers of theta
pub thetas_twice : (s : Shape) → InRange s → (i : ℕ) → i < s.count → (s.k !! i) * ((s.k !! i) + 1) ≤ 72
thetas_twice s r i l = mul-le-mul {n₂ = 8} {m₂ = 9} (r.k_few i l) (omega (arith, r.k_few i l))

-- a block has at most 36 numbers of theta
pub thetas_few : (s : Shape) → InRange s → (i : ℕ) → i < s.count → block_thetas s i ≤ 36
unfolding block_thetas
thetas_few s r i l = div-le_of_le-mul 2 (thetas_twice s r i l)

-- block i's numbers of theta end within theta
pub thetas_end : (s : Shape) (i : ℕ) → i < s.count → first_theta s i + block_thetas s i ≤ first_theta s s.count
thetas_end s i l = total_part (block_thetas s) i s.count l

-- theta has at most 288 numbers
pub theta_few : (s : Shape) → InRange s → first_theta s s.count ≤ 288
theta_few s r = omega (arith, r.few, total_most (block_thetas s) 36 s.count (thetas_few s r))

-- what `block_ok` tests holds of each block of a good shape
block_small : (s : Shape) → InRange s → (i : ℕ) → i < s.count → within 1 8 (s.k !! i) && within 1 32 (s.m !! i) ≡ true
unfolding block_effects
block_small s r i l =
    joined (to_within (r.k_some i l) (r.k_few i l))
    (to_within (r.m_some i l) (omega (arith, le-mul_of_pos_right {m = s.k !! i} (s.m !! i) (r.k_some i l), effects_end s i l, r.q_few)))

-- a shape out of range is not good
pub not_good : (s : Shape) → (InRange s → ⊥) → false ≡ good_shape s
not_good s h = false_unless (λ e. h (in_range_lem s e))

-- nor is one with a block that `block_ok` refuses
pub bad_block : (s : Shape) (i : ℕ) → i < s.count → within 1 8 (s.k !! i) && within 1 32 (s.m !! i) ≡ false → false ≡ good_shape s
bad_block s i l e = not_good s (λ r. true≢false (sym (block_small s r i l) ∙ e))

-- where all n blocks are good, with q effects together, what is left to test is that q is at most 32
pub good_when : (s : Shape) (n q : ℕ) → n ≡ s.count → (1 ≤ n) × (n ≤ 8) → n ≤ q → (q ≡ first_effect s n) × (true ≡ all_to n (good_block s)) → leb q 32 ≡ good_shape s
unfolding good_shape
good_when s n q e b l p =
    let few : within 1 8 s.count ≡ true = to_within {lo = 1} {hi = 8} {a = s.count} (omega arith) (omega arith) in
    let all : true ≡ all_to s.count (good_block s) = all_end (good_block s) n s.count p.1 (omega arith) (omega arith) in
    let sum : q ≡ effects_of s = total_end (block_effects s) n s.count q p.0 (omega arith) (omega arith) in
    rw (few, ← all, ← sum, le-leb 1 q (omega arith)) refl

-- with block i's own effects the sum is still at most 32
pub effects_small : (s : Shape) → InRange s → (i : ℕ) → i < s.count → first_effect s i + (s.m !! i) * (s.k !! i) ≤ 32
unfolding block_effects
effects_small s r i l = omega (arith, effects_end s i l, r.q_few)

-- with block i's own numbers of theta the sum is still at most 288
pub thetas_small : (s : Shape) → InRange s → (i : ℕ) → i < s.count → first_theta s i + (s.k !! i) * ((s.k !! i) + 1) / 2 ≤ 288
unfolding block_thetas
thetas_small s r i l = omega (arith, thetas_end s i l, theta_few s r)

-- one block more
pub effect_step : (s : Shape) (i q : ℕ) → q ≡ first_effect s i → q + (s.m !! i) * (s.k !! i) ≡ first_effect s (i + 1)
unfolding block_effects
effect_step s i q e = total_step (block_effects s) i q e

pub theta_step : (s : Shape) (i t : ℕ) → t ≡ first_theta s i → t + (s.k !! i) * ((s.k !! i) + 1) / 2 ≡ first_theta s (i + 1)
unfolding block_thetas
theta_step s i t e = total_step (block_thetas s) i t e

-- a block that `block_ok` passes: its product is small, and it is good
pub block_passes : (s : Shape) (i : ℕ) → within 1 8 (s.k !! i) && within 1 32 (s.m !! i) ≡ true → ((1 ≤ (s.m !! i) * (s.k !! i)) × ((s.m !! i) * (s.k !! i) ≤ 256)) × (good_block s i ≡ true)
unfolding good_block
block_passes s i e =
    let p : (within 1 8 (s.k !! i) ≡ true) × (within 1 32 (s.m !! i) ≡ true) = both e in
    let k : (1 ≤ s.k !! i) × (s.k !! i ≤ 8) = from_within p.0 in
    let m : (1 ≤ s.m !! i) × (s.m !! i ≤ 32) = from_within p.1 in
    ((one-le-mul m.0 k.0, mul-le-mul {n₂ = 32} {m₂ = 8} m.1 k.1), joined p.0 (le-leb 1 (s.m !! i) m.0))
