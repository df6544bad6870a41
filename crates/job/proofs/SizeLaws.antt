-- What the sizes of a job are bounded by, once they were tested, and where its lists begin. Assumes nothing.
use mathlib.Core.Path.{◌≡◌, refl}
use mathlib.Core.Bool.{Bool, true, false, ◌&&◌}
use mathlib.Core.List.{List}
use Prim.Native.Nat.{ℕ, ◌+◌, ◌*◌, ◌≤◌, ◌<◌}
use native.Mathlib.Nat.{mul-le-mul}
use native.Mathlib.Omega.{arith}
use Rattle.bits.specs.Bits.{bits_of}
use Rattle.bits.proofs.BitLaws.{bits_below}
use Rattle.model.specs.Shape.{within, good_shape, InRange}
use Rattle.model.proofs.Tests.{both, from_within}
use Rattle.model.proofs.Shapes.{in_range_lem, not_good, theta_few}
use Rattle.job.specs.declared.sizes.Counts.{Counts}
use Rattle.job.specs.declared.sizes.Places.{Places}
use Rattle.job.specs.Places.{counts_of, places_of, CountsFew}
use Rattle.job.proofs.FaultLaws.{at_six, at_seven}
use Rattle.job.specs.Format.{is_second, blocks_at, groups, effects_in, weighted, shifted, obs, cols, blocks, shape_of, rows_in, thetas, sizes_fit, z_at}

-- the header is seven bytes long at most
pub head_short : (s : List ℕ) → blocks_at s ≤ 7
head_short s = by (is_second s) refl
  where
    by : (b : Bool) → is_second s ≡ b → blocks_at s ≤ 7
    by true e = omega (arith, at_seven s e)
    by false e = omega (arith, at_six s e)

-- a block's numbers, from the byte at which the blocks begin
pub group_at : (s : List ℕ) (first i m : ℕ) → first ≡ blocks_at s → m ≡ bits_of s (8 * (first + 2 * i)) 7 → m ≡ groups s i
unfolding groups
group_at s first i m e h = rw (h, e)

pub effect_at_lem : (s : List ℕ) (first i k : ℕ) → first ≡ blocks_at s → k ≡ bits_of s (8 * (first + 2 * i) + 7) 4 → k ≡ effects_in s i
unfolding effects_in
effect_at_lem s first i k e h = rw (h, e)

-- a shape has room for 8 blocks
pub too_many : (s : List ℕ) → 8 < blocks s → false ≡ good_shape (shape_of s)
too_many s l = not_good (shape_of s) (λ r. omega (arith, r.few))

-- ---- products of numbers in range
pub flag_few : (w n : ℕ) → w < 2 → n ≤ 512 → w * n ≤ 512
flag_few w n a b = let h : w * n ≤ 1 * 512 = mul-le-mul {n₂ = 1} {m₂ = 512} (omega arith) b in omega arith

pub grid_few : (n p : ℕ) → n ≤ 512 → p ≤ 16 → n * p ≤ 8192
grid_few n p a b = let h : n * p ≤ 512 * 16 = mul-le-mul {n₂ = 512} {m₂ = 16} a b in omega arith

-- the sizes of a job and the lengths of its lists
pub record Small (s : List ℕ) : Type 0 where
  pub good : good_shape (shape_of s) ≡ true
  pub some : 1 ≤ obs s
  pub rows : obs s ≤ 512
  pub wide : cols s ≤ 16
  pub few : blocks s ≤ 8
  pub effects : rows_in s ≤ 32
  pub packed : thetas s ≤ 288
  pub weighed : weighted s * obs s ≤ 512
  pub moved : shifted s * obs s ≤ 512
  pub grid : obs s * cols s ≤ 8192

pub sizes_small : (s : List ℕ) → sizes_fit s ≡ true → Small s
unfolding sizes_fit
sizes_small s e =
    let a : (within 1 512 (obs s) ≡ true) × (within 1 16 (cols s) && good_shape (shape_of s) ≡ true) = both e in
    let b : (within 1 16 (cols s) ≡ true) × (good_shape (shape_of s) ≡ true) = both a.1 in
    let n : (1 ≤ obs s) × (obs s ≤ 512) = from_within a.0 in
    let p : (1 ≤ cols s) × (cols s ≤ 16) = from_within b.0 in
    let r : InRange (shape_of s) = in_range_lem (shape_of s) b.1 in
    record {
      good = b.1;
      some = n.0;
      rows = n.1;
      wide = p.1;
      few = r.few;
      effects = r.q_few;
      packed = theta_few (shape_of s) r;
      weighed = flag_few (weighted s) (obs s) (bits_below s 9 1) n.1;
      moved = flag_few (shifted s) (obs s) (bits_below s 10 1) n.1;
      grid = grid_few (obs s) (cols s) n.1 p.1;
    }

-- all doubles lie in the first 100,000 bytes
pub z_near : (s : List ℕ) → Small s → z_at s ≤ 100000
z_near s m =
    let h = head_short s in
    omega (arith, m.few, m.rows, m.packed, m.weighed, m.moved, m.grid)

-- ---- the records of them
pub counted : (s : List ℕ) → Small s → (c : Counts) → c ≡ counts_of s → (c ≡ counts_of s) × CountsFew c
counted s m c e =
    (e, rw e (record { n_few = m.rows; q_few = m.effects; thetas_few = m.packed; weights_few = m.weighed; offset_few = m.moved; x_few = m.grid }))

pub placed : (s : List ℕ) → Small s → (p : Places) → p ≡ places_of s → (p ≡ places_of s) × (p.z ≤ 100000)
placed s m p e = (e, rw e (z_near s m))
