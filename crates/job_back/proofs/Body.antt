-- The blocks and the doubles of a written job say what was written. Assumes nothing.
use mathlib.Core.Path.{◌≡◌, refl, sym, ap, ◌∙◌}
use mathlib.Core.List.{List, [], ◌∷◌}
use Prim.Native.Nat.{ℕ, zero, suc, ◌+◌, ◌*◌, ◌≤◌, ◌<◌}
use native.Mathlib.Nat.{mul-le-mul_left, zero-add}
use native.Mathlib.Omega.{arith}
use lib.Ieee.{Float}
use lib.ListN.{length, replicate}
use Rattle.base.specs.List.{build}
use Rattle.base.specs.Sum.{◌!◌, ◌!!◌}
use Rattle.base.proofs.Fills.{build_is}
use Rattle.bits.specs.Bits.{bits_of}
use Rattle.model.specs.Shape.{InRange}
use Rattle.model.specs.declared.sizes.Shape.{Shape}
use Rattle.model.proofs.Shapes.{effects_small}
use Rattle.job.specs.Lists.{counts, join_to, laid}
use Rattle.job.specs.Format.{blocks, blocks_at, groups, effects_in, shape_of, number}
use Rattle.job.specs.Write.{packed, block_bytes, number_bytes, numbers_bytes}
use Rattle.job.proofs.ByteLaws.{Bytes}
use Rattle.job_back.specs.Sayable.{Doubles, ZeroPast}
use Rattle.job_back.proofs.Pieces.{Has, has_join, has_number, has_double, peel}
use Rattle.job_back.proofs.Places.{blocks_length, numbers_before}

-- ---- lists of counts by their entries
pub counts_same : (f g : ℕ → ℕ) (n : ℕ) → ((i : ℕ) → i < n → f i ≡ g i) → counts f n ≡ counts g n
unfolding counts
counts_same f g zero h = refl
counts_same f g (suc n) h = rw (h 0 (omega arith), counts_same (λ i. f (suc i)) (λ i. g (suc i)) n (λ i l. h (suc i) (omega arith)))

pub counts_of_lem : (l : List ℕ) (n : ℕ) → length l ≡ n → l ≡ counts (λ i. l !! i) n
unfolding counts
counts_of_lem [] zero e = refl
counts_of_lem [] (suc n) e = absurd (omega arith)
counts_of_lem (x ∷ l) zero e = absurd (omega arith)
counts_of_lem (x ∷ l) (suc n) e = ap (λ (t : List ℕ). x ∷ t) (counts_of_lem l n (omega arith))

-- ---- blocks
m_few : (h : Shape) → InRange h → (i : ℕ) → i < h.count → (h.m !! i) ≤ 32
m_few h r i l = omega (arith, effects_small h r i l, mul-le-mul_left (h.m !! i) (r.k_some i l))

pub record BlockSaid (h : Shape) (s : List ℕ) (a i : ℕ) : Type 0 where
  pub m : groups s i ≡ (h.m !! i)
  pub k : effects_in s i ≡ (h.k !! i)
  pub spare : bits_of s (8 * (a + 2 * i) + 11) 5 ≡ 0

pub block_said : (h : Shape) (s : List ℕ) (a : ℕ) → blocks_at s ≡ a → Bytes s → Has s a (join_to h.count (block_bytes h)) → InRange h → (i : ℕ) → i < h.count → BlockSaid h s a i
unfolding block_bytes packed groups effects_in
block_said h s a e b g r i l =
    let here : Has s (a + 2 * i) (block_bytes h i) = rw (blocks_length h i) at (has_join s a h.count i (block_bytes h) g l) in
    let whole = has_number s (a + 2 * i) 2 _ b here (omega (arith, m_few h r i l, r.k_few i l)) in
    let p2 = peel s (8 * (a + 2 * i)) 11 5 _ 0 whole (omega arith) in
    let p1 = peel s (8 * (a + 2 * i)) 7 4 _ (h.k !! i) p2.0 (omega (arith, r.k_few i l)) in
    record { m = rw e (p1.0 ∙ zero-add (h.m !! i)); k = rw e p1.1; spare = p2.1 }

pub shape_said : (h : Shape) (s : List ℕ) (a : ℕ) → blocks s ≡ h.count → ((i : ℕ) → i < h.count → BlockSaid h s a i) → ZeroPast h.count h.m → ZeroPast h.count h.k → shape_of s ≡ h
shape_said h s a e q bm bk =
    let m : laid (counts (groups s) (blocks s)) (replicate 8 0) ≡ h.m = rw (e, counts_same (groups s) (λ i. h.m !! i) h.count (λ i l. (q i l).m)) (sym bm) in
    let k : laid (counts (effects_in s) (blocks s)) (replicate 8 0) ≡ h.k = rw (e, counts_same (effects_in s) (λ i. h.k !! i) h.count (λ i l. (q i l).k)) (sym bk) in
    λ i. record { count = e i; m = m i; k = k i }

-- ---- a list of doubles
pub numbers_said : (s : List ℕ) (a n : ℕ) (xs : List Float) → length xs ≡ n → Bytes s → Has s a (numbers_bytes xs) → Doubles xs → build (number s a) n ≡ xs
unfolding numbers_bytes
numbers_said s a n xs e b h d =
    sym (build_is (number s a) n xs e (λ i l. let k : i < length xs = omega arith in sym (has_double s (a + 8 * i) (xs ! i) b (rw (numbers_before xs i) at (has_join s a (length xs) i (λ t. number_bytes (xs ! t)) h k)) (d i k))))
