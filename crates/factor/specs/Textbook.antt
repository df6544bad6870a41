-- The textbook's equations between the entries of a matrix and of its factor, and of a triangular system and its solution. Document 01, "The inner fit". Assumes nothing.
use Rattle.std.specs.Prelude.{◌≡◌, List, ℕ, ◌+◌, ◌*◌, ◌<◌, ◌≤◌, Float}
use Rattle.base.specs.Number.{◌⊖◌, ◌⊗◌, ◌⊘◌}
use Rattle.base.specs.Sum.{◌!◌, sum_to, sum_from}
use Rattle.base.specs.List.{at}
use Rattle.root.specs.Sqrt.{sqrt_of}

-- F holds L and d of A = LDL'
pub record LdlTextbook (s : ℕ) (A F : List Float) : Type 0 where
  pub pivot : (i : ℕ) → i < s → at s F i i ≡ at s A i i ⊖ sum_to i (λ k. (at s F i k ⊗ at s F i k) ⊗ at s F k k)
  pub below : (i j : ℕ) → i < s → j < i → at s F i j ≡ (at s A i j ⊖ sum_to j (λ k. (at s F i k ⊗ at s F j k) ⊗ at s F k k)) ⊘ at s F j j

-- F holds L of A = LL'
pub record CholeskyTextbook (s : ℕ) (A F : List Float) : Type 0 where
  pub root : (i : ℕ) → i < s → at s F i i ≡ sqrt_of (at s A i i ⊖ sum_to i (λ k. at s F i k ⊗ at s F i k))
  pub below : (i j : ℕ) → i < s → j < i → at s F i j ≡ (at s A i j ⊖ sum_to j (λ k. at s F i k ⊗ at s F j k)) ⊘ at s F j j

-- X is b above the diagonal and behind the square
pub record KeptAbove (s : ℕ) (b X : List Float) : Type 0 where
  pub above : (i j : ℕ) → i < j → j < s → at s X i j ≡ at s b i j
  pub past : (t : ℕ) → s * s ≤ t → X ! t ≡ b ! t

-- ---- the first s entries of x, for the right side b; the rest of x is b's

-- L x = b, the diagonal being 1
pub record SolvesUnit (s : ℕ) (L b x : List Float) : Type 0 where
  pub each : (i : ℕ) → i < s → x ! i ≡ (b ! i) ⊖ sum_to i (λ k. at s L i k ⊗ (x ! k))
  pub rest : (i : ℕ) → s ≤ i → x ! i ≡ b ! i

-- L' x = b, the diagonal being 1
pub record SolvesUnitBack (s : ℕ) (L b x : List Float) : Type 0 where
  pub each : (i : ℕ) → i < s → x ! i ≡ (b ! i) ⊖ sum_from (i + 1) s (λ k. at s L k i ⊗ (x ! k))
  pub rest : (i : ℕ) → s ≤ i → x ! i ≡ b ! i

-- d_i · x_i = b_i, as one division
pub record Divides (s : ℕ) (L b x : List Float) : Type 0 where
  pub each : (i : ℕ) → i < s → x ! i ≡ (b ! i) ⊘ at s L i i
  pub rest : (i : ℕ) → s ≤ i → x ! i ≡ b ! i

-- L x = b
pub record Solves (s : ℕ) (L b x : List Float) : Type 0 where
  pub each : (i : ℕ) → i < s → x ! i ≡ ((b ! i) ⊖ sum_to i (λ k. at s L i k ⊗ (x ! k))) ⊘ at s L i i
  pub rest : (i : ℕ) → s ≤ i → x ! i ≡ b ! i

-- L' x = b
pub record SolvesBack (s : ℕ) (L b x : List Float) : Type 0 where
  pub each : (i : ℕ) → i < s → x ! i ≡ ((b ! i) ⊖ sum_from (i + 1) s (λ k. at s L k i ⊗ (x ! k))) ⊘ at s L i i
  pub rest : (i : ℕ) → s ≤ i → x ! i ≡ b ! i
