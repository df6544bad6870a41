-- Entries of lists, and sums and tests over ascending index. Document 01, "The inner fit": all sums run over ascending index from +0.0. Assumes nothing.
use Rattle.std.specs.Prelude.{List, Bool, true, false, ◌&&◌, ◌||◌, ℕ, zero, suc, ◌+◌, ◌-◌, get_or, Float}
use Rattle.std.specs.Float.{nan}
use Rattle.base.specs.Number.{◌⊕◌, ◌⊗◌, zero_f, finite}

infixl 80 ◌!◌
infixl 80 ◌!!◌
-- entry i of a list of numbers
abbrev pub ◌!◌ : List Float → ℕ → Float
xs ! i = get_or xs i nan

-- entry i of a list of counts
abbrev pub ◌!!◌ : List ℕ → ℕ → ℕ
xs !! i = get_or xs i 0

-- f 0 + f 1 + .. + f (n - 1), ascending from +0.0
unfoldable pub sum_to : ℕ → (ℕ → Float) → Float
sum_to zero f = zero_f
sum_to (suc n) f = sum_to n f ⊕ f n

-- f a + .. + f (e - 1), ascending from +0.0
unfoldable pub sum_from : ℕ → ℕ → (ℕ → Float) → Float
sum_from a e f = sum_to (e - a) (λ k. f (a + k))

-- s + x where the test holds, else s
unfoldable pub add_where : Bool → Float → Float → Float
add_where true s x = s ⊕ x
add_where false s x = s

-- the sum of f i over the i below n where t i holds, ascending from +0.0
unfoldable pub sum_where : ℕ → (ℕ → Bool) → (ℕ → Float) → Float
sum_where zero t f = zero_f
sum_where (suc n) t f = add_where (t n) (sum_where n t f) (f n)

-- t holds of every number below n
unfoldable pub all_to : ℕ → (ℕ → Bool) → Bool
all_to zero t = true
all_to (suc n) t = all_to n t && t n

-- entry i is finite
abbrev pub finite_at : List Float → ℕ → Bool
finite_at xs i = finite (xs ! i)

-- t holds of some number below n
unfoldable pub any_to : ℕ → (ℕ → Bool) → Bool
any_to zero t = false
any_to (suc n) t = any_to n t || t n

-- a_i · b_i
abbrev pub product_at : List Float → List Float → ℕ → Float
product_at a b i = (a ! i) ⊗ (b ! i)

-- a_0·b_0 + .. + a_(n-1)·b_(n-1)
abbrev pub dot_of : ℕ → List Float → List Float → Float
dot_of n a b = sum_to n (product_at a b)

-- a_(o+i) · b_i
abbrev pub product_from : List Float → ℕ → List Float → ℕ → Float
product_from a o b i = (a ! (o + i)) ⊗ (b ! i)
