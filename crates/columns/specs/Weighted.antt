-- Products with the weighted columns x_a·w of X, with a list over the observations and with the rows of Z'. Document 01, "The inner fit". Assumes nothing.
use Rattle.std.specs.Prelude.{◌≡◌, List, ℕ, ◌+◌, ◌≤◌, ◌<◌, Float}
use Rattle.base.specs.Number.{◌⊕◌, ◌⊗◌}
use Rattle.base.specs.Sum.{◌!◌, ◌!!◌, sum_from, dot_of}
use Rattle.base.specs.List.{build, fill_to}
use Rattle.base.specs.Sparse.{Sparse}
use Rattle.linear.specs.Product.{xw_at}
use Rattle.stored.specs.Stored.{zt_times_at}

-- (x_a·w)·v
unfoldable pub weighted_dot : List Float → ℕ → ℕ → List Float → List Float → ℕ → Float
weighted_dot x p n w v a = dot_of n (build (xw_at x p w a) n) v

-- entry g of Z'(x_a·w)
unfoldable pub weighted_side : Sparse → List Float → ℕ → ℕ → List Float → ℕ → ℕ → Float
weighted_side zt x p n w g a = zt_times_at zt n (build (xw_at x p w a) n) g

-- the sum over the stored entries from begin to end of their value times x_a·w at their observation
unfoldable pub entries_side : List ℕ → List Float → List Float → ℕ → List Float → ℕ → ℕ → ℕ → Float
entries_side columns values x p w begin end a = sum_from begin end (λ k. (values ! k) ⊗ xw_at x p w a (columns !! k))

-- ---- several columns at once

-- the sum s_k and v·(x_(o+k)·w)
unfoldable pub weighted_more : Float → Float → List Float → ℕ → List Float → ℕ → Float
weighted_more w v x o s k = (s ! k) ⊕ (v ⊗ ((x ! (o + k)) ⊗ w))

-- the rule f from b on
unfoldable pub starting_at : (ℕ → Float) → ℕ → ℕ → Float
starting_at f b k = f (b + k)

-- a list that is filled up to b by f has become one that is filled up to r, behind b and within p
pub record Further (f : ℕ → Float) (p b r : ℕ) (v w : List Float) : Type 0 where
  pub behind : b < r
  pub within : r ≤ p
  pub filled : (u : List Float) → v ≡ fill_to b f u → w ≡ fill_to r f u
