-- Columns of X'WX that are summed side by side. Assumes nothing.
use Rattle.std.specs.Prelude.{◌≡◌, List, ℕ, ◌+◌, ◌-◌, ◌<◌, ◌≤◌, length, Float}
use Rattle.base.specs.Number.{◌⊕◌, ◌⊗◌}
use Rattle.base.specs.Sum.{◌!◌}
use Rattle.base.specs.List.{at}
use Rattle.linear.specs.Product.{cross_at}

-- sum k with v times entry o + k of x added
abbrev pub added_at : Float → List Float → ℕ → List Float → ℕ → Float
added_at v x o sums k = (sums ! k) ⊕ v ⊗ (x ! (o + k))

-- entry (a, b + k) of X'WX
abbrev pub cross_from : List Float → ℕ → ℕ → List Float → ℕ → ℕ → ℕ → Float
cross_from x p n w a b k = cross_at x p n w a (b + k)

-- where `count` columns begin that are to begin at b and to end within p: the lesser of b and p - count
abbrev pub begin_at : ℕ → ℕ → ℕ → ℕ
begin_at b p count = b - (b - (p - count))

-- a row of p places that had its entries below b has them below r, which is behind b
pub record RowOn (p : ℕ) (f : ℕ → Float) (b r : ℕ) (out out' : List Float) : Type 0 where
  pub len : length out' ≡ length out
  pub on : b < r
  pub within : r ≤ p
  pub more : (k : ℕ) → b ≤ k → k < r → out' ! k ≡ f k
  pub still : (k : ℕ) → k < b → out ! k ≡ f k → out' ! k ≡ f k

-- out' has the entries f b, b up to a; what stands behind them is of no account
pub record RowLeft (a : ℕ) (f : ℕ → Float) (out out' : List Float) : Type 0 where
  pub len : length out' ≡ length out
  pub below : (b : ℕ) → b ≤ a → out' ! b ≡ f b

-- out' has the entries f a b, b up to a, of a matrix of p columns; what stands above the diagonal is of no account
pub record CrossLeft (p : ℕ) (f : ℕ → ℕ → Float) (out out' : List Float) : Type 0 where
  pub len : length out' ≡ length out
  pub below : (a b : ℕ) → a < p → b ≤ a → at p out' a b ≡ f a b
