-- One answer, one content: each contract that this crate hands out is an equation with its definition, but `cross_rows`', which leaves open what stands above the diagonal. Assumes nothing.
use mathlib.Core.Path.{◌≡◌}
use mathlib.Core.List.{List}
use Prim.Native.Nat.{ℕ, ◌<◌, ◌≤◌}
use lib.Ieee.{Float}
use Rattle.base.specs.Sum.{product_at}
use Rattle.base.specs.List.{at, fill_to}
use Rattle.base.proofs.Unique.{one_value}
use Rattle.linear.specs.Product.{x_beta_at, cross_at, effect_at}
use Rattle.linear.specs.SideBySide.{CrossLeft}

-- `x_beta`
pub x_beta_unique : (x : List Float) (p : ℕ) (beta : List Float) (n : ℕ) (before y z : List Float) → y ≡ fill_to n (x_beta_at x p beta) before → z ≡ fill_to n (x_beta_at x p beta) before → y ≡ z
x_beta_unique x p beta n before y z s t = one_value s t

-- `products`
pub products_unique : (a b : List Float) (n : ℕ) (before y z : List Float) → y ≡ fill_to n (product_at a b) before → z ≡ fill_to n (product_at a b) before → y ≡ z
products_unique a b n before y z s t = one_value s t

-- `effects_less`
pub effects_less_unique : (wy W : List Float) (q p : ℕ) (beta before y z : List Float) → y ≡ fill_to q (effect_at wy W q p beta) before → z ≡ fill_to q (effect_at wy W q p beta) before → y ≡ z
effects_less_unique wy W q p beta before y z s t = one_value s t

-- `cross_rows`, up to the diagonal
pub cross_rows_unique : (x : List Float) (p n : ℕ) (w before y z : List Float) → CrossLeft p (cross_at x p n w) before y → CrossLeft p (cross_at x p n w) before z → (a b : ℕ) → a < p → b ≤ a → at p y a b ≡ at p z a b
cross_rows_unique x p n w before y z s t a b l m = one_value (s.below a b l m) (t.below a b l m)
