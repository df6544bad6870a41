-- A point of the grid: its nodes and its log weight. Document 01, "The inner fit", the sentence on the digits of a point. Assumes nothing.
use Rattle.std.specs.Prelude.{◌≡◌, List, ℕ, ◌/◌, ◌%◌, ◌^◌, ◌<◌, ◌≤◌, length, Float}
use Rattle.base.specs.Sum.{◌!◌, sum_to}
use Rattle.base.specs.List.{build}
use Rattle.elementary.specs.Log.{ln_of}
use Rattle.quadrature.specs.Orders.{size_of}
use Rattle.quadrature.specs.Rules.{nodes_of, weights_of}
use Rattle.quadrature.specs.declared.orders.Order.{Order}

-- digit j of t in base b, the first lowest
abbrev pub digit : ℕ → ℕ → ℕ → ℕ
digit b t j = t / b ^ j % b

-- what dimension j of point t takes from a row of b numbers
unfoldable pub digit_entry : List Float → ℕ → ℕ → ℕ → Float
digit_entry xs b t j = xs ! digit b t j

-- z_j of point t
unfoldable pub node_at : Order → ℕ → ℕ → Float
node_at o t j = digit_entry (nodes_of o) (size_of o) t j

-- z of point t in k dimensions
unfoldable pub point_of : Order → ℕ → ℕ → List Float
point_of o k t = build (node_at o t) k

-- ln w of dimension j, from a row of b weights
unfoldable pub log_entry : List Float → ℕ → ℕ → ℕ → Float
log_entry ws b t j = ln_of (digit_entry ws b t j)

-- ln w of dimension j
unfoldable pub log_weight_at : Order → ℕ → ℕ → Float
log_weight_at o t j = log_entry (weights_of o) (size_of o) t j

-- the log weight of point t in k dimensions: the sum over them
unfoldable pub log_weight_of : Order → ℕ → ℕ → Float
log_weight_of o k t = sum_to k (log_weight_at o t)

-- logs begins with the logarithms of an order's weights: the row that a rule works out once, for all its points
pub record LogRow (o : Order) (logs : List Float) : Type 0 where
  pub long : size_of o ≤ length logs
  pub each : (i : ℕ) → i < size_of o → logs ! i ≡ ln_of (weights_of o ! i)
