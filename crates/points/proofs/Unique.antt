-- One answer, one content: each contract of this crate is an equation with its definition, or a row that was written. Assumes nothing.
use mathlib.Core.Path.{◌≡◌}
use mathlib.Core.List.{List}
use mathlib.Core.Bool.{Bool}
use Prim.Native.Nat.{ℕ, ◌+◌, ◌≤◌}
use lib.ListN.{length}
use lib.Ieee.{Float}
use Rattle.base.specs.Sum.{sum_to, sum_where}
use Rattle.base.specs.List.{build, fill_to}
use Rattle.base.specs.Rows.{Wrote}
use Rattle.base.proofs.Unique.{one_value}
use Rattle.base.proofs.Rows.{wrote_unique}
use Rattle.agq_rule.specs.Point.{digit_entry}
use Rattle.agq_rule.specs.Term.{delta_of, penalty_at}
use Rattle.points.specs.Grid.{log_at}

-- `point_nodes`, `move_effects`, `lambda_within`, `mark_all`, `mark_group`: a row by its rule
pub row_unique : (b n : ℕ) (f : ℕ → Float) (before y z : List Float) → b + n ≤ length before → Wrote b n (build f n) before y → Wrote b n (build f n) before z → y ≡ z
row_unique b n f before y z h p q = wrote_unique b n (build f n) before y z h p q

-- `log_weights`
pub log_weights_unique : (ws : List Float) (size : ℕ) (before y z : List Float) → y ≡ fill_to size (log_at ws) before → z ≡ fill_to size (log_at ws) before → y ≡ z
log_weights_unique ws size before y z d e = one_value d e

-- `log_weight`
pub log_weight_unique : (logs : List Float) (size k t : ℕ) (r s : Float) → r ≡ sum_to k (digit_entry logs size t) → s ≡ sum_to k (digit_entry logs size t) → r ≡ s
log_weight_unique logs size k t r s d e = one_value d e

-- `group_penalty`
pub group_penalty_unique : (t u : List Float) (k : ℕ) (r s : Float) → r ≡ sum_to k (penalty_at t u) → s ≡ sum_to k (penalty_at t u) → r ≡ s
group_penalty_unique t u k r s d e = one_value d e

-- `deviance_gain`
pub deviance_gain_unique : (n : ℕ) (t : ℕ → Bool) (f : ℕ → Float) (r s : Float) → r ≡ sum_where n t f → s ≡ sum_where n t f → r ≡ s
deviance_gain_unique n t f r s d e = one_value d e

-- `delta`
pub delta_unique : (inv dd pen r s : Float) → r ≡ delta_of inv dd pen → s ≡ delta_of inv dd pen → r ≡ s
delta_unique inv dd pen r s d e = one_value d e
