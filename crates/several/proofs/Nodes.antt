-- The nodes and the log weight of a point, from rows that hold an order's: every digit is below the order. Assumes nothing.
use mathlib.Core.Path.{◌≡◌, sym, ap, ◌∙◌}
use mathlib.Core.Bool.{true}
use mathlib.Core.List.{List}
use Prim.Native.Nat.{ℕ, ◌/◌, ◌^◌, ◌<◌, ◌≤◌}
use native.Mathlib.Nat.{mod-lt}
use native.Mathlib.Omega.{arith}
use lib.ListN.{length}
use lib.Ieee.{Float}
use Rattle.base.specs.Sum.{all_to, finite_at}
use Rattle.base.specs.List.{build, fill_to}
use Rattle.base.proofs.Sums.{sum_cong, all_at, all_of}
use Rattle.base.proofs.Fills.{build_at, build_cong, length_fill, fill_in}
use Rattle.elementary.specs.Log.{ln_of}
use Rattle.quadrature.specs.Orders.{size_of}
use Rattle.quadrature.specs.Rules.{nodes_of, weights_of, padded}
use Rattle.quadrature.specs.declared.orders.Order.{Order}
use Rattle.quadrature.proofs.Chosen.{size_from}
use Rattle.quadrature.proofs.Padded.{node_padded, weight_padded}
use Rattle.agq_rule.specs.Point.{digit, digit_entry, node_at, point_of, log_entry, log_weight_at, log_weight_of, LogRow}
use Rattle.points.specs.Grid.{log_at}
use Rattle.several.specs.Several.{nodes_at, log_weight_in}

digit_below : (b t j : ℕ) → 1 ≤ b → digit b t j < b
digit_below b t j h =
    let some : 0 < b = omega arith in
    mod-lt (t / b ^ j) some

pub point_finite : (nodes : List Float) (size k t : ℕ) → 1 ≤ size → all_to size (finite_at nodes) ≡ true → all_to k (finite_at (build (digit_entry nodes size t) k)) ≡ true
unfolding digit_entry
point_finite nodes size k t h f =
    sym (all_of (finite_at (build (digit_entry nodes size t) k)) k
    (λ j l. rw (build_at (digit_entry nodes size t) k j l) (all_at (finite_at nodes) size (sym f) (digit size t j) (digit_below size t j h))))

-- ---- of an order
order_digit : (o : Order) (t j : ℕ) → digit (size_of o) t j < size_of o
order_digit o t j = digit_below (size_of o) t j (omega (arith, size_from o))

pub nodes_ruled : (o : Order) (k t : ℕ) → nodes_at (padded (nodes_of o)) (size_of o) k t ≡ point_of o k t
unfolding nodes_at point_of node_at digit_entry
nodes_ruled o k t = build_cong (digit_entry (padded (nodes_of o)) (size_of o) t) (node_at o t) k (λ j l. node_padded o (digit (size_of o) t j) (order_digit o t j))

-- what `log_weights` leaves of a rule's weights is their row
pub logs_ruled : (o : Order) (size : ℕ) (ws before logs : List Float) → size ≡ size_of o → ws ≡ padded (weights_of o) → size ≤ length before → logs ≡ fill_to size (log_at ws) before → LogRow o logs
unfolding log_at
logs_ruled o size ws before logs many weight long e =
    record {
      long = omega (arith, ap length e ∙ length_fill size (log_at ws) before);
      each = λ i l. rw (e, fill_in size (log_at ws) before long i (omega arith), weight) (ap (λ (x : Float). ln_of x) (weight_padded o i l));
    }

pub weight_ruled : (o : Order) (logs : List Float) (k t : ℕ) → LogRow o logs → log_weight_in logs (size_of o) k t ≡ log_weight_of o k t
unfolding log_weight_in log_weight_of log_weight_at log_entry digit_entry
weight_ruled o logs k t h = sum_cong k (digit_entry logs (size_of o) t) (log_weight_at o t) (λ j l. h.each (digit (size_of o) t j) (order_digit o t j))
