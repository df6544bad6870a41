-- What the points of several effects ask for: their places, their nodes, the logarithms of their weights and how many they are. Assumes nothing.
use mathlib.Core.Path.{◌≡◌, refl, ap}
use mathlib.Core.List.{List}
use Prim.Native.Nat.{ℕ, ◌+◌, ◌*◌, ◌^◌, ◌≤◌}
use native.Mathlib.Omega.{arith}
use lib.ListN.{length}
use lib.Ieee.{Float}
use Rattle.base.specs.List.{fill_to}
use Rattle.layout.specs.Layout.{WorkRoom}
use Rattle.layout.specs.WorkMatrices.{inverse_place, u_place, trial_u_place}
use Rattle.layout.specs.WorkTerms.{terms_length}
use Rattle.quadrature.specs.Orders.{size_of}
use Rattle.quadrature.specs.Rules.{rule_of}
use Rattle.quadrature.specs.declared.rules.Rule.{Rule}
use Rattle.quadrature.specs.declared.orders.Order.{Order}
use Rattle.quadrature.proofs.Chosen.{size_to}
use Rattle.agq_rule.specs.Point.{LogRow}
use Rattle.points.specs.Grid.{log_at}
use Rattle.scale.proofs.SectionCopied.{square_within}
use Rattle.several.specs.Several.{Grid}
use Rattle.several.proofs.Nodes.{logs_ruled}
use Rattle.sums.proofs.Fronts.{rule_size, rule_weights, rule_some, rule_nodes_long, rule_weights_long, rule_finite}

pub grid_places : (p q s k l u trial : ℕ) → s + k ≤ q → l ≡ inverse_place q → u ≡ u_place p q → trial ≡ trial_u_place p q → (l + k * k ≤ u) × (l + k * k ≤ trial) × (u + q ≤ trial)
grid_places p q s k l u trial h el eu et = (omega (arith, square_within q s k h), omega (arith, square_within q s k h), omega arith)

-- the points of a group, or of all effects: their places and their nodes
pub grid_of : {n p q : ℕ} {r m t : List Float} (o : Order) (z : Rule) (s k l u trial : ℕ) (m' : List Float) → z ≡ rule_of o → WorkRoom n p q r m t → length m' ≡ length m → s + k ≤ q → l ≡ inverse_place q → u ≡ u_place p q
    → trial ≡ trial_u_place p q → Grid q s k z.size l u trial z.nodes m'
grid_of {n} {p} {q} o z s k l u trial m' e lent em h el eu et =
    record {
      within = h;
      factor = (grid_places p q s k l u trial h el eu et).0;
      hats = (grid_places p q s k l u trial h el eu et).2;
      in_m = omega (arith, lent.matrices_long);
      some = omega (arith, rule_some o z e);
      in_nodes = rule_nodes_long o z e;
      finite_nodes = rule_finite o z e;
    }

-- the row of the weights' logarithms, written over a list of eleven
module _ (o : Order) (z : Rule) (before : List Float) (e : z ≡ rule_of o) (long : length before ≡ 11) where
  few : z.size ≤ length before
  few = omega (arith, rule_size o z e, size_to o)

  pub logs_room : (z.size ≤ length z.weights) × (z.size ≤ length before)
  logs_room = (rule_weights_long o z e, few)

  pub logs_of : (logs : List Float) → logs ≡ fill_to z.size (log_at z.weights) before → LogRow o logs
  logs_of logs w = logs_ruled o z.size z.weights before logs (rule_size o z e) (rule_weights o z e) few w

-- how many points there are
pub count_few : (o : Order) (z : Rule) (k most c : ℕ) → z ≡ rule_of o → size_of o ^ k ≤ most → c ≡ z.size ^ k → c ≤ most
count_few o z k most c e h ec = let p : z.size ^ k ≡ size_of o ^ k = ap (λ (x : ℕ). x ^ k) (rule_size o z e) in omega arith

pub count_in_lem : (o : Order) (z : Rule) (k most c : ℕ) (t : List Float) → z ≡ rule_of o → size_of o ^ k ≤ most → c ≡ z.size ^ k → most ≤ 7000 → terms_length ≤ length t → c ≤ length t
count_in_lem o z k most c t e h ec few long = omega (arith, count_few o z k most c e h ec)

-- what the power asks for
pub power_room : (o : Order) (z : Rule) (k : ℕ) → z ≡ rule_of o → size_of o ^ k ≤ 7000 → (3 ≤ z.size) × (z.size ^ k ≤ 7000)
power_room o z k e h = (rule_some o z e, count_few o z k 7000 (z.size ^ k) e h refl)
