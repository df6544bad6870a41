-- What the product rule follows, group by group, as what is given and a mode make it. Assumes nothing.
use Rattle.std.specs.Prelude.{◌≡◌, List, ℕ, ◌*◌, ◌^◌, ◌≤◌, eqb, Float}
use Rattle.base.specs.Number.{zero_f}
use Rattle.quadrature.specs.Orders.{size_of}
use Rattle.quadrature.specs.declared.orders.Order.{Order}
use Rattle.rule.specs.Given.{Given}
use Rattle.rule.specs.Stop.{Mode}
use Rattle.agq_rule.specs.Term.{group_term}
use Rattle.agq_rule.specs.Steps.{Integrated, several_group, group_by, groups_from}

-- the log terms of the group whose k effects begin at s
abbrev pub several_terms : Float → Order → ℕ → ℕ → List Float → Given → Mode → ℕ → Float
several_terms phi o s k L G M = group_term G M phi o s k L

-- the group whose k effects begin at s
abbrev pub several_rule : Float → Order → ℕ → ℕ → Given → Mode → (Float → Integrated) → Integrated
several_rule phi o s k G M rest = several_group G M phi o s k rest

-- group g of k effects
abbrev pub group_rule : Float → Order → ℕ → ℕ → Given → Mode → (Float → Integrated) → Integrated
group_rule phi o k g G M rest = group_by (eqb k 1) G M phi o k g rest

-- all groups of k effects
abbrev pub product_rule : Float → Order → ℕ → ℕ → Given → Mode → Integrated
product_rule phi o k groups G M = groups_from G M phi o k groups 0 zero_f

-- the q effects are `groups` groups of k, and for k other than 1 the order has at most 400 points a group
pub record Grouped (q groups k : ℕ) (o : Order) : Type 0 where
  pub all : groups * k ≡ q
  pub capped : (k ≡ 1 → ⊥) → size_of o ^ k ≤ 400
