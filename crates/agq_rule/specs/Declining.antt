-- Which group's reason is told where a product rule declines. Document 02, P5, its sentence on several reasons. Assumes nothing.
use Rattle.std.specs.Prelude.{◌≡◌, ℕ, suc, ◌+◌, eqb, Float, Err}
use Rattle.quadrature.specs.declared.orders.Order.{Order}
use Rattle.quadrature.specs.declared.orders.Decline.{Decline}
use Rattle.rule.specs.Given.{Given}
use Rattle.rule.specs.Stop.{Mode}
use Rattle.agq_rule.specs.Steps.{Integrated, group_by, with_sum}

-- d is the reason of the first group that declines: of group g, whatever would follow it, or, where g has the log sum s, of the first after it
pub data FirstDecline (G : Given) (M : Mode) (phi : Float) (o : Order) (k : ℕ) : (left g : ℕ) → Float → Decline → Type 0 where
  here : (left g : ℕ) (total : Float) (d : Decline) → ((rest : Float → Integrated) → (group_by (eqb k 1) G M phi o k g rest).answer ≡ Err d) → FirstDecline G M phi o k (suc left) g total d
  later : (left g : ℕ) (total s : Float) (d : Decline) → ((rest : Float → Integrated) → (group_by (eqb k 1) G M phi o k g rest).answer ≡ (rest s).answer) → FirstDecline G M phi o k left (g + 1) (with_sum total s) d
      → FirstDecline G M phi o k (suc left) g total d
