-- What a group with one effect follows, as what is given and a mode make it. Assumes nothing.
use Rattle.std.specs.Prelude.{ℕ, Float}
use Rattle.base.specs.List.{at}
use Rattle.quadrature.specs.declared.orders.Order.{Order}
use Rattle.rule.specs.Given.{Given, q_of}
use Rattle.rule.specs.Stop.{Mode}
use Rattle.agq_rule.specs.Term.{one_term}
use Rattle.agq_rule.specs.Steps.{Integrated, one_group}

-- the log terms of group g with one effect
abbrev pub one_terms : Float → Order → ℕ → Float → Given → Mode → ℕ → Float
one_terms phi o g sigma G M = one_term G M phi o g sigma

-- group g with one effect, from its diagonal entry of A
abbrev pub one_rule : Float → Order → ℕ → Given → Mode → (Float → Integrated) → Integrated
one_rule phi o g G M rest = one_group G M phi o g (at (q_of G.design) M.system g g) rest
