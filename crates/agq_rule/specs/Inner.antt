-- The inner fit with its quadrature. Document 01, "The inner fit", what a step that declines leaves to the fit; document 02, P5. Assumes nothing.
use Rattle.quadrature.specs.declared.orders.Decline.{Decline}
use Rattle.quadrature.specs.declared.orders.Order.{Order}
use Rattle.std.specs.Prelude.{List, ◌++◌, ℕ, Float, Result, Ok, Err}
use Rattle.model.specs.Items.{Item}
use Rattle.model.specs.declared.ends.End.{End}
use Rattle.quadrature.specs.Orders.{size_of, decline_number}
use Rattle.rule.specs.Given.{Given}
use Rattle.rule.specs.Stop.{Mode}
use Rattle.rule.specs.Run.{Ending, stopped, failed, Outcome, run_of}
use Rattle.agq_rule.specs.Steps.{Integrated, quadrature_of}

-- the deviance of an inner fit: declining keeps Laplace
unfoldable pub deviance_by : Result (Float × Order) Decline → Float → Float
deviance_by (Ok (d, o)) laplace = d
deviance_by (Err w) laplace = laplace

-- the order used, 1 for Laplace
unfoldable pub order_by : Result (Float × Order) Decline → ℕ
order_by (Ok (d, o)) = size_of o
order_by (Err w) = 1

-- why it stayed with Laplace, 0 where the rule was used
unfoldable pub why_by : Result (Float × Order) Decline → ℕ
why_by (Ok (d, o)) = 0
why_by (Err w) = decline_number w

-- how an inner fit with its quadrature ends: with a mode and what the quadrature answered, or with neither
pub data InnerEnd : Type 0 where
  with_mode : Mode → Result (Float × Order) Decline → InnerEnd
  without_mode : End → InnerEnd

-- how it ends, and what it did
pub record Inner : Type 0 where
  pub ending : InnerEnd
  pub items : List Item

-- the items of the run, then the points
unfoldable pub with_points : Mode → List Item → Integrated → Inner
with_points M is r = record { ending = with_mode M r.answer; items = is ++ r.items }

-- by how the run ended
unfoldable pub after_run : Ending → Given → ℕ → Float → List Item → Inner
after_run (failed e) G wish phi is = record { ending = without_mode e; items = is }
after_run (stopped M) G wish phi is = with_points M is (quadrature_of G wish M phi)

-- the quadrature after a run with this outcome
unfoldable pub inner_with : Outcome → Given → ℕ → Float → Inner
inner_with o G wish phi = after_run o.ending G wish phi o.items

-- the inner fit at phi from the starting means mu, with at most L iterations and the wish for an order
unfoldable pub inner_of : Given → ℕ → Float → ℕ → List Float → Inner
inner_of G wish phi L mu = inner_with (run_of G phi L mu) G wish phi
