-- What an inner fit with its quadrature tells: its number, the order used, its account, and the deviance where it reached a mode. Assumes nothing.
use Rattle.quadrature.specs.declared.orders.Order.{Order}
use Rattle.std.specs.Prelude.{Result, Ok, Err, ℕ, Float}
use Rattle.base.specs.Number.{zero_f, one_f}
use Rattle.model.specs.Answer.{end_number}
use Rattle.model.specs.Items.{tally}
use Rattle.model.specs.declared.counts.Account.{Account}
use Rattle.model.specs.declared.names.Start.TheVariants.{Usual}
use Rattle.quadrature.specs.declared.orders.Decline.{Decline}
use Rattle.rule.specs.Given.{Given}
use Rattle.rule.specs.Run.{start_means}
use Rattle.agq_rule.specs.Inner.{deviance_by, order_by, InnerEnd, with_mode, without_mode, Inner, inner_of}

-- why a quadrature declined, if it did
pub data Reason : Type 0 where
  used : Reason
  because : Decline → Reason
  no_mode : Reason

-- of what it answered
unfoldable pub reason_by : Result (Float × Order) Decline → Reason
reason_by (Ok (d, o)) = used
reason_by (Err d) = because d

-- all that is compared
pub record Told : Type 0 where
  pub number : ℕ
  pub order : ℕ
  pub account : Account
  pub deviance : Float
  pub reason : Reason

-- by how it ended
unfoldable pub told_end : Account → InnerEnd → Told
told_end a (with_mode M i) = record { number = 0; order = order_by i; account = a; deviance = deviance_by i M.laplace; reason = reason_by i }
told_end a (without_mode e) = record { number = end_number e; order = 0; account = a; deviance = zero_f; reason = no_mode }

-- of an inner fit
unfoldable pub told_inner : Inner → Told
told_inner i = told_end (tally i.items) i.ending

-- of the inner fit at phi = 1 from its usual start, with the wish for an order and at most L iterations
unfoldable pub told_with : Given → ℕ → ℕ → Told
told_with G wish L = told_inner (inner_of G wish one_f L (start_means Usual G))
