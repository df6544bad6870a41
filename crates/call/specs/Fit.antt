-- The fit that a call asks for, over the inner fit with its quadrature, and its answer. Document 01, "The inner fit", on dispersion, and "Numbers of an answer"; document 02, P5 and P10. Assumes nothing.
use Rattle.quadrature.specs.declared.orders.Decline.{Decline}
use Rattle.quadrature.specs.declared.orders.Order.{Order}
use Rattle.std.specs.Prelude.{Bool, true, false, List, ℕ, Float, Result}
use Rattle.model.specs.Answer.{unfitted_answer, fitted_answer}
use Rattle.model.specs.Items.{tally}
use Rattle.model.specs.declared.counts.Account.{Account}
use Rattle.model.specs.declared.ends.Answer.{Answer}
use Rattle.family.specs.Family.{uses_dispersion}
use Rattle.rule.specs.Given.{Given, n_of}
use Rattle.rule.specs.Stop.{Mode}
use Rattle.agq_rule.specs.Inner.{InnerEnd, with_mode, without_mode, Inner, deviance_by, order_by, why_by, inner_of}
use Rattle.dispersion.specs.Phi.{effective_n}
use Rattle.dispersion.specs.Rounds.{Result as FitResult, result, no_result, Total, Dispersed, dispersion_of, fixed_of}

-- what an inner fit with a result comes to: its mode, and what its quadrature answered
pub record Fitted : Type 0 where
  pub mode : Mode
  pub integral : Result (Float × Order) Decline

-- the deviance sum of an inner fit, by which phi goes on
abbrev pub sum_of : Fitted → Float
sum_of f = f.mode.dev_sum

-- how an inner fit ends, in the words of the dispersion loop
unfoldable pub result_by : InnerEnd → FitResult Fitted
result_by (with_mode M i) = result (record { mode = M; integral = i })
result_by (without_mode e) = no_result e

-- and what it did
unfoldable pub total_of : Inner → Total Fitted
total_of i = record { outcome = result_by i.ending; items = i.items }

-- the inner fit at phi, which begins from the starting means mu whatever came before it; wish is the order wished for, L the limit
unfoldable pub inner_at : Given → List Float → ℕ → ℕ → Float → Total Fitted
inner_at G mu wish L phi = total_of (inner_of G wish phi L mu)

-- with a free dispersion the dispersion loop, else one inner fit
unfoldable pub fit_by : Bool → Given → List Float → ℕ → ℕ → Total (Dispersed Fitted)
fit_by true G mu wish L = dispersion_of (effective_n (n_of G) G.weights) sum_of (inner_at G mu wish L)
fit_by false G mu wish L = fixed_of (inner_at G mu wish L)

-- the fit from the starting means mu, whatever they are (document 02, P10)
unfoldable pub fit_of : Given → List Float → ℕ → ℕ → Total (Dispersed Fitted)
fit_of G mu wish L = fit_by (uses_dispersion G.family) G mu wish L

-- the answer by what the fit comes to, and the account of what it did
unfoldable pub result_answer : FitResult (Dispersed Fitted) → Account → Answer
result_answer (no_result e) a = unfitted_answer e a
result_answer (result d) a =
    fitted_answer (deviance_by d.last.integral d.last.mode.laplace) d.phi (order_by d.last.integral) (why_by d.last.integral) d.converged d.last.mode.iterations a

-- the answer of a fit: its account is the tally of its items
unfoldable pub answer_of : Total (Dispersed Fitted) → Answer
answer_of t = result_answer t.outcome (tally t.items)
