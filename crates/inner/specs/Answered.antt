-- What the inner fit with its quadrature answers and leaves. Document 01, "The inner fit"; document 02, P5. Assumes nothing.
use Rattle.quadrature.specs.declared.orders.Decline.{Decline}
use Rattle.quadrature.specs.declared.orders.Order.{Order}
use Rattle.std.specs.Prelude.{Result, Ok, Err}
use Rattle.std.specs.Prelude.{◌≡◌, List, ℕ, Float}
use Rattle.base.specs.Rows.{Only}
use Rattle.layout.specs.WorkRows.{rows_length}
use Rattle.layout.specs.WorkMatrices.{matrices_length}
use Rattle.layout.specs.WorkTerms.{terms_length}
use Rattle.model.specs.Account.{◌⊞◌, points_of}
use Rattle.model.specs.Items.{tally}
use Rattle.model.specs.declared.counts.Account.{Account}
use Rattle.model.specs.declared.ends.End.{End}
use Rattle.rule.specs.Given.{Given, n_of, q_of}
use Rattle.rule.specs.Stop.{Mode}
use Rattle.pirls.specs.Inner.{HoldsResults}
use Rattle.pirls.specs.declared.run.Stopped.{Stopped}
use Rattle.agq_rule.specs.Inner.{InnerEnd, with_mode, without_mode, deviance_by, order_by, why_by, inner_of}
use Rattle.sums.specs.declared.answers.Quadrature.{Quadrature}
use Rattle.inner.specs.declared.answers.Answered.{Answered}
use Rattle.inner.specs.declared.answers.InnerAnswer.{InnerAnswer}

-- an inner fit without a result: its end and its account
abbrev pub failed_answer : End → Account → InnerAnswer
failed_answer e a = record { outcome = Err e; account = a }

-- a fit that stopped, with what its quadrature answers: the points are counted, whatever became of them
abbrev pub stopped_answer : Stopped → Account → Quadrature → InnerAnswer
stopped_answer f w a =
    record {
      outcome =
          Ok (record {
            iterations = f.iterations;
            in_second = f.in_second;
            deviance_sum = f.deviance_sum;
            deviance = deviance_by a.answer f.laplace;
            order = order_by a.answer;
            why = why_by a.answer;
          });
      account = w ⊞ points_of a.points;
    }

-- the answer holds the mode k with what the quadrature answered, i; the work slices hold what the results are made of
pub record HoldsAnswer (G : Given) (k : Mode) (i : Result (Float × Order) Decline) (rows matrices : List Float) (a : Answered) : Type 0 where
  pub iterations : a.iterations ≡ k.iterations
  pub results : HoldsResults G k a.in_second rows matrices
  pub sum : a.deviance_sum ≡ k.dev_sum
  pub deviance : a.deviance ≡ deviance_by i k.laplace
  pub order : a.order ≡ order_by i
  pub why : a.why ≡ why_by i

-- the answer says how the inner fit ended
abbrev pub AnswerTold : InnerEnd → Given → (rows matrices : List Float) → InnerAnswer → Type 0
AnswerTold (with_mode k i) G r m a = (s : Answered) × (a.outcome ≡ Ok s) × HoldsAnswer G k i r m s
AnswerTold (without_mode e) G r m a = a.outcome ≡ Err e

-- the answer is the rule's inner fit from the means mu, its account the tally of all items; nothing behind the named lengths has changed
pub record AnswerLeft (G : Given) (wish : ℕ) (phi : Float) (L : ℕ) (mu r r' m m' t t' : List Float) (a : InnerAnswer) : Type 0 where
  pub told : AnswerTold (inner_of G wish phi L mu).ending G r' m' a
  pub counted : a.account ≡ tally (inner_of G wish phi L mu).items
  pub rows_only : Only 0 (rows_length (n_of G)) r r'
  pub matrices_only : Only 0 (matrices_length G.design.p (q_of G.design)) m m'
  pub terms_only : Only 0 terms_length t t'
