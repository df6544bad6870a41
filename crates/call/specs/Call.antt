-- What a call answers and what it leaves in every lent slice. Document 01, "Numbers of an answer"; document 02, P10. Assumes nothing.
use Rattle.model.specs.declared.ends.Refusal.{Refusal}
use Rattle.std.specs.Prelude.{◌≡◌, List, ◌⊎◌, ℕ, ◌≤◌, length, Float, Result, Ok, Err}
use Rattle.base.specs.List.{zero_at, fill_to}
use Rattle.model.specs.Answer.{refused_answer}
use Rattle.model.specs.Names.{limit_of}
use Rattle.model.specs.declared.ends.Answer.{Answer}
use Rattle.model.specs.declared.sizes.Shape.{Shape}
use Rattle.model.specs.declared.sizes.Settings.{Settings}
use Rattle.layout.specs.WorkRows.{rows_length}
use Rattle.layout.specs.WorkMatrices.{matrices_length}
use Rattle.layout.specs.WorkTerms.{terms_length}
use Rattle.family.specs.declared.carried.CarriedFamily.{CarriedFamily}
use Rattle.family.specs.declared.carried.CarriedLink.{CarriedLink}
use Rattle.stored.specs.Stored.{sparse}
use Rattle.rule.specs.Given.{Given, design_of, given_of}
use Rattle.rule.specs.Stop.{Mode}
use Rattle.rule.specs.Run.{start_means, start_at, FirstStop}
use Rattle.agq_rule.specs.Steps.{quadrature_of}
use Rattle.agq_rule.specs.Inner.{deviance_by, order_by, why_by}
use Rattle.results.specs.Nine.{Results, nine, results_of}
use Rattle.model.specs.Inputs.{Inputs}
use Rattle.table.specs.Table.{table_of}
use Rattle.table.specs.declared.verdicts.LentLengths.{LentLengths}
use Rattle.dispersion.specs.Rounds.{Result as FitResult, result, no_result, Total, Dispersed}
use Rattle.call.specs.Fit.{Fitted, fit_of, answer_of}

-- the slices that a call may write: nine results and three work slices
pub record Lent : Type 0 where
  pub results : Results
  pub rows : List Float
  pub matrices : List Float
  pub terms : List Float

-- twelve lists as lent slices
abbrev pub lent : (beta se z u b mu eta residual v rows matrices terms : List Float) → Lent
lent beta se z u b mu eta residual v rows matrices terms =
    record { results = nine beta se z u b mu eta residual v; rows = rows; matrices = matrices; terms = terms }

-- how long they are
unfoldable pub lengths_of : Lent → LentLengths
lengths_of L =
    record {
      beta = length L.results.beta;
      se = length L.results.se;
      z = length L.results.z;
      u = length L.results.u;
      b = length L.results.b;
      mu = length L.results.mu;
      eta = length L.results.eta;
      residual = length L.results.residual;
      v = length L.results.v;
      rows = length L.rows;
      matrices = length L.matrices;
      terms = length L.terms;
    }

-- the answer of a call, and the lent slices after it
pub record Left : Type 0 where
  pub answer : Answer
  pub lent : Lent

-- an answer and lent slices together
abbrev pub left : Answer → Lent → Left
left a L = record { answer = a; lent = L }

-- what is given to the inner fits of an accepted call
unfoldable pub call_given : CarriedFamily → CarriedLink → Settings → Shape → Inputs → Given
call_given f l t s I =
    given_of f l I.y I.weights (design_of t.n t.p s I.theta I.offset I.x (sparse I.starts I.columns I.values))

-- the means that they begin from: those of the start asked for
abbrev pub call_means : CarriedFamily → CarriedLink → Settings → Shape → Inputs → List Float
call_means f l t s I = start_means t.start (call_given f l t s I)

-- the results after a fit: those of the last inner fit's mode; without a result those before
unfoldable pub results_after : FitResult (Dispersed Fitted) → Given → Results → Results
results_after (no_result e) G before = before
results_after (result d) G before = results_of G d.last.mode

-- after a fit: +0.0 in the named lengths of the work slices, their rest as it was
unfoldable pub fit_left : ℕ → ℕ → ℕ → Given → Total (Dispersed Fitted) → Lent → Left
fit_left n p q G t L =
    record {
      answer = answer_of t;
      lent =
          record {
            results = results_after t.outcome G L.results;
            rows = fill_to (rows_length n) zero_at L.rows;
            matrices = fill_to (matrices_length p q) zero_at L.matrices;
            terms = fill_to terms_length zero_at L.terms;
          };
    }

-- by the verdict: a refusal leaves every slice as it was lent, an accepted call is fitted
unfoldable pub call_by : Result (CarriedFamily × CarriedLink) Refusal → Settings → Shape → Inputs → Lent → Left
call_by (Err refusal) t s I L = record { answer = refused_answer refusal; lent = L }
call_by (Ok (f, l)) t s I L =
    fit_left t.n t.p t.rows (call_given f l t s I) (fit_of (call_given f l t s I) (call_means f l t s I) t.n_agq (limit_of t.limit t.link)) L

-- the call
unfoldable pub call_of : Settings → Shape → Inputs → Lent → Left
call_of t s I L = call_by (table_of 1 t s I (lengths_of L)) t s I L

-- ---- what the numbers mean

-- the numbers of a call that is accepted: 0, or one of 10 to 13
abbrev pub FitNumber : ℕ → Type 0
FitNumber n = (n ≡ 0) ⊎ ((10 ≤ n) × (n ≤ 13))

-- an answer a with the results R is that of the mode k: k is the first stop of the run at the reported phi from the starting means mu, within the limit, and iterations, deviance, order, reason and results are its own
pub record Taken (G : Given) (mu : List Float) (wish limit : ℕ) (a : Answer) (R : Results) (k : Mode) : Type 0 where
  pub first : FirstStop G a.phi (start_at G mu) k
  pub within : k.iterations ≤ limit
  pub iterations : a.iterations ≡ k.iterations
  pub deviance : a.deviance ≡ deviance_by (quadrature_of G wish k a.phi).answer k.laplace
  pub order : a.order ≡ order_by (quadrature_of G wish k a.phi).answer
  pub why : a.why ≡ why_by (quadrature_of G wish k a.phi).answer
  pub results : R ≡ results_of G k
