-- The fit of a job that has been read: what is lent to it, and what it leaves in the work buffers and in the buffer of the results. Document 01, "Numbers of an answer" and "The job and the program". Assumes nothing.
use Rattle.std.specs.Prelude.{cond, List, [], ◌∷◌, ◌++◌, ℕ, ◌+◌, ◌*◌, leb, eqb, Float, length, replicate}
use Rattle.base.specs.Number.{zero_f}
use Rattle.model.specs.declared.ends.Answer.{Answer}
use Rattle.model.specs.declared.sizes.Shape.{Shape}
use Rattle.model.specs.declared.sizes.Settings.{Settings}
use Rattle.job.specs.Lists.{laid}
use Rattle.job.specs.Job.{Job}
use Rattle.results.specs.Nine.{Results}
use Rattle.model.specs.Inputs.{Inputs, inputs}
use Rattle.call.specs.Call.{Lent, lent, Left, call_of}

-- the lists of a job as the inputs of the call, with this theta
abbrev pub inputs_at : List Float → Job → Inputs
inputs_at theta j = inputs theta j.y j.weights j.offset j.x j.z.starts j.z.columns j.z.values

-- with its own
abbrev pub inputs_of : Job → Inputs
inputs_of j = inputs_at j.theta j

-- ---- what is written

-- the numbers of a fitted call, one behind another in the order in which they are printed
unfoldable pub numbers_of : Answer → Results → List Float
numbers_of a R =
    (a.deviance ∷ a.phi ∷ []) ++ ((R.beta ++ (R.se ++ R.z)) ++ ((R.u ++ R.b) ++ ((R.mu ++ (R.eta ++ R.residual)) ++ R.v)))

-- how many they are
abbrev pub results_length : ℕ → ℕ → ℕ → ℕ
results_length n p q = 2 + 3 * p + 2 * q + 3 * n + p * p

-- ---- what is lent

-- n times +0.0
unfoldable pub zeros : ℕ → List Float
zeros n = replicate n zero_f

-- beta as long as the sizes ask; none where the buffer of the results has not so many numbers, so that the table refuses it with 2 in its order
unfoldable pub beta_length : Settings → ℕ → ℕ
beta_length t room = cond (leb (results_length t.n t.p t.rows) room) t.p 0

-- nine results of the fit's own, and the caller's work buffers
unfoldable pub lent_for : Settings → (rows matrices terms results : List Float) → Lent
lent_for t rows matrices terms results =
    lent (zeros (beta_length t (length results))) (zeros t.p) (zeros t.p) (zeros t.rows) (zeros t.rows) (zeros t.n) (zeros t.n) (zeros t.n)
    (zeros (t.p * t.p))
    rows
    matrices
    terms

-- ---- what is left

-- the answer of a call, and the work buffers and the results after it
pub record Done : Type 0 where
  pub answer : Answer
  pub rows : List Float
  pub matrices : List Float
  pub terms : List Float
  pub results : List Float

-- an answer and four buffers together
abbrev pub done : Answer → (rows matrices terms results : List Float) → Done
done a rows matrices terms results = record { answer = a; rows = rows; matrices = matrices; terms = terms; results = results }

-- the results are written under number 0 alone
unfoldable pub results_by : Left → List Float → List Float
results_by l before = cond (eqb l.answer.number 0) (laid (numbers_of l.answer l.lent.results) before) before

-- of what a call leaves, what its caller keeps
unfoldable pub done_of : Left → List Float → Done
done_of l before = done l.answer l.lent.rows l.lent.matrices l.lent.terms (results_by l before)

-- the call with results of its own
unfoldable pub done_for : Settings → Shape → Inputs → (rows matrices terms results : List Float) → Done
done_for t s I rows matrices terms results = done_of (call_of t s I (lent_for t rows matrices terms results)) results
