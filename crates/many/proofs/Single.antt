-- A single call with its block: it keeps every length, what the work buffers hold does not matter to it, and without a fit its block is as lent. Assumes nothing.
use Rattle.model.specs.declared.ends.Refusal.{Refusal}
use Rattle.std.specs.Prelude.{Result, Ok, Err}
use mathlib.Core.Path.{◌≡◌, refl, ◌∙◌}
use mathlib.Core.Bool.{Bool, true, false}
use mathlib.Core.List.{List, [], ◌∷◌, ◌++◌}
use Prim.Native.Nat.{ℕ, ◌+◌, ◌*◌, ◌≤◌}
use native.Mathlib.Omega.{arith}
use borrow.Author.Tests.{eqb-true, ne_eqb}
use lib.Dec.{eqb}
use lib.Ieee.{Float}
use lib.ListN.{length, length-append, length-replicate}
use Rattle.base.specs.List.{zero_at, fill_to}
use Rattle.base.proofs.Fills.{length_fill}
use Rattle.model.specs.Inputs.{Inputs}
use Rattle.model.specs.declared.ends.Answer.{Answer}
use Rattle.model.specs.declared.sizes.Shape.{Shape}
use Rattle.model.specs.declared.sizes.Settings.{Settings}
use Rattle.layout.specs.WorkRows.{rows_length}
use Rattle.layout.specs.WorkMatrices.{matrices_length}
use Rattle.layout.specs.WorkTerms.{terms_length}
use Rattle.family.specs.declared.carried.CarriedFamily.{CarriedFamily}
use Rattle.family.specs.declared.carried.CarriedLink.{CarriedLink}
use Rattle.table.specs.Table.{table_of}
use Rattle.results.specs.Nine.{Results}
use Rattle.job.proofs.ListLaws.{laid_length}
use Rattle.call.specs.Call.{Lent, Left, lengths_of, fit_left, call_by, call_of}
use Rattle.call.proofs.Leaves.{accepted_work}
use Rattle.jobfit.specs.Done.{numbers_of, results_length, zeros, beta_length, lent_for, Done, results_by, done_of, done_for}
use Rattle.jobfit.proofs.Lent.{some_lent, fitted_beta}
use Rattle.jobfit.proofs.Lengths.{ResultsFit, results_fit}
use Rattle.jobcall.specs.Told.{counts_length, counts_of}

pub zeros_length : (n : ℕ) → length (zeros n) ≡ n
unfolding zeros
zeros_length n = length-replicate n _

pub counts_length_lem : (a : Answer) (byte : ℕ) → length (counts_of a byte) ≡ counts_length
unfolding counts_of
counts_length_lem a byte = refl

-- ---- how many numbers a fitted call writes
pub numbers_length_lem : (n p q : ℕ) (a : Answer) (R : Results) → ResultsFit n p q R → length (numbers_of a R) ≡ results_length n p q
unfolding numbers_of
numbers_length_lem n p q a R f =
    let three : length (R.beta ++ (R.se ++ R.z)) ≡ 3 * p = length-append R.beta (R.se ++ R.z) ∙ rw (length-append R.se R.z, f.beta, f.se, f.z) (omega arith) in
    let two : length (R.u ++ R.b) ≡ 2 * q = length-append R.u R.b ∙ rw (f.u, f.b) (omega arith) in
    let means : length (R.mu ++ (R.eta ++ R.residual)) ≡ 3 * n = length-append R.mu (R.eta ++ R.residual) ∙ rw (length-append R.eta R.residual, f.mu, f.eta, f.residual) (omega arith) in
    let last : length ((R.mu ++ (R.eta ++ R.residual)) ++ R.v) ≡ 3 * n + p * p = length-append (R.mu ++ (R.eta ++ R.residual)) R.v ∙ rw (means, f.v) refl in
    let effects : length ((R.u ++ R.b) ++ ((R.mu ++ (R.eta ++ R.residual)) ++ R.v)) ≡ 2 * q + (3 * n + p * p) = length-append (R.u ++ R.b) ((R.mu ++ (R.eta ++ R.residual)) ++ R.v) ∙ rw (two, last) refl in
    let lists : length ((R.beta ++ (R.se ++ R.z)) ++ ((R.u ++ R.b) ++ ((R.mu ++ (R.eta ++ R.residual)) ++ R.v))) ≡ 3 * p + (2 * q + (3 * n + p * p)) = length-append (R.beta ++ (R.se ++ R.z)) ((R.u ++ R.b) ++ ((R.mu ++ (R.eta ++ R.residual)) ++ R.v)) ∙ rw (three, effects) refl in
    length-append (a.deviance ∷ a.phi ∷ []) ((R.beta ++ (R.se ++ R.z)) ++ ((R.u ++ R.b) ++ ((R.mu ++ (R.eta ++ R.residual)) ++ R.v))) ∙ rw lists (omega arith)

module _ (t : Settings) (s : Shape) (I : Inputs) (rows matrices terms results : List Float) where
  abbrev lent_of : Lent
  lent_of = lent_for t rows matrices terms results

  abbrev left : Left
  left = call_of t s I lent_of

  abbrev done_one : Done
  done_one = done_for t s I rows matrices terms results

  -- ---- the results keep their length
  -- under number 0 there is room for all that is written
  written_few : left.answer.number ≡ 0 → length (numbers_of left.answer left.lent.results) ≤ length results
  unfolding lent_for
  written_few z =
      let some : 1 ≤ beta_length t (length results) = rw (zeros_length (beta_length t (length results))) at (fitted_beta t s I lent_of z) in
      omega (arith, numbers_length_lem t.n t.p t.rows left.answer left.lent.results (results_fit t s I lent_of z), (some_lent t (length results) some).1)

  pub done_length : length done_one.results ≡ length results
  unfolding done_for done_of results_by
  done_length = by (eqb left.answer.number 0) refl
    where
      by : (b : Bool) → eqb left.answer.number 0 ≡ b → length done_one.results ≡ length results
      by true e = rw e (laid_length (numbers_of left.answer left.lent.results) results (written_few (eqb-true _ _ e)))
      by false e = rw e refl

  -- ---- without a fit the block is as lent
  pub done_unfitted : (done_one.answer.number ≡ 0 → ⊥) → done_one.results ≡ results
  unfolding done_for done_of results_by
  done_unfitted h = rw (ne_eqb left.answer.number 0 h) refl

  -- ---- the work buffers: wiped by an accepted call
  module _ (f : CarriedFamily) (l : CarriedLink) (e : table_of 1 t s I (lengths_of lent_of) ≡ Ok (f, l)) where
    pub done_rows : done_one.rows ≡ fill_to (rows_length t.n) zero_at rows
    unfolding done_for done_of lent_for
    done_rows = (accepted_work t s I lent_of f l e).rows

    pub done_matrices : done_one.matrices ≡ fill_to (matrices_length t.p t.rows) zero_at matrices
    unfolding done_for done_of lent_for
    done_matrices = (accepted_work t s I lent_of f l e).matrices

    pub done_terms : done_one.terms ≡ fill_to terms_length zero_at terms
    unfolding done_for done_of lent_for
    done_terms = (accepted_work t s I lent_of f l e).terms

  -- they keep their lengths in any case
  pub record WorkLengths (d : Done) : Type 0 where
    pub rows' : length d.rows ≡ length rows
    pub matrices' : length d.matrices ≡ length matrices
    pub terms' : length d.terms ≡ length terms

  by_lengths : (v : Result (CarriedFamily × CarriedLink) Refusal) → WorkLengths (done_of (call_by v t s I lent_of) results)
  unfolding done_of call_by fit_left lent_for
  by_lengths (Err x) = record { rows' = refl; matrices' = refl; terms' = refl }
  by_lengths (Ok (f, l)) = record { rows' = length_fill _ _ rows; matrices' = length_fill _ _ matrices; terms' = length_fill _ _ terms }

  pub work_lengths : WorkLengths done_one
  unfolding done_for call_of
  work_lengths = by_lengths (table_of 1 t s I (lengths_of lent_of))

-- ---- what the work buffers hold does not matter
module _ (t : Settings) (s : Shape) (I : Inputs) (rows matrices terms rows' matrices' terms' results : List Float) where
  by_free : (v : Result (CarriedFamily × CarriedLink) Refusal) → let a = done_of (call_by v t s I (lent_for t rows matrices terms results)) results in let b = done_of (call_by v t s I (lent_for t rows' matrices' terms' results)) results in (b.answer ≡ a.answer) × (b.results ≡ a.results)
  unfolding done_of call_by fit_left results_by lent_for
  by_free (Err x) = (refl, refl)
  by_free (Ok (f, l)) = (refl, refl)

  module _ (e : length rows' ≡ length rows) (m : length matrices' ≡ length matrices) (k : length terms' ≡ length terms) where
    same_lengths : lengths_of (lent_for t rows' matrices' terms' results) ≡ lengths_of (lent_for t rows matrices terms results)
    unfolding lengths_of lent_for
    same_lengths = rw (e, m, k) refl

    pub done_work_free : let a = done_for t s I rows matrices terms results in let b = done_for t s I rows' matrices' terms' results in (b.answer ≡ a.answer) × (b.results ≡ a.results)
    unfolding done_for call_of
    done_work_free = rw same_lengths (by_free (table_of 1 t s I (lengths_of (lent_for t rows matrices terms results))))
