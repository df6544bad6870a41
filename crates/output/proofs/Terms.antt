-- What is printed does not depend on what the lent terms hold, but for their length. Document 01: the 7,000 log terms are lent by the program. Assumes nothing.
use Rattle.family.specs.declared.carried.CarriedFamily.{CarriedFamily}
use Rattle.family.specs.declared.carried.CarriedLink.{CarriedLink}
use Rattle.model.specs.declared.ends.Refusal.{Refusal}
use Rattle.std.specs.Prelude.{Result, Ok, Err}
use mathlib.Core.Path.{◌≡◌, refl}
use mathlib.Core.List.{List}
use Prim.Native.Nat.{ℕ, ◌≤◌}
use native.Mathlib.Omega.{arith}
use borrow.Author.Tests.{le-leb}
use lib.Ieee.{Float}
use lib.ListN.{length, length-replicate}
use Rattle.base.specs.Number.{zero_f}
use Rattle.model.specs.declared.sizes.Shape.{Shape}
use Rattle.model.specs.declared.sizes.Settings.{Settings}
use Rattle.model.specs.Inputs.{Inputs}
use Rattle.table.specs.Tests.{good_results, good_work}
use Rattle.table.specs.Table.{table_of}
use Rattle.job.specs.Job.{Read, faulty, sound, read_of}
use Rattle.lines.specs.Lines.{Written}
use Rattle.call.specs.Call.{Lent, Left, lengths_of, fit_left, call_by, call_of}
use Rattle.report.specs.Report.{out_room}
use Rattle.jobfit.specs.Done.{zeros}
use Rattle.output.specs.Output.{slices_for, left_text, output_by, output_of, response_by, respond_of}

-- lent slices with other terms
abbrev with_terms : List Float → Lent → Lent
with_terms terms L = record { results = L.results; rows = L.rows; matrices = L.matrices; terms = terms }

-- two calls tell the same: one answer, and the same nine results
pub record SameTold (a b : Left) : Type 0 where
  pub answer : a.answer ≡ b.answer
  pub results : a.lent.results ≡ b.lent.results

-- what a verdict leads to does not name the terms
by_verdict : (v : Result (CarriedFamily × CarriedLink) Refusal) (t : Settings) (s : Shape) (I : Inputs) (L : Lent) (terms : List Float) → SameTold (call_by v t s I (with_terms terms L)) (call_by v t s I L)
unfolding call_by fit_left
by_verdict (Err r) t s I L terms = record { answer = refl; results = refl }
by_verdict (Ok (f, l)) t s I L terms = record { answer = refl; results = refl }

-- the table looks at their length alone
module _ (t : Settings) (s : Shape) (I : Inputs) (L : Lent) (terms : List Float) (before : 7000 ≤ length L.terms) (now : 7000 ≤ length terms) where
  same_work : good_work t (lengths_of (with_terms terms L)) ≡ good_work t (lengths_of L)
  unfolding good_work lengths_of
  same_work = rw (le-leb 7000 (length L.terms) before, le-leb 7000 (length terms) now) refl

  same_results : good_results 1 t (lengths_of (with_terms terms L)) ≡ good_results 1 t (lengths_of L)
  unfolding good_results lengths_of
  same_results = refl

  same_verdict : table_of 1 t s I (lengths_of (with_terms terms L)) ≡ table_of 1 t s I (lengths_of L)
  unfolding table_of
  same_verdict = rw (same_work, same_results) refl

  -- a call with other terms of at least 7,000 numbers has the same answer and results
  pub same_call : SameTold (call_of t s I (with_terms terms L)) (call_of t s I L)
  unfolding call_of
  same_call = rw same_verdict (by_verdict (table_of 1 t s I (lengths_of L)) t s I L terms)

  -- so the same is printed of it
  pub same_text : left_text (call_of t s I (with_terms terms L)) ≡ left_text (call_of t s I L)
  same_text = rw (same_call.answer, same_call.results) refl

-- ---- what stands in the lent bytes is the output
zeros_are : 7000 ≤ length (zeros 7000)
unfolding zeros
zeros_are = rw (length-replicate 7000 zero_f) (omega arith)

module _ (job : List ℕ) (terms : List Float) (out : List ℕ) (many : 7000 ≤ length terms) where
  read_prints : (r : Read) → Written (output_by r) out (response_by r terms out).told (response_by r terms out).out
  unfolding output_by response_by slices_for
  read_prints (faulty r b) = (refl, refl)
  read_prints (sound j) = rw (← (same_text j.settings j.shape _ (slices_for j.settings) terms zeros_are many)) (refl, refl)

  pub respond_prints : out_room ≤ length out → Written (output_of job) out (respond_of job terms out).told (respond_of job terms out).out
  unfolding output_of respond_of
  respond_prints room = rw (le-leb out_room (length out) room) (read_prints (read_of job))
