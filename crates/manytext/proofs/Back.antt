-- What the counts and the block of a response tell is its answer. Assumes nothing.
use mathlib.Core.Path.{◌≡◌, refl, ap, ◌∙◌}
use mathlib.Core.Bool.{Bool, true, false, cond}
use mathlib.Core.List.{List}
use Prim.Native.Nat.{ℕ}
use lib.Dec.{eqb}
use lib.Ieee.{Float}
use Rattle.model.specs.Inputs.{Inputs}
use Rattle.model.specs.declared.ends.Answer.{Answer}
use Rattle.model.specs.declared.sizes.Settings.{Settings}
use Rattle.model.specs.declared.sizes.Shape.{Shape}
use Rattle.job.specs.Lists.{laid}
use Rattle.lines.specs.Lines.{account_pairs, tail_pairs, end_pairs, end_line}
use Rattle.results.specs.Nine.{Results}
use Rattle.call.specs.Call.{Left, call_of}
use Rattle.report.specs.Report.{answer_text}
use Rattle.jobfit.specs.Done.{numbers_of, lent_for, results_by, done_of, done_for}
use Rattle.jobfit.proofs.Lengths.{results_fit}
use Rattle.jobcall.specs.Told.{counts_of}
use Rattle.output.specs.Output.{left_text}
use Rattle.respond.specs.Flat.{lists_of}
use Rattle.respond.proofs.Found.{left_text_lem}
use Rattle.manytext.specs.Text.{answer_from}

-- a flag and back
flag_back : (b : Bool) → eqb (cond b 1 0) 1 ≡ b
flag_back true = refl
flag_back false = refl

module _ (a : Answer) where
  -- the whole answer, from counts and numbers that were laid over the fronts of their parts
  pub laid_back : (R : Results) (c : List ℕ) (b : List Float) → answer_from (laid (counts_of a 0) c) (laid (numbers_of a R) b) ≡ a
  unfolding answer_from counts_of numbers_of laid
  laid_back R c b = rw (flag_back a.converged) refl

  pub answer_back : (R : Results) → answer_from (counts_of a 0) (numbers_of a R) ≡ a
  unfolding answer_from counts_of numbers_of
  answer_back R = rw (flag_back a.converged) refl

  -- under any other number than 0 deviance and phi are not printed
  pub unfitted_back : (c : List ℕ) (xs : List Float) (R : Results) → eqb a.number 0 ≡ false → answer_text (answer_from (laid (counts_of a 0) c) xs) R ≡ answer_text a R
  unfolding answer_text answer_from counts_of laid end_line end_pairs account_pairs tail_pairs
  unfitted_back c xs R e = rw (e, flag_back a.converged) refl

-- so the text of that answer is the text of the call's, with the numbers written under number 0 and under no other
left_back : (l : Left) (c : List ℕ) (before : List Float) (R : Results) → answer_text (answer_from (laid (counts_of l.answer 0) c) (results_by l before)) R ≡ answer_text l.answer R
unfolding results_by
left_back l c before R = by (eqb l.answer.number 0) refl
  where
    by : (x : Bool) → eqb l.answer.number 0 ≡ x → answer_text (answer_from (laid (counts_of l.answer 0) c) (results_by l before)) R ≡ answer_text l.answer R
    by true e = rw e (ap (λ (a : Answer). answer_text a R) (laid_back l.answer l.lent.results c before))
    by false e = unfitted_back l.answer c (results_by l before) R e

-- what is printed of a single call, from its counts and its block
pub single_text : (t : Settings) (s : Shape) (I : Inputs) (rows matrices terms block : List Float) (c : List ℕ) → let d = done_for t s I rows matrices terms block in
    answer_text (answer_from (laid (counts_of d.answer 0) c) d.results) (lists_of t.n t.p t.rows d.results) ≡ left_text (call_of t s I (lent_for t rows matrices terms block))
unfolding done_for done_of
single_text t s I rows matrices terms block c =
    let l = call_of t s I (lent_for t rows matrices terms block) in
    left_back l c block (lists_of t.n t.p t.rows (results_by l block)) ∙ left_text_lem t l block (results_by l block) (λ z. results_fit t s I _ z) refl
