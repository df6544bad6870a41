-- One answer, one content: what is printed of an answer is one list of bytes. Assumes nothing.
use mathlib.Core.Path.{◌≡◌}
use mathlib.Core.List.{List}
use Prim.Native.Nat.{ℕ}
use Rattle.model.specs.declared.ends.Answer.{Answer}
use Rattle.results.specs.Nine.{Results}
use Rattle.lines.specs.Lines.{Written}
use Rattle.lines.proofs.Unique.{line_unique}
use Rattle.report.specs.Report.{answer_text}

-- `put_answer`
pub report_unique : (answer : Answer) (R : Results) (before a b : List ℕ) (r t : ℕ) → Written (answer_text answer R) before r a → Written (answer_text answer R) before t b → (r ≡ t) × (a ≡ b)
report_unique answer R before a b r t p q = line_unique (answer_text answer R) before a b r t p q
