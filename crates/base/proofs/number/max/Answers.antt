-- `base::max` meets its contract: the two tests are the two sides of the definition's `or`.
use mathlib.Core.Path.{sym, ◌∙◌}
use Rattle.base.specs.Number.{max_f}
use Rattle.base.proofs.Doubles.{ff}
use Rattle.base.proofs.number.max.Goals as goal
use Rattle.base.proofs.number.max.Goals.{then-b-a, else-b-a}

pub returns-then-is_nan : goal.returns-then-is_nan
unfolding max_f
returns-then-is_nan c = elim c.if-b-a.branch [ then-b-a w ↦ rw w.if-b-a.true | else-b-a w ↦ rw (w.if-b-a.false, sym w.is_nan.ensures ∙ sym w.value-is ∙ c.if-is_nan.true) ]

pub returns-else-is_nan : goal.returns-else-is_nan
unfolding max_f
returns-else-is_nan c = elim c.if-b-a.branch [ then-b-a w ↦ absurd (ff (sym c.if-is_nan.false ∙ w.value-is ∙ w.if-b-a.true)) | else-b-a w ↦ rw (w.if-b-a.false, sym w.is_nan.ensures ∙ sym w.value-is ∙ c.if-is_nan.false) ]
