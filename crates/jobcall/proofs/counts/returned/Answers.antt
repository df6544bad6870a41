-- `jobcall::returned` meets its contract: each arm returns what the test picks. Assumes nothing.
use mathlib.Core.Path.{refl, sym, ◌∙◌}
use Rattle.jobcall.specs.Told.{returned_by}
use Rattle.jobcall.proofs.counts.returned.Goals as goal

pub returns-then-is_end : goal.returns-then-is_end
unfolding returned_by
returns-then-is_end c = rw (sym c.is_end.ensures ∙ c.if-is_end.true) refl

pub returns : goal.returns
unfolding returned_by
returns c = rw (sym c.is_end.ensures ∙ c.if-is_end.false) refl
