-- `many::fit_each` meets its contract: each turn is the call of one response more. Assumes nothing.
use mathlib.Core.Path.{◌≡◌}
use Rattle.model.specs.Inputs.{inputs_in}
use Rattle.jobcall.specs.Told.{buffers}
use Rattle.many.specs.Many.{after_to}
use Rattle.many.specs.Room.{many_fronts}
use Rattle.many.proofs.responses.fit_each.Given as goal

abbrev pub invariant-loop-i : goal.invariant-loop-i
invariant-loop-i l =
    buffers l.rows l.matrices l.terms l.results l.counts
    ≡ after_to l.header.settings l.shape (many_fronts l.header (inputs_in l.lists)) l.i
    (buffers l.initial.rows l.initial.matrices l.initial.terms l.initial.results l.initial.counts)
