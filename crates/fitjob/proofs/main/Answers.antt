-- `fitjob::main` is safe: what was read is within the space, and what is printed within the bytes. Assumes nothing.
use native.Mathlib.Omega.{arith}
use Rattle.fitjob.proofs.Reading.{printed_within}
use Rattle.fitjob.proofs.main.Goals as goal

pub slice_bounds-put-end : goal.slice_bounds-put-end
slice_bounds-put-end c = omega (arith, printed_within _ _ _ _ _ _ _ c.answer-n.ensures)
