-- `jobcall::results_asked` meets its contract: the length where all three sizes are in range. Assumes nothing.
use Rattle.lengths.proofs.Within.{when_in_lem, when_out}
use Rattle.jobcall.proofs.asked.results_asked.Goals as goal

pub returns-then-in_range-3 : goal.returns-then-in_range-3
returns-then-in_range-3 c = when_in_lem 512 c.args.n _ c.in_range.ensures _ _ c.if-in_range.true (when_in_lem 16 c.args.p _ c.in_range-then-in_range.ensures _ _ c.if-in_range-2.true (when_in_lem 32 c.args.q _ c.in_range-then-in_range-2.ensures _ _ c.if-in_range-3.true c.results_length.ensures))

pub returns-then-in_range-2 : goal.returns-then-in_range-2
returns-then-in_range-2 c = when_in_lem 512 c.args.n _ c.in_range.ensures _ _ c.if-in_range.true (when_in_lem 16 c.args.p _ c.in_range-then-in_range.ensures _ _ c.if-in_range-2.true (when_out 32 c.args.q _ c.in_range-then-in_range-2.ensures _ c.if-in_range-3.false))

pub returns-then-in_range : goal.returns-then-in_range
returns-then-in_range c = when_in_lem 512 c.args.n _ c.in_range.ensures _ _ c.if-in_range.true (when_out 16 c.args.p _ c.in_range-then-in_range.ensures _ c.if-in_range-2.false)

pub returns : goal.returns
returns c = when_out 512 c.args.n _ c.in_range.ensures _ c.if-in_range.false
