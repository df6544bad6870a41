-- `stages::holder` meets its contract: each branch gives the front of the row that the flag names.
use Rattle.stages.proofs.HeldRows.{held_first, held_second}
use Rattle.stages.proofs.holders.holder.Goals as goal

pub returns-then-in_second : goal.returns-then-in_second
returns-then-in_second c = rw c.if-in_second.true (held_second c.args.n c.args.first.now c.args.second.now c.requires.1)

pub returns : goal.returns
returns c = rw c.if-in_second.false (held_first c.args.n c.args.first.now c.args.second.now c.requires.0)
