-- `root::nearest::downwards` meets its contract: the last number whose half more is past the root is nearest to it, since the one before it is not; the loop makes at most four turns.
use Rattle.std.proofs.Common.{◌-◌}
use Rattle.root.specs.Near.{Past}
use Rattle.root.proofs.nearest.downwards.Given as goal

abbrev pub invariant-loop-k : goal.invariant-loop-k
invariant-loop-k l = Past l.s (l.q - l.k)
