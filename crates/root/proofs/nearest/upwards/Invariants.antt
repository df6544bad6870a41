-- `root::nearest::upwards` meets its contract: the first number whose half more is past the root is nearest to it, since the one before was not; the loop makes at most four turns.
use Rattle.std.proofs.Common.{◌+◌}
use Rattle.root.specs.Near.{Short}
use Rattle.root.proofs.nearest.upwards.Given as goal

abbrev pub invariant-loop-k : goal.invariant-loop-k
invariant-loop-k l = Short l.s (l.q + l.k)
