-- `stored::zt_times` meets its contract: before row a the first a places hold the rows' sums.
use mathlib.Core.Path.{◌≡◌}
use lib.ListN.{length}
use Rattle.base.specs.List.{fill_to}
use Rattle.stored.specs.Stored.{zt_times_at}
use Rattle.stored.specs.Lent.{sparse_in}
use Rattle.stored.proofs.side.zt_times.Given as goal

abbrev pub invariant-loop-a : goal.invariant-loop-a
invariant-loop-a l = l.out ≡ fill_to l.a (zt_times_at (sparse_in l.zt) l.n l.v) l.initial.out
