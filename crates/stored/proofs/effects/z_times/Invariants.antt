-- `stored::z_times` meets its contract: before row a each place holds the sum over the rows before it.
use mathlib.Core.Path.{◌≡◌}
use lib.ListN.{length}
use Rattle.base.specs.List.{fill_to}
use Rattle.stored.specs.Stored.{z_times_at}
use Rattle.stored.specs.Lent.{sparse_in}
use Rattle.stored.proofs.effects.z_times.Given as goal

abbrev pub invariant-loop-a : goal.invariant-loop-a
invariant-loop-a l = l.out ≡ fill_to l.n (z_times_at (sparse_in l.zt) l.a l.b) l.initial.out
