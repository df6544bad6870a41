-- `lambda::columns_times` meets its contract: before column j each place holds what the first j columns make of it.
use mathlib.Core.Path.{◌≡◌}
use Rattle.base.specs.List.{fill_to}
use Rattle.lambda.proofs.Entries.{times_to}
use Rattle.lambda.proofs.products.columns_times.Given as goal

abbrev pub invariant-loop-j : goal.invariant-loop-j
invariant-loop-j l = l.out ≡ fill_to l.q (times_to l.shape l.theta l.u l.j) l.initial.out
