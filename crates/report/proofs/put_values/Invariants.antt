-- `report::put_values` meets its contract: the lines of the entries passed stand behind one another. Assumes nothing.
use Prim.Native.Nat.{◌*◌}
use Rattle.job.specs.Lists.{join_to}
use Rattle.report.specs.Report.{line_at, Grown}
use Rattle.report.proofs.put_values.Given as goal

abbrev pub invariant-loop-i : goal.invariant-loop-i
invariant-loop-i l = Grown (join_to l.i (line_at l.name l.xs)) (64 * l.i) l.at l.initial.out l.here l.out
