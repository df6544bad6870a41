-- `points::lambda_within` meets its contract: before column j each place of the row at b holds what the first j columns make of it, and u is as it was lent.
use mathlib.Core.Path.{◌≡◌}
use Prim.Native.Nat.{◌+◌, ◌≤◌}
use lib.ListN.{length}
use Rattle.base.specs.List.{fill_to}
use Rattle.base.specs.Rows.{row, Only}
use Rattle.lambda.proofs.Entries.{times_to}
use Rattle.points.proofs.trials.lambda_within.Given as goal

abbrev pub invariant-loop-j : goal.invariant-loop-j
invariant-loop-j l = (length l.m ≡ length l.initial.m) × (Only l.b l.q l.initial.m l.m) × (row l.b l.q l.m ≡ fill_to l.q (times_to l.shape l.theta (row l.u l.q l.initial.m) l.j) (row l.b l.q l.initial.m)) × (l.b + l.q ≤ length l.initial.m) × (l.u + l.q ≤ length l.initial.m)
