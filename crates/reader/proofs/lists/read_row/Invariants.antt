-- `reader::read_row` meets its contract: behind the first e stand the columns and the values passed. Assumes nothing.
use mathlib.Core.Path.{◌≡◌}
use mathlib.Core.List.{◌++◌}
use lib.ListN.{take}
use Rattle.base.specs.List.{build}
use Rattle.job.specs.Lists.{counts, laid}
use Rattle.job.specs.Format.{column_read, value_read}
use Rattle.reader.proofs.lists.read_row.Given as goal

abbrev pub invariant-loop-j : goal.invariant-loop-j
invariant-loop-j l = (l.columns ≡ laid (take l.e l.initial.columns ++ counts (column_read l.s l.p) l.j) l.initial.columns) × (l.values ≡ laid (take l.e l.initial.values ++ build (value_read l.s l.p) l.j) l.initial.values)
