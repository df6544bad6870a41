-- `reader::read_rows` meets its contract: before each row the place, the entries so far and the three lists are the definition's. Assumes nothing.
use mathlib.Core.Path.{◌≡◌}
use Rattle.job.specs.Lists.{counts, join_to, laid}
use Rattle.job.specs.Format.{row_at, start_of}
use Rattle.job.specs.Job.{columns_of, values_of}
use Rattle.reader.proofs.lists.read_rows.Given as goal

abbrev pub invariant-loop-r : goal.invariant-loop-r
invariant-loop-r l = (l.at ≡ row_at l.s l.r) × (l.e ≡ start_of l.s l.r) × (l.starts ≡ laid (counts (start_of l.s) l.r) l.initial.starts) × (l.columns ≡ laid (join_to l.r (columns_of l.s)) l.initial.columns) × (l.values ≡ laid (join_to l.r (values_of l.s)) l.initial.values)
