-- `tabulated::logtable::log_row` meets its contract: the rows are those of the table, one after another.
use mathlib.Core.Path.{◌≡◌, ap}
use mathlib.Core.List.{map}
use Prim.Native.Nat.{ℕ, ◌+◌, ◌*◌, ◌<◌}
use native.Mathlib.Omega.{arith}
use lib.ListN.{get_or}
use lib.Ieee.{Float, nan}
use Rattle.std.specs.List.{range_with_len}
use Rattle.std.proofs.lemmas.List.FromFn.{get_or-map-range_with_len}
use Rattle.base.specs.Sum.{◌!◌}
use Rattle.tabulated.specs.LogTable.{log_table, log_row}
use Rattle.tabulated.specs.declared.logtable.LogRow.{LogRow}
use Rattle.tabulated.proofs.logtable.log_row.Goals as goal

abbrev four : ℕ → Float × Float × Float × Float
four i = (log_table ! (4 * i), log_table ! (4 * i + 1), log_table ! (4 * i + 2), log_table ! (4 * i + 3))

abbrev as_row : Float × Float × Float × Float → LogRow
as_row q = record { inverse = q.0; log = q.1; centre = q.2; rest = q.3 }

row : (i : ℕ) → i < 128 → as_row (get_or (map four (range_with_len 0 128)) i (nan, nan, nan, nan)) ≡ log_row i
unfolding log_row
row i h = ap as_row (get_or-map-range_with_len four 0 128 i i (nan, nan, nan, nan) h (omega arith))

pub returns : goal.returns
unfolding log_table
returns c = row c.args.i c.requires
