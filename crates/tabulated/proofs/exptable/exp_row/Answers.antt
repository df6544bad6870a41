-- `tabulated::exptable::exp_row` meets its contract: the rows are those of the table, one after another.
use mathlib.Core.Path.{◌≡◌, ap}
use mathlib.Core.List.{map}
use Prim.Native.Nat.{ℕ, ◌+◌, ◌*◌, ◌<◌}
use native.Mathlib.Omega.{arith}
use lib.ListN.{get_or}
use Rattle.std.specs.List.{range_with_len}
use Rattle.std.proofs.lemmas.List.FromFn.{get_or-map-range_with_len}
use Rattle.base.specs.Sum.{◌!!◌}
use Rattle.tabulated.specs.ExpTable.{exp_table, exp_row}
use Rattle.tabulated.specs.declared.exptable.ExpRow.{ExpRow}
use Rattle.tabulated.proofs.exptable.exp_row.Goals as goal

abbrev pair : ℕ → ℕ × ℕ
pair i = (exp_table !! (2 * i), exp_table !! (2 * i + 1))

abbrev as_row : ℕ × ℕ → ExpRow
as_row p = record { tail = p.0; scale = p.1 }

row : (i : ℕ) → i < 128 → as_row (get_or (map pair (range_with_len 0 128)) i (0, 0)) ≡ exp_row i
unfolding exp_row
row i h = ap as_row (get_or-map-range_with_len pair 0 128 i i (0, 0) h (omega arith))

pub returns : goal.returns
unfolding exp_table
returns c = row c.args.i c.requires
