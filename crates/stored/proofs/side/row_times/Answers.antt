-- `stored::row_times` meets its contract: before entry k the sum is that of the row's entries before it, and a rising row's entries are what it stores.
use mathlib.Core.Path.{◌∙◌}
use native.Mathlib.Omega.{arith}
use Rattle.base.proofs.Sums.{from_none, from_step, from_end}
use Rattle.stored.specs.Lent.{sparse_in}
use Rattle.stored.proofs.StoredRows.{zt_entries}
use Rattle.stored.proofs.side.row_times.Goals as goal

pub loop-k-init : goal.loop-k-init
loop-k-init c =
    let row = c.requires.rows.each c.args.a c.requires.a_lt_rows.0 in
    (omega arith, row.order, row, c.requires.rows.paired, from_none _ _)

pub loop-k-preserved : goal.loop-k-preserved
loop-k-preserved c =
    let inv = c.loop-k.invariant in
    (omega arith, omega arith, inv.2, inv.3, from_step _ _ _ _ inv.0 inv.4)

pub returns : goal.returns
returns c = from_end _ _ _ _ _ c.loop-k.invariant.4 (omega arith) (omega arith) ∙ zt_entries (sparse_in c.args.zt.now) _ _ _ _ c.requires.rows c.requires.a_lt_rows.0
