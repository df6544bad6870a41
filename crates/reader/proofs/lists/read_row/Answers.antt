-- `reader::read_row` meets its contract: behind the first e stand the columns and the values passed. Assumes nothing.
use native.Mathlib.Omega.{arith}
use Rattle.base.specs.List.{build}
use Rattle.job.specs.Lists.{counts}
use Rattle.job.specs.Format.{column_read, value_read}
use Rattle.job.proofs.ListLaws.{behind_none}
use Rattle.reader.proofs.Laying.{counts_behind, build_behind}
use Rattle.reader.proofs.lists.read_row.Goals as goal

pub loop-j-init : goal.loop-j-init
unfolding counts build
loop-j-init c =
    let a = c.args in
    (behind_none a.e a.columns.now (omega arith), behind_none a.e a.values.now (omega arith))

pub loop-j-preserved : goal.loop-j-preserved
loop-j-preserved c =
    let l = c.loop-j.invariant in (
      counts_behind c.args.e (column_read c.args.s.now c.args.p) c.args.columns.now _ _ _ c.field_at.ensures.0 (omega arith) l.0,
      build_behind c.args.e (value_read c.args.s.now c.args.p) c.args.values.now _ _ _ c.double_at.ensures (omega arith) l.1,
    )
