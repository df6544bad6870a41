-- `factor::each::change_columns` meets its contract: before turn a the first a columns are changed.
use Rattle.std.proofs.Common.{refl, arith, rules}
use Rattle.base.proofs.Loops.{loops}
use Rattle.factor.proofs.EachColumn.{changed_part}
use Rattle.factor.proofs.each.change_columns.Goals as goal

pub loop-a-init : goal.loop-a-init
loop-a-init g c h made = search (rules, loops)

pub loop-a-preserved : goal.loop-a-preserved
loop-a-preserved g c h made =
    changed_part h _ _ _ _ _ _ _ (c.loop-a.invariant h made) c.offset-o.ensures.0 refl (omega arith) c.change.auto.arg3 (made _ _ _ (omega arith) (search rules) c.change.ensures)
