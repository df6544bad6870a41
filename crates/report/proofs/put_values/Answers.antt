-- `report::put_values` meets its contract: the lines of the entries passed stand behind one another. Assumes nothing.
use native.Mathlib.Omega.{arith}
use Rattle.report.proofs.Growing.{lines_none, lines_more, lines_done}
use Rattle.report.proofs.put_values.Goals as goal

pub loop-i-init : goal.loop-i-init
loop-i-init c = let a = c.args in lines_none a.name.now a.xs.now a.at a.out.now (omega arith)

pub loop-i-preserved : goal.loop-i-preserved
loop-i-preserved c =
    let a = c.args in
    lines_more a.name.now a.xs.now c.loop-i.i a.at _ _ a.out.now _ _ c.loop-i.invariant c.put_value-here.ensures (omega arith)

pub returns : goal.returns
returns c = let a = c.args in lines_done a.name.now a.xs.now c.loop-i.i a.at _ a.out.now _ c.loop-i.invariant (omega arith)
