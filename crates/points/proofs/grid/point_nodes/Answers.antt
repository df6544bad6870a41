-- `points::point_nodes` meets its contract: before turn j the first j digits are taken off and the first j places written.
use native.Mathlib.Omega.{arith}
use lib.ListN.{length-set}
use Rattle.base.proofs.Fills.{fillat_none}
use Rattle.base.proofs.Rows.{fillat_wrote}
use Rattle.points.proofs.Digits.{rest_all, rest_step, node_step}
use Rattle.points.proofs.grid.point_nodes.Goals as goal

pub loop-j-init : goal.loop-j-init
loop-j-init c = (omega arith, rest_all _ _, fillat_none _ _ _)

pub loop-j-preserved : goal.loop-j-preserved
loop-j-preserved c =
    let a = c.args in
    let l = c.loop-j in
    (simp length-set (omega arith), rest_step a.size a.point l.j l.rest l.invariant.1, node_step a.nodes.now a.size a.point l.j l.rest a.z a.m.now l.m l.invariant.1 l.invariant.2)

pub returns : goal.returns
returns c = fillat_wrote _ _ _ _ _ _ c.loop-j.invariant.2 (omega arith) (omega arith) (omega arith)
