-- `tries::means` meets its contract: before turn i the first i means are written, and the predictor is as it was.
use lib.ListN.{length-set}
use Rattle.base.proofs.Rows.{fillat_wrote}
use Rattle.tries.proofs.Turns.{mean_step}
use native.Mathlib.Omega.{arith}
use Rattle.base.proofs.Loops.{loops}
use borrow.Author.Rules.{rules}
use Rattle.tries.proofs.passes.means.Goals as goal

pub loop-i-init : goal.loop-i-init
loop-i-init c = search (rules, loops)

pub loop-i-preserved : goal.loop-i-preserved
loop-i-preserved c = (simp length-set (omega arith), mean_step _ _ _ _ _ _ _ _ c.requires.0 c.requires.2 c.loop-i-test.true c.loop-i.invariant.1 c.link_inv.ensures)

pub returns : goal.returns
returns c = fillat_wrote _ _ _ _ _ _ c.loop-i.invariant.1 (omega arith) (omega arith) (omega arith)
