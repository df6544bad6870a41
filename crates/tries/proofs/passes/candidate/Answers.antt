-- `tries::candidate` meets its contract: before turn i the first i entries of the row are written, and the rows it reads are as they were.
use lib.ListN.{length-set}
use Rattle.base.proofs.Rows.{fillat_wrote}
use Rattle.tries.proofs.Turns.{candidate_step}
use native.Mathlib.Omega.{arith}
use Rattle.base.proofs.Loops.{loops}
use borrow.Author.Rules.{rules}
use Rattle.tries.proofs.passes.candidate.Goals as goal

pub loop-i-init : goal.loop-i-init
loop-i-init c = search (rules, loops)

pub loop-i-preserved : goal.loop-i-preserved
loop-i-preserved c = (
  simp length-set (omega arith),
  candidate_step _ _ _ _ _ _ _ _ c.requires.0 c.requires.2 c.requires.3 c.requires.4 c.loop-i-test.true
      c.loop-i.invariant.1,
)

pub returns : goal.returns
returns c = fillat_wrote _ _ _ _ _ _ c.loop-i.invariant.1 (omega arith) (omega arith) (omega arith)
