-- `scale::copy_row` meets its contract: before turn j the first j places are copied, and what they are read from lies before them.
use lib.ListN.{length-set}
use native.Mathlib.Omega.{arith}
use Rattle.scale.proofs.SectionCopied.{copy_step}
use Rattle.base.proofs.Loops.{loops}
use borrow.Author.Rules.{rules}
use Rattle.scale.proofs.sections.copy_row.Goals as goal

pub loop-j-init : goal.loop-j-init
loop-j-init c = search (rules, loops)

pub loop-j-preserved : goal.loop-j-preserved
loop-j-preserved c = (simp length-set (omega arith), copy_step _ _ c.args.n _ c.args.m.now _ c.requires.0 (omega arith) c.loop-j.invariant.1)
