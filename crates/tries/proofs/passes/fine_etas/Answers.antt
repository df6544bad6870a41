-- `tries::fine_etas` meets its contract: before turn i the first i etas passed, and one that fails settles it.
use Rattle.base.proofs.Sums.{all_fails, all_step}
use Rattle.tries.proofs.Turns.{fine_at}
use Rattle.base.proofs.Loops.{loops}
use borrow.Author.Rules.{rules}
use Rattle.tries.proofs.passes.fine_etas.Goals as goal

pub loop-i-init : goal.loop-i-init
loop-i-init c = search (rules, loops)

pub returns-then-not-fine_eta : goal.returns-then-not-fine_eta
returns-then-not-fine_eta c =
    all_fails _ _ _ c.loop-i-test.true
    (fine_at _ _ _ _ _ _ _ c.requires c.loop-i-test.true c.fine_eta.ensures c.if-not-fine_eta.true)

pub loop-i-preserved : goal.loop-i-preserved
loop-i-preserved c =
    all_step _ _ c.loop-i.invariant (fine_at _ _ _ _ _ _ _ c.requires c.loop-i-test.true c.fine_eta.ensures c.if-not-fine_eta.false)
