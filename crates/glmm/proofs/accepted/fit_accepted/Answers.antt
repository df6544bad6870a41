-- `glmm::fit_accepted` meets its contract: the results are those of the fit, and the work slices are wiped where the fit may have written.
use Rattle.rule.specs.Lent.{given_in}
use Rattle.glmm.proofs.Wiping.{call_left}
use Rattle.glmm.proofs.accepted.fit_accepted.Goals as goal

pub returns : goal.returns
returns c =
    call_left (given_in c.args.given.now) _ c.args.given.now.design.q c.requires.asked.ready.effects _ _ _ _ _ _ _ _ _ _ _ _
    c.requires.asked.lent c.fit_in-f.ensures c.write_fit.ensures c.wipe_work.ensures
