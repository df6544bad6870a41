-- `respond::put_flat` meets its contract: the parts are the lists that stand there. Assumes nothing.
use Rattle.respond.proofs.Found.{flat_written}
use Rattle.respond.proofs.flat.put_flat.Goals as goal

pub returns : goal.returns
returns c =
    flat_written c.args.settings.n c.args.settings.p c.args.settings.rows c.args.results.now _ _ _ _
    c.put_answer.ensures
