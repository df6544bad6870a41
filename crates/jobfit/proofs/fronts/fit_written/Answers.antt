-- `jobfit::fit_written` meets its contract: under number 0 the results were lent with room, and are written; under any other nothing is. Assumes nothing.
use Rattle.jobfit.proofs.Lent.{room_kept, unfitted_done, fitted_done}
use Rattle.jobfit.proofs.fronts.fit_written.Goals as goal

pub returns-then-answer-ne0 : goal.returns-then-answer-ne0
returns-then-answer-ne0 c = unfitted_done _ _ _ _ c.fit-answer.ensures c.if-answer-ne0.true

pub put_numbers-requires : goal.put_numbers-requires
put_numbers-requires c =
    room_kept _ _ _ _ _ _ c.args.results.now c.fit-answer.ensures c.if-answer-ne0.false c.requires c.fit-answer.auto.beta
    c.fit-answer.auto.se c.fit-answer.auto.z
    c.fit-answer.auto.u c.fit-answer.auto.b
    c.fit-answer.auto.mu c.fit-answer.auto.eta
    c.fit-answer.auto.residual c.fit-answer.auto.v

pub returns : goal.returns
returns c = fitted_done _ _ _ _ c.fit-answer.ensures _ c.if-answer-ne0.false c.put_numbers.ensures
