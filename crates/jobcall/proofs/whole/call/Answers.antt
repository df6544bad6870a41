-- `jobcall::call` meets its contract: its arrays have room for any job, and the counts are tested first. Assumes nothing.
use Rattle.jobfit.proofs.Reading.{fresh_room}
use Rattle.jobcall.proofs.Telling.{short_told, long_told}
use Rattle.jobcall.proofs.whole.call.Goals as goal

pub returns-then-counts-lt14 : goal.returns-then-counts-lt14
returns-then-counts-lt14 c = short_told _ _ c.if-counts-lt14.true

pub call_read-requires : goal.call_read-requires
call_read-requires c = (c.if-counts-lt14.false, fresh_room)

pub returns : goal.returns
returns c = long_told _ _ _ c.if-counts-lt14.false c.call_read.ensures
