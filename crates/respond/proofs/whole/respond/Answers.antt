-- `respond::respond` meets its contract: its arrays have room for any job, and the bytes are tested first. Assumes nothing.
use Rattle.jobfit.proofs.Reading.{fresh_room}
use Rattle.respond.proofs.Telling.{short_response, room_response}
use Rattle.respond.proofs.whole.respond.Goals as goal

pub returns-then-out-lt131072 : goal.returns-then-out-lt131072
returns-then-out-lt131072 c = short_response _ _ _ c.if-out-lt131072.true

pub respond_with-requires : goal.respond_with-requires
respond_with-requires c = (c.if-out-lt131072.false, fresh_room)

pub returns : goal.returns
returns c = room_response _ _ _ _ c.if-out-lt131072.false c.respond_with.ensures
