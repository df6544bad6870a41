-- `fitjob::answer` meets its contract: each input has its own answer. Assumes nothing.
use Rattle.fitjob.proofs.Reading.{failed_printed, long_printed, held_printed}
use Rattle.fitjob.proofs.answer.Goals as goal

pub returns-in-Err-Failed : goal.returns-in-Err-Failed
returns-in-Err-Failed c = failed_printed _ _ _ _ _ c.in-Err-Failed.is (rw c.in-Err-Failed.is at c.in-Err-Failed.field-0-is)

pub returns-in-Err-TooLong : goal.returns-in-Err-TooLong
returns-in-Err-TooLong c = long_printed _ _ _ _ _ _ _ c.in-Err-TooLong.is (rw c.in-Err-TooLong.is at c.in-Err-TooLong.field-0-is) c.respond_long.ensures

pub returns-in-Ok : goal.returns-in-Ok
returns-in-Ok c = held_printed _ _ _ _ _ _ _ _ c.in-Ok.is c.respond.ensures
