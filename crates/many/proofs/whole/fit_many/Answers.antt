-- `many::fit_many` meets its contract: its arrays have room for any job, and the counts are tested first. Assumes nothing.
use Rattle.jobfit.proofs.Reading.{fresh_room}
use Rattle.many.proofs.Telling.{short_told, long_told}
use Rattle.many.proofs.whole.fit_many.Goals as goal

pub returns-then-counts-lt14 : goal.returns-then-counts-lt14
returns-then-counts-lt14 c = short_told _ _ _ _ c.if-counts-lt14.true

pub read_many-requires : goal.read_many-requires
read_many-requires c = (c.if-counts-lt14.false, fresh_room)

pub returns : goal.returns
returns c = long_told _ _ _ _ _ c.if-counts-lt14.false c.read_many.ensures
