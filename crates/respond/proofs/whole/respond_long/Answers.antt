-- `respond::respond_long` meets its contract: the length of a job is tested before anything else of it. Assumes nothing.
use Rattle.respond.proofs.Telling.{short_long, long_response}
use Rattle.respond.proofs.whole.respond_long.Goals as goal

pub returns-then-out-lt131072 : goal.returns-then-out-lt131072
returns-then-out-lt131072 c = short_long _ c.if-out-lt131072.true

pub returns : goal.returns
returns c = long_response _ _ _ c.if-out-lt131072.false c.refused_line.ensures
