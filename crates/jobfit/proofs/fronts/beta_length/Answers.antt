-- `jobfit::beta_length` meets its contract: each arm returns what the test picks. Assumes nothing.
use Rattle.jobfit.proofs.Lent.{beta_lent, beta_none}
use Rattle.jobfit.proofs.fronts.beta_length.Goals as goal

pub returns-then-asked-room : goal.returns-then-asked-room
returns-then-asked-room c = let s = c.args in beta_lent s.settings s.room _ c.results_length-asked.ensures c.if-asked-room.true

pub returns : goal.returns
returns c = let s = c.args in beta_none s.settings s.room _ c.results_length-asked.ensures c.if-asked-room.false
