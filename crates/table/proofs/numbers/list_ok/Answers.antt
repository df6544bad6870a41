-- `table::list_ok` meets its contract: it is the test of the list's whole length.
use Rattle.table.specs.Tests.{all_finite}
use Rattle.table.proofs.numbers.list_ok.Goals as goal

pub returns : goal.returns
unfolding all_finite
returns c = c.all_finite.ensures
