-- `model::Account::plus` meets its contract: each count is the sum of two, and the caller has shown that it fits.
use mathlib.Core.Path.{refl}
use Rattle.model.specs.Account.{◌⊞◌}
use Rattle.model.proofs.counts.Account.plus.Goals as goal

pub returns : goal.returns
unfolding ◌⊞◌
returns c = refl
