-- `base::is_nan` meets its contract: only a NaN differs from itself.
use Rattle.base.proofs.Doubles.{differs}
use Rattle.base.proofs.number.is_nan.Goals as goal

pub returns : goal.returns
returns c = differs c.args.x
