-- `base::pattern` meets its contract: the definition gives a NaN the one pattern that the test returns.
use mathlib.Core.Path.{sym, ap, ◌∙◌}
use lib.Ieee.{to_bits, binary64}
use Rattle.base.proofs.Doubles.{is_nan_lem}
use Rattle.base.proofs.number.pattern.Goals as goal

pub returns-then-is_nan : goal.returns-then-is_nan
unfolding to_bits
returns-then-is_nan c = ap (to_bits binary64) (is_nan_lem c.args.x (sym c.is_nan.ensures ∙ c.if-is_nan.true))
