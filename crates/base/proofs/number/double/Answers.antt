-- `base::double` meets its contract: a pattern past an infinity's is a NaN's, and every other is read as it stands.
use mathlib.Core.Path.{◌∙◌}
use Rattle.base.proofs.Doubles.{no_quotient, nan_pattern, no_nan_pattern}
use Rattle.base.proofs.number.double.Goals as goal

pub returns-then-n-gt9218868437227405312 : goal.returns-then-n-gt9218868437227405312
returns-then-n-gt9218868437227405312 c = no_quotient ∙ nan_pattern c.args.n c.if-n-gt9218868437227405312.true

pub float_from_bits-result : goal.float_from_bits-result
float_from_bits-result c = rw (no_nan_pattern c.args.n c.if-n-gt9218868437227405312.false) tt
