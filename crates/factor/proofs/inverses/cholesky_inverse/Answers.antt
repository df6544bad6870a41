-- `factor::cholesky_inverse` meets its contract: each column of the unit matrix is solved.
use Rattle.std.proofs.Common.{arith, rules}
use Rattle.factor.specs.Inverse.{cholesky_column, cholesky_column_at}
use Rattle.factor.specs.Sides.{changed_at}
use Rattle.factor.proofs.inverses.cholesky_inverse.Goals as goal

pub change_columns-requires : goal.change_columns-requires
change_columns-requires c = record { room = omega arith; may = λ a b l e. search rules }

pub returns : goal.returns
unfolding cholesky_column_at changed_at
returns c = c.change_columns.ensures (λ a b. cholesky_column c.args.s c.args.l.now a) (λ a b d l e h. search rules)
