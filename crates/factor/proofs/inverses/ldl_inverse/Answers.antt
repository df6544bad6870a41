-- `factor::ldl_inverse` meets its contract: each column of the unit matrix is solved, as a row, and they are turned over.
use Rattle.std.proofs.Common.{refl, arith, rules}
use Rattle.factor.specs.Inverse.{ldl_column, ldl_inverse_at, ldl_column_at}
use Rattle.factor.specs.Sides.{changed_at}
use Rattle.factor.proofs.Transposed.{turned_grid}
use Rattle.factor.proofs.inverses.ldl_inverse.Goals as goal

pub change_columns-requires : goal.change_columns-requires
change_columns-requires c = record { room = omega arith; may = λ a b l e. search rules }

pub returns : goal.returns
unfolding ldl_column_at ldl_inverse_at changed_at
returns c =
    turned_grid _ (ldl_column_at _ _) (ldl_inverse_at _ _) _ _ _ (omega arith) (λ i j. refl)
    (c.change_columns.ensures (λ a b. ldl_column c.args.s c.args.l.now a) (λ a b d l e h. search rules))
    c.transpose.ensures
