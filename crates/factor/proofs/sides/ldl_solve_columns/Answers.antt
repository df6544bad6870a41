-- `factor::ldl_solve_columns` meets its contract: it is the three passes in order.
use Rattle.std.proofs.Common.{List, Float, arith, rules}
use Rattle.factor.specs.Substitution.{over_d}
use Rattle.factor.proofs.EachColumn.{each_changed}
use Rattle.factor.proofs.ColumnsSolved.{all_solved}
use Rattle.factor.proofs.sides.ldl_solve_columns.Goals as goal

pub change_columns-requires : goal.change_columns-requires
change_columns-requires c = record { room = omega arith; may = λ a b l e. search rules }

pub returns : goal.returns
returns c =
    let divide : List Float → List Float = over_d c.args.s c.args.l.now in
    all_solved _ _ _ _ _ _ _ (omega arith) c.forward_columns.ensures
    (each_changed divide _ _ _ _ (c.change_columns.ensures (λ a. divide) (λ a b d l e h. search rules)))
    c.backward_columns.ensures
