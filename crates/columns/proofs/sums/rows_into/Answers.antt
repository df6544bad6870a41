-- `columns::rows_into` meets its contract: the part is filled by rows, with the weights of t.
use mathlib.Core.Path.{refl}
use Rattle.base.proofs.Rows.{part_is}
use Rattle.columns.proofs.Laws.{matrix_part}
use Rattle.columns.proofs.sums.rows_into.Goals as goal

pub returns : goal.returns
returns c =
    let args = c.args in
    rw (← part_is args.w args.n _ args.t.now refl)
    (matrix_part args.solved args.q args.p _ _ args.m.now c.weighted_rows.new.out refl c.requires.p_in_bounds.2
    c.weighted_rows.auto.out c.weighted_rows.ensures)
