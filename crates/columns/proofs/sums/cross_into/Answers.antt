-- `columns::cross_into` meets its contract: the part is X'WX up to its diagonal, with the weights of t.
use mathlib.Core.Path.{refl}
use Rattle.base.proofs.Rows.{part_is}
use Rattle.columns.proofs.Laws.{lower_part}
use Rattle.columns.proofs.sums.cross_into.Goals as goal

pub returns : goal.returns
returns c =
    let args = c.args in
    rw (← part_is args.w args.n _ args.t.now refl)
    (lower_part args.crossed args.p _ _ args.m.now c.cross_rows.new.out refl c.requires.2 c.cross_rows.ensures)
