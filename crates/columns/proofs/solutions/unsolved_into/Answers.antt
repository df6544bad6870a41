-- `columns::unsolved_into` meets its contract: the part is filled with the columns, Z'(x_a·w) for each a being a row of m.
use mathlib.Core.Path.{refl}
use Prim.Native.Nat.{◌*◌}
use Rattle.base.proofs.Rows.{part_is}
use Rattle.columns.proofs.Laws.{matrix_part}
use Rattle.columns.proofs.solutions.unsolved_into.Goals as goal

pub returns : goal.returns
returns c =
    let args = c.args in
    rw (← part_is args.solved (args.q * args.p) _ args.m.now refl)
    (matrix_part args.unsolved args.p args.q _ _ args.t.now c.unsolved_columns.new.out refl c.requires.p_in_bounds.1
    c.unsolved_columns.auto.out c.unsolved_columns.ensures)
