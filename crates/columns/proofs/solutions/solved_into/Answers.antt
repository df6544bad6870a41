-- `columns::solved_into` meets its contract: the part is the solutions for the columns of t with the factor at its front.
use mathlib.Core.Path.{refl}
use Prim.Native.Nat.{◌*◌}
use Rattle.base.proofs.Rows.{part_is, front_is}
use Rattle.base.proofs.TwoRows.{part_made}
use Rattle.columns.proofs.solutions.solved_into.Goals as goal

pub returns : goal.returns
returns c =
    let args = c.args in
    rw (← front_is _ args.t.now, ← part_is args.unsolved (args.p * args.q) _ args.t.now refl)
    (part_made args.solved (args.p * args.q) _ _ args.m.now c.solved_copies.new.out refl c.requires.2
    c.solved_copies.auto.out c.solved_copies.ensures)
