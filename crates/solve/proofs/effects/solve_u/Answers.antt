-- `solve::solve_u` meets its contract: the part is filled from three rows of m.
use mathlib.Core.Path.{refl}
use Rattle.base.proofs.Rows.{part_is}
use Rattle.base.proofs.Rows.{filled_part}
use Rattle.solve.proofs.effects.solve_u.Goals as goal

pub returns : goal.returns
returns c =
    rw (← part_is c.args.wy c.args.q _ c.args.m.now refl, ← part_is c.args.solved _ _ c.args.m.now refl, ← part_is c.args.beta c.args.p _ c.args.m.now refl)
    (filled_part c.args.spare c.args.q _ _ _ c.effects_less.new.out refl c.requires.3 c.effects_less.auto.out c.effects_less.ensures)
