-- `solve::zb_into` meets its contract: the part is filled from the row of m.
use mathlib.Core.Path.{refl}
use Rattle.base.proofs.Rows.{part_is}
use Rattle.base.proofs.Rows.{filled_part}
use Rattle.solve.proofs.effects.zb_into.Goals as goal

pub returns : goal.returns
returns c =
    rw (← part_is c.args.b c.args.q _ c.args.m.now refl)
    (filled_part c.args.raw c.args.n _ _ _ c.z_times.new.out refl c.requires.q_in_bounds.1 c.z_times.auto.out c.z_times.ensures)
