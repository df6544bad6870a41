-- `solve::factor_system` meets its contract: each call leaves the matrix that the next one reads.
use mathlib.Core.Path.{refl}
use native.Mathlib.Omega.{arith}
use Rattle.base.proofs.Rows.{part_is, front_is}
use Rattle.solve.proofs.FactoredSystem.{system_made}
use Rattle.solve.proofs.systems.factor_system.Goals as goal

pub returns : goal.returns
returns c =
    rw (← part_is c.args.w c.args.n _ c.args.t.now refl)
    (system_made c.args.n c.args.q c.args.shape c.args.theta.now _ _ _ _ _ _ _ _ _ _ _ _ c.requires.ready.effects (omega (arith, c.requires.q_bound)) c.requires.q_bound.2 c.ztwz.ensures (front_is _ _) c.right_columns.ensures (front_is _ _) c.system.ensures (front_is _ _) c.ldl.ensures)
