-- `solve::effects_into` meets its contract: two parts one behind the other, filled from one row of t.
use mathlib.Core.Path.{refl}
use native.Mathlib.Omega.{arith}
use Rattle.base.proofs.Rows.{row_length}
use Rattle.base.proofs.Rows.{part_is}
use Rattle.base.proofs.Rows.{filled_part}
use Rattle.solve.proofs.Steps.{effects_made}
use Rattle.solve.proofs.effects.effects_into.Goals as goal

pub returns : goal.returns
returns c =
    let w = filled_part c.args.u c.args.q _ _ c.args.m.now c.copy.new.out refl (omega (arith, c.requires.q_in_bounds)) c.copy.auto.out c.copy.ensures in
    let w' = filled_part _ c.args.q _ _ _ c.lambda_times.new.out refl (omega (arith, c.requires.q_in_bounds, w.only.len)) c.lambda_times.auto.out c.lambda_times.ensures in
    effects_made c.args.shape c.args.theta.now c.args.u c.args.q _ _ _ _ (row_length c.args.spare c.args.q c.args.t.now c.requires.q_in_bounds.0) c.requires.q_in_bounds.1 (rw (part_is c.args.spare c.args.q _ c.args.t.now refl) at w) (rw (part_is c.args.spare c.args.q _ c.args.t.now refl) at w')
