-- `stages::root_inverse` meets its contract: the part that is lent becomes the columns of the inverse.
use native.Mathlib.Omega.{arith}
use Rattle.stages.proofs.AtTheStop.{inverse_made}
use Rattle.stages.proofs.stops.root_inverse.Goals as goal

pub returns : goal.returns
returns c = inverse_made c.args.n c.args.p c.args.q _ _ _ _ c.args.t.now c.args.m.now c.cholesky_inverse.new.out c.normal_at-normal.ensures c.spare_at-spare.ensures c.root_inverse_at-root.ensures c.wy_at-wy.ensures (omega (arith, c.requires.3, c.wy_at-wy.ensures)) c.cholesky_inverse.auto.out c.cholesky_inverse.ensures
