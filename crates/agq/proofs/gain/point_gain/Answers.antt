-- `agq::point_gain` meets its contract: Λu beside u, Zb of it and then the means into their row, and the sum over rows of which only that one has changed.
use mathlib.Core.Path.{refl}
use Prim.Native.Nat.{◌+◌}
use Rattle.base.proofs.Rows.{part_is, filled_part}
use Rattle.stored.specs.Stored.{sparse}
use Rattle.agq.proofs.Gains.{gain_made}
use native.Mathlib.Omega.{arith}
use Rattle.agq.proofs.gain.point_gain.Goals as goal

pub returns : goal.returns
returns c =
    let a = c.args in
    gain_made a.given.now.family a.given.now.link a.given.now.design.shape a.given.now.design.theta.now (sparse a.given.now.design.zt.starts.now a.given.now.design.zt.columns.now a.given.now.design.zt.values.now) a.given.now.y.now a.given.now.weights.now
    a.given.now.design.offset.now a.given.now.design.n a.given.now.design.q a.xbeta a.trial a.r.now _ _ a.m.now _ _ _ c.requires.in_r c.lambda_within.ensures
    (part_is (a.trial + a.given.now.design.q) a.given.now.design.q _ _ refl)
    (filled_part (a.xbeta + a.given.now.design.n + a.given.now.design.n) a.given.now.design.n _ _ a.r.now c.z_times.new.out refl (omega (arith, c.requires.in_r))
    c.z_times.auto.out c.z_times.ensures) c.point_means.ensures c.deviance_gain.ensures
