-- `columns::some_dots` meets its contract: the sums, which begin as +0.0, are copied into their places.
use mathlib.Core.Path.{refl}
use Rattle.columns.specs.Weighted.{weighted_dot, starting_at}
use Rattle.columns.proofs.WeightedSums.{sums_placed}
use native.Mathlib.Omega.{arith}
use Rattle.columns.proofs.weighted.some_dots.Goals as goal

pub returns : goal.returns
returns g c =
    let a = c.args in
    let copy = c.copy in
    sums_placed a.b g.row.N _ (starting_at (weighted_dot a.x.now a.p a.n a.w.now a.v.now) a.b) _ a.out.now copy.new.out refl (omega arith) copy.auto.out
    c.observation_sums.ensures copy.ensures
