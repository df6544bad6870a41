-- `columns::some_sides` meets its contract: the sums, which begin as +0.0, are copied into their places.
use mathlib.Core.Path.{refl}
use Rattle.columns.specs.Weighted.{entries_side, starting_at}
use Rattle.columns.proofs.WeightedSums.{sums_placed}
use native.Mathlib.Omega.{arith}
use Rattle.columns.proofs.weighted.some_sides.Goals as goal

pub returns : goal.returns
returns g c =
    let a = c.args in
    let copy = c.copy in
    sums_placed a.b g.row.N _ (starting_at (entries_side a.zt.now.columns.now a.zt.now.values.now a.x.now a.p a.w.now a.begin a.end) a.b) _ a.out.now copy.new.out refl (omega arith) copy.auto.out
    c.entry_sums.ensures copy.ensures
