-- `columns::entry_sums` meets its contract: before entry k each sum is that of the row's entries before it; an entry's column is one of the n observations.
use mathlib.Core.Path.{refl, ap, ◌∙◌}
use lib.ListN.{length, length-replicate}
use Rattle.base.specs.Number.{zero_f}
use Rattle.columns.proofs.WeightedSums.{entries_none, entries_step}
use native.Mathlib.Omega.{arith}
use Rattle.columns.proofs.weighted.entry_sums.Goals as goal

pub loop-k-init : goal.loop-k-init
loop-k-init c =
    let a = c.args in
    let none = c.requires.count_bound.1 in
    (omega arith, c.requires.rising.order, c.requires.rising, ap length none ∙ length-replicate a.count zero_f, entries_none a.zt.now.columns.now a.zt.now.values.now a.x.now a.p a.w.now a.begin a.b a.count _ none)

pub loop-k-preserved : goal.loop-k-preserved
loop-k-preserved c =
    let loop = c.loop-k in
    let a = c.args in
    let place = c.offset-o.ensures.0 in
    let added = c.add_weighted.ensures in
    (omega arith, omega arith, loop.invariant.2, omega arith, entries_step a.zt.now.columns.now a.zt.now.values.now a.x.now a.p a.w.now a.begin a.b a.count loop.k _ _ loop.sums _ loop.invariant.0 place refl loop.invariant.4 added)
