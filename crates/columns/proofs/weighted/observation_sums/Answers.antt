-- `columns::observation_sums` meets its contract: before turn i each sum is that of the first i observations, and the products of a sum do not depend on the order of their factors.
use mathlib.Core.Path.{refl, ap, ◌∙◌}
use lib.ListN.{length, length-replicate}
use Rattle.base.specs.Number.{zero_f}
use Rattle.columns.proofs.WeightedSums.{dots_none, dots_step, dots_end}
use native.Mathlib.Omega.{arith}
use Rattle.columns.proofs.weighted.observation_sums.Goals as goal

pub loop-i-init : goal.loop-i-init
loop-i-init c =
    let a = c.args in
    let none = c.requires.count_bound.1 in
    (ap length none ∙ length-replicate a.count zero_f, dots_none a.x.now a.p a.w.now a.v.now a.b a.count _ none)

pub loop-i-preserved : goal.loop-i-preserved
loop-i-preserved c =
    let loop = c.loop-i in
    let a = c.args in
    let place = c.offset-o.ensures.0 in
    let added = c.add_weighted.ensures in
    (omega arith, dots_step a.x.now a.p a.w.now a.v.now a.b a.count loop.i _ _ loop.sums _ place refl loop.invariant.1 added)

pub returns : goal.returns
returns c =
    let a = c.args in
    let loop = c.loop-i in
    dots_end a.x.now a.p a.w.now a.v.now a.b a.count a.n loop.i _ (omega arith) (omega arith) loop.invariant.1
