-- `linear::crosses` meets its contract: before turn i each sum is that of the first i observations.
use mathlib.Core.Path.{refl, ap, ◌∙◌}
use lib.ListN.{length}
use Rattle.base.proofs.Fills.{build_length}
use Rattle.linear.proofs.CrossSums.{cross_none, cross_step, cross_done}
use native.Mathlib.Omega.{arith}
use Rattle.linear.proofs.crosses.crosses.Goals as goal

pub loop-i-init : goal.loop-i-init
loop-i-init c = (ap length c.requires.4 ∙ build_length _ _, c.requires.4 ∙ cross_none _ _ _ _ _ _ _)

pub loop-i-preserved : goal.loop-i-preserved
loop-i-preserved c =
    let loop = c.loop-i in
    let added = c.add_products in
    let turn = cross_step c.args.x.now c.args.p c.args.n c.args.w.now c.args.a c.args.b c.args.count loop.i _ _ _ loop.sums c.loop-i-test.true c.offset-o.ensures.0 refl refl loop.invariant.1 in (
      omega arith,
      rw added.ensures turn,
    )

pub returns : goal.returns
returns c = cross_done _ _ _ _ _ _ _ _ _ c.loop-i.invariant.1 (omega arith) (omega arith)
