-- `results::z_values` meets its contract: before turn a the first a places are written.
use lib.ListN.{length-set}
use Rattle.base.proofs.Fills.{fill_none, fill_step}
use Rattle.rule.specs.Results.{z_value_at}
use native.Mathlib.Omega.{arith}
use Rattle.results.proofs.fixed.z_values.Goals as goal

pub loop-a-init : goal.loop-a-init
loop-a-init c = (omega arith, fill_none _ _)

pub loop-a-preserved : goal.loop-a-preserved
unfolding z_value_at
loop-a-preserved c =
    let a = c.args in
    (simp length-set (omega arith), rw c.z_value.ensures (fill_step (z_value_at a.beta.now a.se.now) _ _ _ c.loop-a.invariant.1))
