-- `results::standard_errors` meets its contract: before turn a the first a places are written.
use lib.ListN.{length-set}
use Rattle.base.proofs.Fills.{fill_none, fill_step}
use Rattle.rule.specs.Results.{se_at}
use native.Mathlib.Omega.{arith}
use Rattle.results.proofs.fixed.standard_errors.Goals as goal

pub loop-a-init : goal.loop-a-init
loop-a-init c = (omega arith, fill_none _ _)

pub loop-a-preserved : goal.loop-a-preserved
unfolding se_at
loop-a-preserved c =
    let a = c.args in (
      simp length-set (omega arith),
      rw (c.sqrt.ensures, c.offset-o.ensures.0) (fill_step (se_at a.p a.v.now) _ _ _ c.loop-a.invariant.1),
    )
