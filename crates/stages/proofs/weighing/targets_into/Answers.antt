-- `stages::targets_into` meets its contract: before turn i the first i places of both rows are written, that of z - offset over the other.
use mathlib.Core.Path.{refl}
use lib.ListN.{length-set}
use Rattle.base.specs.List.{build, fill_at}
use Rattle.base.specs.Sum.{product_at}
use Rattle.base.proofs.Fills.{build_at, fillat_both}
use Rattle.rule.specs.Working.{target_at}
use native.Mathlib.Omega.{arith}
use Rattle.stages.proofs.weighing.targets_into.Goals as goal

pub loop-i-init : goal.loop-i-init
unfolding fill_at
loop-i-init c = (omega arith, refl)

pub loop-i-preserved : goal.loop-i-preserved
unfolding target_at
loop-i-preserved c =
    let a = c.args in
    let i = c.loop-i.i in (
      simp length-set (omega arith),
      fillat_both a.weighted a.working (product_at a.w.now (build (target_at a.offset.now a.z.now) a.n))
          (target_at a.offset.now a.z.now) a.r.now i _ _ _ (omega arith)
          (rw (c.less_offset-target.ensures, build_at (target_at a.offset.now a.z.now) a.n i (omega arith)) refl) c.less_offset-target.ensures
          c.loop-i.invariant.1,
    )
