-- `points::move_effects` meets its contract: before turn i the first i effects are moved, and û, L and z are as they were lent.
use mathlib.Core.Path.{refl}
use Prim.Native.Nat.{◌*◌}
use native.Mathlib.Omega.{arith}
use lib.ListN.{length-set}
use Rattle.base.specs.Rows.{row}
use Rattle.base.proofs.Fills.{fillat_none}
use Rattle.base.proofs.Rows.{row_length, fillat_wrote}
use Rattle.agq_rule.specs.Term.{moved_at}
use Rattle.points.proofs.Kept.{kept_part}
use Rattle.points.proofs.Moved.{moved_step}
use Rattle.points.proofs.trials.move_effects.Goals as goal

pub loop-i-init : goal.loop-i-init
loop-i-init c = (omega arith, refl, refl, fillat_none _ _ _)

pub spread_at-by-requires : goal.spread_at-by-requires
spread_at-by-requires c =
    let a = c.args in
    let at = c.loop-i in
    let f = moved_at a.k (row a.l (a.k * a.k) a.m.now) (row a.z a.k a.m.now) 0 (row a.u a.k a.m.now) in
    rw (kept_part a.l (a.k * a.k) _ a.trial a.k at.i f a.m.now at.m at.invariant.1 c.requires.apart.0 c.requires.k_in_bounds.0 at.auto.i-end at.invariant.3, kept_part a.z a.k _ a.trial a.k at.i f a.m.now at.m at.invariant.2 c.requires.apart.1 c.requires.k_in_bounds.1 at.auto.i-end at.invariant.3)
    (c.loop-i-test.true, omega (arith, row_length a.l (a.k * a.k) a.m.now c.requires.k_in_bounds.0), omega (arith, row_length a.z a.k a.m.now c.requires.k_in_bounds.1), c.requires.apart.3)

pub loop-i-preserved : goal.loop-i-preserved
loop-i-preserved c =
    let a = c.args in
    let at = c.loop-i in
    let f = moved_at a.k (row a.l (a.k * a.k) a.m.now) (row a.z a.k a.m.now) 0 (row a.u a.k a.m.now) in (
      simp length-set (omega arith),
      at.invariant.1,
      at.invariant.2,
      moved_step a.k a.l a.z a.u a.trial at.i a.m.now at.m _ _ _ c.requires.apart.2 c.requires.k_in_bounds.2 c.loop-i-test.true
          (kept_part a.l (a.k * a.k) _ a.trial a.k at.i f a.m.now at.m at.invariant.1 c.requires.apart.0 c.requires.k_in_bounds.0 at.auto.i-end at.invariant.3)
          (kept_part a.z a.k _ a.trial a.k at.i f a.m.now at.m at.invariant.2 c.requires.apart.1 c.requires.k_in_bounds.1 at.auto.i-end at.invariant.3)
          c.spread_at-by.ensures at.invariant.3,
    )

pub returns : goal.returns
returns c = fillat_wrote _ _ _ _ _ _ c.loop-i.invariant.3 (omega arith) (omega arith) (omega arith)
