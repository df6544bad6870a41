-- `scale::section_into` meets its contract: before turn i the first i rows of the block are copied, and A lies before them.
use mathlib.Core.Path.{refl}
use Prim.Native.Nat.{◌≤◌}
use Rattle.scale.proofs.SectionCopied.{square_within, section_none, section_step, section_done}
use native.Mathlib.Omega.{arith}
use Rattle.scale.proofs.sections.section_into.Goals as goal

pub loop-i-init : goal.loop-i-init
loop-i-init c = (refl, section_none c.args.q c.args.s c.args.k _ c.args.m.now)

pub loop-i-preserved : goal.loop-i-preserved
loop-i-preserved c =
    let l : c.loop-i.i ≤ c.args.k = omega arith in (
      omega arith,
      section_step c.args.q c.args.s c.args.k c.loop-i.i _ _ _ c.args.m.now c.loop-i.m _
          c.inverse_at-place.ensures c.requires.1 c.loop-i-test.true (omega (arith, c.requires))
          (omega (arith, c.offset-source.ensures.0)) (omega (arith, c.offset-target.ensures.0)) c.loop-i.invariant.1 c.copy_row.ensures,
    )

pub returns : goal.returns
returns c =
    let args = c.args in
    section_done args.q args.s args.k _ _ args.m.now _ c.inverse_at-place.ensures c.loop-i.auto.i-end c.loop-i-test.false
    (omega (arith, c.requires, square_within args.q args.s args.k c.requires.1, c.inverse_at-place.ensures)) c.loop-i.invariant.1
