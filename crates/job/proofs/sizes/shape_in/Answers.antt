-- `job::shape_in` meets its contract: the fronts of the two arrays hold m and k of the blocks passed. Assumes nothing.
use mathlib.Core.Path.{ap, ◌∙◌}
use native.Mathlib.Omega.{arith}
use Rattle.job.specs.declared.head.Head.{Head}
use Rattle.job.specs.declared.head.Piece.{Piece}
use Rattle.job.proofs.ListLaws.{counts_none, counts_step, counts_end}
use Rattle.job.proofs.SizeLaws.{head_short, group_at, effect_at_lem}
use Rattle.job.proofs.SurveyLaws.{shape_kept_lem, shape_none}
use Rattle.job.proofs.sizes.shape_in.Goals as goal

pub returns-then-count-gt8 : goal.returns-then-count-gt8
returns-then-count-gt8 c = c.no_shape.ensures ∙ shape_none c.args.s.now (omega (arith, c.if-count-gt8.true, ap (λ (h : Head). h.blocks) c.requires))

pub loop-i-init : goal.loop-i-init
loop-i-init c = (counts_none _ _, counts_none _ _)

pub overflow_add-first : goal.overflow_add-first
overflow_add-first c = omega (arith, head_short c.args.s.now)

pub overflow_mul-first : goal.overflow_mul-first
overflow_mul-first c = omega (arith, head_short c.args.s.now)

pub piece_in-piece-requires : goal.piece_in-piece-requires
piece_in-piece-requires c = omega (arith, head_short c.args.s.now)

pub loop-i-preserved : goal.loop-i-preserved
loop-i-preserved c =
    let l = c.loop-i.invariant in
    let first = c.blocks_at-first.ensures in
    let e = c.piece_in-piece.ensures in (
      counts_step _ _ _ _ _ (group_at _ _ _ _ first (ap (λ (x : Piece). x.m) e)) (omega arith) l.0,
      counts_step _ _ _ _ _ (effect_at_lem _ _ _ _ first (ap (λ (x : Piece). x.k) e)) (omega arith) l.1,
    )

pub returns : goal.returns
returns c =
    let l = c.loop-i.invariant in
    let n = ap (λ (h : Head). h.blocks) c.requires in
    shape_kept_lem c.args.s.now _ _ _ (omega (arith, n)) n (counts_end _ _ _ _ _ l.0 (omega (arith, n))) (counts_end _ _ _ _ _ l.1 (omega (arith, n)))
