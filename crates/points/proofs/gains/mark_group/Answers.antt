-- `points::mark_group` meets its contract: before row i of the group the marks are those of its first i rows.
use mathlib.Core.Path.{refl}
use Rattle.base.proofs.Rows.{only_none, only_trans}
use Rattle.stored.specs.Lent.{sparse_in}
use Rattle.base.specs.Number.{zero_f}
use Rattle.points.proofs.Marks.{part_set, group_none, group_step, group_end}
use native.Mathlib.Omega.{arith}
use Rattle.points.proofs.gains.mark_group.Goals as goal

pub loop-i-init : goal.loop-i-init
loop-i-init c =
    let a = c.args in
    let w = part_set a.mark a.n _ zero_f a.r.now c.fill.new.self refl c.requires.k_bound.1 (c.fill.ensures.after (λ y e. e)) in
    (refl, only_none _ _ _, group_none (sparse_in a.zt.now) a.s a.mark a.n _ w.row' (omega (arith, c.requires.k_bound.1, w.only.len)))

pub loop-i-preserved : goal.loop-i-preserved
loop-i-preserved c =
    let a = c.args in
    let l = c.loop-i in
    (omega (arith, l.invariant.0, c.mark_one.ensures.only.len), only_trans l.invariant.1 c.mark_one.ensures.only, group_step (sparse_in a.zt.now) a.s l.i a.mark a.n _ _ l.invariant.2 c.mark_one.ensures)

pub returns : goal.returns
returns c =
    let a = c.args in
    let l = c.loop-i in
    let w = part_set a.mark a.n _ zero_f a.r.now c.fill.new.self refl c.requires.k_bound.1 (c.fill.ensures.after (λ y e. e)) in
    group_end (sparse_in a.zt.now) a.s a.k l.i a.mark a.n a.r.now _ l.r l.auto.i-end (omega arith) c.requires.k_bound.1 w.only l.invariant.1 l.invariant.2
