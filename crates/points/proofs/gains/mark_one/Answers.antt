-- `points::mark_one` meets its contract: before entry k the observations of the row's entries before it are marked.
use native.Mathlib.Omega.{arith}
use lib.ListN.{length-set}
use Rattle.stored.specs.Lent.{sparse_in}
use Rattle.base.proofs.Rows.{only_none}
use Rattle.points.proofs.Marks.{marked_none, marked_step, only_set, marked_end}
use Rattle.points.proofs.gains.mark_one.Goals as goal

pub loop-k-init : goal.loop-k-init
loop-k-init c = (c.requires.rows.each c.args.a (omega (arith, c.requires.a_bound.0)), omega arith, (c.requires.rows.each c.args.a (omega (arith, c.requires.a_bound.0))).order, omega arith, marked_none c.args.zt.now.columns.now _ c.args.mark c.args.n c.args.r.now, only_none _ _ _)

pub loop-k-preserved : goal.loop-k-preserved
loop-k-preserved c =
    let l = c.loop-k in
    let low = l.invariant.0.below l.k l.invariant.1 c.loop-k-test.true in
    (l.invariant.0, omega (arith, l.invariant.1), omega (arith, c.loop-k-test.true), simp length-set l.invariant.3, marked_step c.args.zt.now.columns.now _ l.k c.args.mark c.args.n c.args.r.now l.r l.invariant.1 low (omega (arith, l.invariant.3, c.requires.a_bound.1)) l.invariant.4, only_set c.args.mark c.args.n _ _ c.args.r.now l.r low l.invariant.5)

pub returns : goal.returns
returns c =
    let l = c.loop-k in
    marked_end (sparse_in c.args.zt.now) c.args.a c.args.mark c.args.n l.k c.args.r.now l.r l.invariant.2 (omega arith) l.invariant.4 l.invariant.5
