-- `stored::ztwz` meets its contract: before row a the leading a by a square is written, and no observation of the rows before it has a mark above theirs.
use Prim.Native.Nat.{◌-◌}
use Rattle.stored.specs.Lent.{sparse_in}
use Rattle.stored.proofs.Symmetry.{leading_step, leading_end}
use Rattle.stored.proofs.Apart.{itself, others, lesser_below, marked_step, marked_apart}
use native.Mathlib.Omega.{arith}
use Rattle.stored.proofs.weighted.ztwz.Goals as goal

pub ztwz_row-requires-clause-between : goal.ztwz_row-requires-clause-between
ztwz_row-requires-clause-between c =
    let Z = sparse_in c.args.zt.now in
    record {
      before = marked_apart Z itself c.loop-a.a c.loop-a.first _ c.loop-a.invariant.1 c.least_mark-low.ensures;
      behind = marked_apart Z (others c.args.rows) c.loop-a.a c.loop-a.last _ c.loop-a.invariant.2 c.least_mark-far.ensures;
    }

pub loop-a-preserved : goal.loop-a-preserved
loop-a-preserved c =
    let Z = sparse_in c.args.zt.now in (
      leading_step _ _ _ _ _ _ c.loop-a-test.true c.loop-a.invariant.0 c.ztwz_row.ensures,
      marked_step Z itself c.loop-a.a _ c.loop-a.first _ c.loop-a.invariant.1 (omega (arith, c.mark_of.ensures, (lesser_below 255 c.loop-a.a).1)) c.lower_marks.ensures,
      marked_step Z (others c.args.rows) c.loop-a.a _ c.loop-a.last _ c.loop-a.invariant.2 (omega (arith, c.mark_of-in-loop-a.ensures, (lesser_below 255 (c.args.rows - 1 - c.loop-a.a)).1)) c.lower_marks-in-loop-a.ensures,
    )

pub returns : goal.returns
returns c = leading_end _ _ _ _ _ c.loop-a.auto.a-end c.loop-a-test.false (omega arith) c.loop-a.invariant.0
