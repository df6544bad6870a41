-- `stored::ztwz_row` meets its contract: before turn b the first b entries of row a and of column a are written, and Z'WZ is symmetric.
use Rattle.stored.specs.Lent.{sparse_in}
use Rattle.stored.proofs.Symmetry.{ztwz_symmetric, border_step, border_end}
use native.Mathlib.Omega.{arith}
use Rattle.stored.proofs.weighted.ztwz_row.Goals as goal

pub loop-b-preserved : goal.loop-b-preserved
loop-b-preserved c = border_step _ _ _ _ _ _ _ _ _ c.offset-ao.ensures.0 c.offset-bo.ensures.0 c.ztwz_entry-sum.ensures c.requires.a_lt_rows.0 c.loop-b-test.true c.requires.a_lt_rows.2 (ztwz_symmetric (sparse_in c.args.zt.now) c.args.n c.args.w.now _ _) c.loop-b.invariant

pub returns-2 : goal.returns-2
returns-2 c =
    let last = border_step _ _ _ _ _ _ _ _ _ c.offset-ao.ensures.0 c.offset-bo.ensures.0 c.ztwz_entry-sum.ensures c.requires.a_lt_rows.0 c.loop-b-test.true c.requires.a_lt_rows.2 (ztwz_symmetric (sparse_in c.args.zt.now) c.args.n c.args.w.now _ _) c.loop-b.invariant in
    border_end _ _ _ _ _ _ (omega arith) (omega arith) last
