-- `stored::z_times` meets its contract: before row a each place holds the sum over the rows before it.
use Rattle.stored.specs.Lent.{sparse_in}
use Rattle.stored.proofs.Added.{rows_none, rows_step, rows_end}
use native.Mathlib.Omega.{arith}
use Rattle.stored.proofs.effects.z_times.Goals as goal

pub loop-a-init : goal.loop-a-init
loop-a-init c = rows_none (sparse_in c.args.zt.now) c.args.n c.args.b.now c.args.out.now _ c.requires.rows_in_bounds.1 c.wipe.ensures

pub loop-a-preserved : goal.loop-a-preserved
loop-a-preserved c = rows_step (sparse_in c.args.zt.now) c.args.n c.args.b.now _ _ _ _ (omega arith) c.loop-a.invariant c.add_row.ensures

pub returns : goal.returns
returns c = rows_end (sparse_in c.args.zt.now) c.args.n c.args.rows c.args.b.now _ c.args.out.now _ _ c.requires.rows_in_bounds.1 c.loop-a.auto.a-end c.loop-a-test.false c.wipe.ensures c.loop-a.invariant
