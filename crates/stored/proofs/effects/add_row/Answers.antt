-- `stored::add_row` meets its contract: the places below a cut, which parts what the cursor has passed from the rest, have what the row adds to them.
use lib.ListN.{length-set}
use Rattle.stored.specs.Lent.{sparse_in}
use Rattle.stored.proofs.Added.{added_none, added_step, added_end}
use native.Mathlib.Omega.{arith}
use Rattle.stored.proofs.effects.add_row.Goals as goal

pub loop-k-init : goal.loop-k-init
loop-k-init c = (c.requires.rows.each c.args.a c.requires.a_lt_rows.0, c.requires.rows.paired, added_none (sparse_in c.args.zt.now) c.args.rows c.args.n c.args.b.now c.args.a c.args.out.now c.requires.rows c.requires.a_lt_rows.0 c.requires.a_lt_rows.2)

pub loop-k-preserved : goal.loop-k-preserved
loop-k-preserved c =
    let inv = c.loop-k.invariant in
    (inv.0, inv.1, added_step (sparse_in c.args.zt.now) c.args.rows c.args.n c.args.b.now c.args.a c.args.out.now c.requires.rows c.requires.a_lt_rows.0 c.requires.a_lt_rows.2 inv.2 c.loop-k-test.true)

pub returns : goal.returns
returns c = added_end (sparse_in c.args.zt.now) c.args.rows c.args.n c.args.b.now c.args.a c.args.out.now c.requires.rows c.requires.a_lt_rows.0 c.requires.a_lt_rows.2 c.loop-k.invariant.2 c.loop-k-test.false
