-- `factor::cholesky_row` meets its contract: before turn j the first j entries of row i are the rule's.
use native.Mathlib.Omega.{arith}
use lib.ListN.{length-set}
use Rattle.factor.proofs.RowByRow.{rowwise}
use Rattle.factor.proofs.CholeskyRows.{cholesky_row_step}
use borrow.Author.Rules.{rules}
use Rattle.factor.proofs.factors.cholesky_row.Goals as goal

pub loop-j-init : goal.loop-j-init
loop-j-init c = search (rules, rowwise)

pub loop-j-preserved : goal.loop-j-preserved
loop-j-preserved c = (simp length-set (omega arith), rw (c.rows_dot-sum.ensures, c.offset-jo.ensures.0, c.offset-io.ensures.0) (cholesky_row_step _ _ _ _ _ (omega arith) (omega arith) c.loop-j.invariant.1))
