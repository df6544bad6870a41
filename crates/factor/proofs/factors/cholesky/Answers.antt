-- `factor::cholesky` meets its contract: before turn i the first i rows are the rule's and their pivots passed; a row's pivot fails, or its root is written.
use mathlib.Core.Path.{refl}
use native.Mathlib.Nat.{zero-mul}
use native.Mathlib.Omega.{arith}
use lib.ListN.{length-set}
use Rattle.base.proofs.InPlace.{by_none}
use Rattle.factor.proofs.PivotTests.{first_none}
use Rattle.factor.proofs.CholeskyRows.{cholesky_stop, cholesky_go, cholesky_done}
use Rattle.factor.proofs.factors.cholesky.Goals as goal

pub loop-i-init : goal.loop-i-init
loop-i-init c = (refl, rw zero-mul (by_none _ _), first_none _)

pub returns-then-not-positive_pivot : goal.returns-then-not-positive_pivot
returns-then-not-positive_pivot c = cholesky_stop _ _ _ _ _ _ _ _ (omega arith) (omega arith) c.offset-io.ensures.0 c.loop-i.invariant.1 c.cholesky_row.ensures c.rows_dot-sum.ensures c.positive_pivot.ensures c.loop-i.invariant.2 c.if-not-positive_pivot.true

pub loop-i-preserved : goal.loop-i-preserved
loop-i-preserved c =
    let go = cholesky_go _ _ _ _ _ _ _ _ (omega arith) (omega arith) c.offset-io.ensures.0 c.loop-i.invariant.1 c.cholesky_row.ensures c.rows_dot-sum.ensures c.positive_pivot.ensures c.loop-i.invariant.2 c.if-not-positive_pivot.false in
    (simp length-set (omega arith), rw c.sqrt.ensures go.0, go.1)

pub returns : goal.returns
returns c = cholesky_done _ _ _ _ (omega arith) (omega arith) c.loop-i.invariant.1 c.loop-i.invariant.2
