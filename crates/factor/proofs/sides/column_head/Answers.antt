-- `factor::column_head` meets its contract: before turn k the entries from row i + 1 to row k - 1 are zeros, and one that is not settles it.
use native.Mathlib.Omega.{arith}
use Rattle.factor.proofs.ZeroTerms.{other, zeros_step, row_test, behind_head}
use Rattle.factor.proofs.sides.column_head.Goals as goal

pub returns-then-l-o : goal.returns-then-l-o
returns-then-l-o c =
    let a = c.args in
    let loop = c.loop-k in
    let offset = c.offset-o in
    behind_head _ _ _ _ _ loop.invariant.2 (record { from = omega arith; to = omega arith; zeros = loop.invariant.3; stops = λ _. other _ (row_test a.s a.l.now loop.k a.i offset.result _ offset.ensures.0 c.if-l-o.true) })

pub loop-k-preserved : goal.loop-k-preserved
loop-k-preserved c =
    let a = c.args in
    let loop = c.loop-k in
    let offset = c.offset-o in
    (omega arith, omega arith, loop.invariant.2, zeros_step _ _ _ loop.invariant.3 (row_test a.s a.l.now loop.k a.i offset.result _ offset.ensures.0 c.if-l-o.false))
