-- `factor::row_head` meets its contract: before turn k the first k entries of the row are zeros, and one that is not settles it.
use native.Mathlib.Omega.{arith}
use Rattle.factor.proofs.ZeroTerms.{other, zeros_step, row_test, behind_head}
use Rattle.factor.proofs.sides.row_head.Goals as goal

pub returns-then-l-o : goal.returns-then-l-o
returns-then-l-o c =
    let a = c.args in
    let loop = c.loop-k in
    let offset = c.offset-o in
    behind_head _ _ _ _ _ loop.invariant.0 (record { from = omega arith; to = omega arith; zeros = loop.invariant.1; stops = λ _. other _ (row_test a.s a.l.now a.i loop.k offset.result _ offset.ensures.0 c.if-l-o.true) })

pub loop-k-preserved : goal.loop-k-preserved
loop-k-preserved c =
    let a = c.args in
    let loop = c.loop-k in
    let offset = c.offset-o in
    (loop.invariant.0, zeros_step _ _ _ loop.invariant.1 (row_test a.s a.l.now a.i loop.k offset.result _ offset.ensures.0 c.if-l-o.false))
