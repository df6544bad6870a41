-- `factor::ldl_row` meets its contract: before turn j the first j entries of row i are the rule's, and those before `head` are zeros.
use mathlib.Core.Path.{refl}
use native.Mathlib.Nat.{not-suc-le-zero}
use native.Mathlib.Omega.{arith}
use lib.ListN.{length-set}
use Rattle.factor.specs.Factor.{ldl_rule}
use Rattle.factor.proofs.RowByRow.{row_none}
use Rattle.factor.proofs.LdlRows.{ldl_row_step}
use Rattle.factor.proofs.LdlHeads.{ldl_zeros, fine_kept, next_made}
use Rattle.factor.proofs.factors.ldl_row.Goals as goal

pub loop-j-init : goal.loop-j-init
loop-j-init c = (refl, row_none _ _ _, omega arith, λ k m. absurd (not-suc-le-zero m))

pub ldl_sum-sum-requires : goal.ldl_sum-sum-requires
ldl_sum-sum-requires c =
    let a = c.args in
    let loop = c.loop-j in
    let before = fine_kept (ldl_rule a.s a.a.now) a.s a.i loop.j a.out.now loop.out a.fine (omega arith) loop.invariant.1 c.requires.3 in
    (omega arith, omega arith, omega arith, loop.invariant.2, ldl_zeros a.s a.i loop.j loop.head loop.out a.fine (omega arith) loop.invariant.2 loop.invariant.3 before)

pub loop-j-preserved : goal.loop-j-preserved
loop-j-preserved c =
    let a = c.args in
    let offset = c.offset-io in
    let loop = c.loop-j in
    let next = next_made a.s a.i loop.j loop.head offset.result loop.out a.fine _ offset.ensures.0 (omega arith) loop.invariant.2 loop.invariant.3 c.next_head-head.result c.next_head-head.ensures in
    (simp length-set (omega arith), rw (c.ldl_sum-sum.ensures, c.offset-jo.ensures.0, offset.ensures.0) (ldl_row_step _ _ _ _ _ _ (omega arith) (omega arith) loop.invariant.1), next.0, next.1)
