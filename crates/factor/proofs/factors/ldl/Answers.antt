-- `factor::ldl` meets its contract: before turn i the first i rows are the rule's and their pivots passed, and the flag says that they are finite; a row's pivot fails, or is written.
use mathlib.Core.Path.{refl}
use Prim.Native.Nat.{◌+◌}
use native.Mathlib.Nat.{zero-mul, not-suc-le-zero}
use native.Mathlib.Omega.{arith}
use lib.ListN.{length-set}
use Rattle.base.specs.Number.{◌⊖◌}
use Rattle.base.specs.Sum.{◌!◌}
use Rattle.base.proofs.InPlace.{by_none}
use Rattle.factor.specs.Factor.{ldl_rule}
use Rattle.factor.proofs.PivotTests.{first_none}
use Rattle.factor.proofs.LdlRows.{ldl_stop, ldl_go, ldl_done}
use Rattle.factor.proofs.LdlHeads.{ldl_zeros, fine_kept, fine_next}
use borrow.Author.Rules.{rules}
use Rattle.factor.proofs.factors.ldl.Goals as goal

pub loop-i-init : goal.loop-i-init
loop-i-init c = (refl, rw zero-mul (by_none _ _), first_none _, λ t a k m. absurd (not-suc-le-zero m))

pub ldl_sum-sum-requires : goal.ldl_sum-sum-requires
ldl_sum-sum-requires c =
    let a = c.args in
    let loop = c.loop-i in
    let row = c.ldl_row-head in
    let made = row.ensures in
    let X = row.new.out in
    let before = fine_kept (ldl_rule a.s a.a.now) a.s loop.i loop.i loop.out X loop.fine (omega arith) made.list loop.invariant.3 in
    (omega arith, omega arith, search rules, made.within, ldl_zeros a.s loop.i loop.i row.result X loop.fine (omega arith) made.within made.zeros before)

pub returns-then-not-usable_pivot : goal.returns-then-not-usable_pivot
returns-then-not-usable_pivot c =
    let loop = c.loop-i in
    let offset = c.offset-io in
    let row = c.ldl_row-head in
    ldl_stop _ _ _ _ _ _ _ _ _ (omega arith) (omega arith) offset.ensures.0 loop.invariant.1 row.ensures.list c.ldl_sum-sum.ensures c.usable_pivot.ensures loop.invariant.2 c.if-not-usable_pivot.true

pub loop-i-preserved : goal.loop-i-preserved
loop-i-preserved c =
    let a = c.args in
    let loop = c.loop-i in
    let offset = c.offset-io in
    let row = c.ldl_row-head in
    let X = row.new.out in
    let go = ldl_go _ _ _ _ _ _ _ _ _ (omega arith) (omega arith) offset.ensures.0 loop.invariant.1 row.ensures.list c.ldl_sum-sum.ensures c.usable_pivot.ensures loop.invariant.2 c.if-not-usable_pivot.false in
    let before = fine_kept (ldl_rule a.s a.a.now) a.s loop.i loop.i loop.out X loop.fine (omega arith) row.ensures.list loop.invariant.3 in
    let pivot = (a.a.now ! (offset.result + loop.i)) ⊖ c.ldl_sum-sum.result in
    (simp length-set (omega arith), go.0, go.1, fine_next a.s loop.i offset.result X pivot loop.fine c.rows_fine-fine.result (omega arith) offset.ensures.0 c.rows_fine-fine.ensures before)

pub returns : goal.returns
returns c = ldl_done _ _ _ _ _ (omega arith) (omega arith) c.loop-i.invariant.1 c.loop-i.invariant.2
