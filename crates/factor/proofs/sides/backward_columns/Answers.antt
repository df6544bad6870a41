-- `factor::backward_columns` meets its contract: with i entries left, those of every right side from i on are the rule's, and the flag says that all are finite.
use mathlib.Core.Path.{refl, sym}
use native.Mathlib.Omega.{arith}
use Rattle.base.specs.List.{at}
use Prim.Native.Nat.{◌+◌, ◌-◌, ◌≤◌}
use native.Mathlib.Nat.{not-le_of_lt}
use Rattle.base.proofs.InPlace.{down_none}
use Rattle.factor.specs.Substitution.{down_term, unit_backward_rule}
use Rattle.factor.specs.Heads.{Zeros}
use Rattle.factor.specs.Sides.{RowEntered}
use Rattle.base.specs.Sum.{◌!◌}
use Rattle.factor.proofs.ColumnsSolved.{backward_row}
use Rattle.factor.proofs.ZeroTerms.{head_bounds, down_zeros}
use Rattle.factor.proofs.EachColumn.{each_none, each_down, fine_down}
use Rattle.factor.proofs.ColumnsSolved.{backward_end}
use borrow.Author.Rules.{rules}
use Rattle.factor.proofs.sides.backward_columns.Goals as goal

pub loop-i-init : goal.loop-i-init
loop-i-init c = (omega arith, refl, each_none _ _ _ _ (omega arith) (λ b. sym (down_none _ _ _)), λ t a k l m p. absurd (not-le_of_lt p m))

pub enter_columns-fine-requires : goal.enter_columns-fine-requires
enter_columns-fine-requires c =
    let a = c.args in
    let loop = c.loop-i in
    let head = c.column_head-head in
    let bound : (loop.i - 1 + 1 ≤ head.result) × (head.result ≤ a.s) = head_bounds loop.fine (loop.i - 1 + 1) a.s (λ k. at a.s a.l.now k (loop.i - 1)) head.result head.ensures (omega arith) in
    record {
      room = omega arith;
      may = λ b p l e q.
          let z : Zeros (loop.i - 1 + 1) head.result (down_term a.s a.l.now (loop.i - 1) (λ k. p.now ! k)) =
          backward_row a.s (loop.i - 1) a.count b head.result a.l.now loop.x p.now (omega arith) (omega arith) l q
          (down_zeros a.s (loop.i - 1) a.l.now (λ k. at a.s loop.x b k) loop.fine head.result (omega arith) head.ensures (λ t k m p'. loop.invariant.3 t b k l (omega arith) p')) in
          search rules;
    }

pub loop-i-preserved : goal.loop-i-preserved
loop-i-preserved c =
    let a = c.args in
    let loop = c.loop-i in
    let row = c.enter_columns-fine in
    let g = (unit_backward_rule a.s a.l.now) in
    let made : RowEntered g (loop.i - 1) a.s a.count loop.x row.result row.new.x = row.ensures g (loop.i - 1) (λ b p r e h. search rules) in
    (omega arith, search rules, each_down g (loop.i - 1) a.s a.count loop.i a.x.now loop.x _ (omega arith) (omega arith) (omega arith) loop.invariant.2 made.list, fine_down g (loop.i - 1) a.s a.count loop.x _ row.result (omega arith) made loop.fine _ (omega arith) refl (λ t b k l m p. loop.invariant.3 t b k l (omega arith) p))

pub returns : goal.returns
returns c = backward_end _ _ _ _ _ _ (omega arith) c.loop-i.invariant.2
