-- `factor::forward_columns` meets its contract: before turn i the first i entries of every right side are the rule's, and the flag says that all are finite.
use mathlib.Core.Path.{refl, sym}
use native.Mathlib.Omega.{arith}
use Rattle.base.specs.List.{at}
use native.Mathlib.Nat.{not-suc-le-zero}
use Rattle.base.proofs.InPlace.{by_none}
use Rattle.factor.specs.Substitution.{across_term, unit_forward_rule}
use Rattle.factor.specs.Heads.{Zeros}
use Rattle.factor.specs.Sides.{RowEntered}
use Rattle.base.specs.Sum.{◌!◌}
use Rattle.factor.proofs.ColumnsSolved.{forward_row}
use Rattle.factor.proofs.ZeroTerms.{head_bounds, across_zeros}
use Rattle.factor.proofs.EachColumn.{each_none, each_up, fine_up}
use Rattle.factor.proofs.ColumnsSolved.{forward_end}
use borrow.Author.Rules.{rules}
use Prim.Native.Nat.{◌≤◌}
use Rattle.factor.proofs.sides.forward_columns.Goals as goal

pub loop-i-init : goal.loop-i-init
loop-i-init c = (refl, each_none _ _ _ _ (omega arith) (λ b. sym (by_none _ _)), λ t a k l m. absurd (not-suc-le-zero m))

pub enter_columns-fine-requires : goal.enter_columns-fine-requires
enter_columns-fine-requires c =
    let a = c.args in
    let loop = c.loop-i in
    let head = c.row_head-head in
    let bound : head.result ≤ loop.i = (head_bounds loop.fine 0 loop.i (λ k. at a.s a.l.now loop.i k) head.result head.ensures (omega arith)).1 in
    record {
      room = omega arith;
      may = λ b p l e q.
          let z : Zeros 0 head.result (across_term a.s a.l.now loop.i (λ k. p.now ! k)) =
          forward_row a.s loop.i a.count b head.result a.l.now loop.x p.now (omega arith) (omega arith) l q
          (across_zeros a.s loop.i a.l.now (λ k. at a.s loop.x b k) loop.fine head.result head.ensures (λ t k m. loop.invariant.2 t b k l m)) in
          search rules;
    }

pub loop-i-preserved : goal.loop-i-preserved
loop-i-preserved c =
    let a = c.args in
    let loop = c.loop-i in
    let row = c.enter_columns-fine in
    let g = (unit_forward_rule a.s a.l.now) in
    let made : RowEntered g loop.i a.s a.count loop.x row.result row.new.x = row.ensures g loop.i (λ b p r e h. search rules) in
    (search rules, each_up g loop.i a.s a.count a.x.now loop.x _ (omega arith) loop.invariant.1 made.list, fine_up g loop.i a.s a.count loop.x _ row.result (omega arith) made loop.fine _ (omega arith) refl loop.invariant.2)

pub returns : goal.returns
returns c = forward_end _ _ _ _ _ _ (omega arith) (omega arith) c.loop-i.invariant.1
