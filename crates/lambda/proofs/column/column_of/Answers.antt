-- `lambda::column_of` meets its contract: the blocks passed end at effect j or before it, so the block that does not is j's, and what is left of j counts from that block's begin.
use native.Mathlib.Nat.{mod-lt}
use Rattle.lambda.proofs.ColumnPlaces.{column_packed, passed_none, next_block, passed_more, passed_small, passed_column}
use Rattle.model.proofs.Shapes.{in_range_lem, effects_small}
use native.Mathlib.Omega.{arith}
use Rattle.lambda.proofs.column.column_of.Goals as goal

pub overflow_mul-effects : goal.overflow_mul-effects
overflow_mul-effects c = omega (arith, effects_small c.args.shape (in_range_lem _ c.requires.0) 0 (in_range_lem _ c.requires.0).some)

pub loop-effects-init : goal.loop-effects-init
loop-effects-init c = passed_none c.args.shape c.args.j (in_range_lem _ c.requires.0) c.requires.1

pub overflow_add-first-in-loop-effects : goal.overflow_add-first-in-loop-effects
overflow_add-first-in-loop-effects c = omega (arith, passed_small c.loop-effects.invariant)

pub bounds-shape-i : goal.bounds-shape-i
bounds-shape-i c = omega (arith, next_block c.loop-effects.invariant (omega arith), c.loop-effects.invariant.range.few)

pub bounds-shape-i-in-loop-effects : goal.bounds-shape-i-in-loop-effects
bounds-shape-i-in-loop-effects c = let p = c.loop-effects.invariant in omega (arith, next_block p (omega arith), p.range.few)

pub overflow_mul-effects-in-loop-effects : goal.overflow_mul-effects-in-loop-effects
overflow_mul-effects-in-loop-effects c = let p = c.loop-effects.invariant in omega (arith, effects_small _ p.range _ (next_block p (omega arith)))

pub loop-effects-preserved : goal.loop-effects-preserved
loop-effects-preserved c = passed_more c.loop-effects.invariant (omega arith)

pub overflow_add-result : goal.overflow_add-result
overflow_add-result c =
    let l = c.loop-effects in
    let p = passed_small l.invariant in
    omega (arith, p, c.column_start-start.ensures, column_packed l.k _ p.0 (mod-lt l.left p.1))

pub returns : goal.returns
returns c = rw c.column_start-start.ensures (passed_column c.loop-effects.invariant (omega arith))
