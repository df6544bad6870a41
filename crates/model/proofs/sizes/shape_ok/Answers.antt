-- `model::shape_ok` meets its contract: every block passed is good and q is their sum, so that a block refused makes the shape bad, and at the end q alone is left to test.
use mathlib.Core.Path.{◌≡◌, sym, ◌∙◌}
use mathlib.Core.Bool.{true≢false}
use borrow.Author.Rules.{rules}
use Rattle.model.specs.Shape.{within}
use Rattle.model.proofs.Tests.{from_within, to_within}
use native.Mathlib.Omega.{arith}
use Rattle.base.proofs.Sums.{all_none, all_step}
use Rattle.model.proofs.Totals.{total_none}
use Rattle.model.proofs.Shapes.{not_good, bad_block, good_when, block_passes, effect_step}
use Rattle.model.proofs.sizes.shape_ok.Goals as goal

pub returns-then-not-contains : goal.returns-then-not-contains
returns-then-not-contains c =
    let w : c.contains.result ≡ within 1 8 c.args.shape.count = search rules in
    not_good _ (λ r. true≢false (sym (to_within r.some r.few) ∙ sym w ∙ c.if-not-contains.true))

pub loop-i-init : goal.loop-i-init
loop-i-init c =
    let w : c.contains.result ≡ within 1 8 c.args.shape.count = search rules in
    (from_within (sym w ∙ c.if-not-contains.false), (omega arith, omega arith), (total_none _, all_none _))

pub loop-i-preserved : goal.loop-i-preserved
loop-i-preserved c =
    let p = block_passes c.args.shape c.loop-i.i (sym c.block_ok.ensures ∙ c.if-not-block_ok.false) in
    ((omega arith, omega arith), (omega (arith, p.0), omega (arith, p.0)), (effect_step _ _ _ c.loop-i.invariant.2.0, all_step _ _ c.loop-i.invariant.2.1 p.1))

pub returns-then-not-block_ok : goal.returns-then-not-block_ok
returns-then-not-block_ok c = bad_block c.args.shape c.loop-i.i (omega arith) (sym c.block_ok.ensures ∙ c.if-not-block_ok.true)

pub returns : goal.returns
returns c =
    let l = c.loop-i in
    good_when _ l.i l.q (omega arith) (omega arith, omega arith) (omega arith) l.invariant.2
