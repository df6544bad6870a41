-- `factor::each::enter_columns` meets its contract: before turn a the first a columns have their entry by the rule, the flag says whether all these are finite, and nothing else has changed.
use Rattle.std.proofs.Common.{refl, arith, rules}
use Rattle.base.proofs.Rows.{only_none}
use Rattle.factor.proofs.EachColumn.{part_before, part_only, entered_none, entered_part}
use Rattle.factor.proofs.each.enter_columns.Goals as goal

pub loop-a-init : goal.loop-a-init
loop-a-init q c = (only_none _ _ _, λ g i made. entered_none g i _ _)

pub enter-fine-requires : goal.enter-fine-requires
enter-fine-requires q c =
    c.requires.may c.loop-a.a _ (omega arith) (search rules) (part_before _ _ _ _ _ _ c.loop-a.invariant.0 c.offset-o.ensures.0 refl (omega arith))

pub loop-a-preserved : goal.loop-a-preserved
loop-a-preserved q c =
    let entry = c.enter-fine in
    let only = c.loop-a.invariant.0 in
    let offset = c.offset-o in (
      part_only _ _ _ _ _ _ only offset.ensures.0 refl (omega arith) _ entry.auto.arg2,
      λ g i made. entered_part g i _ _ _ _ _ _ _ _ _ only offset.ensures.0 refl (omega arith) entry.auto.arg2 (made _ _ _ (search rules) entry.ensures) (c.loop-a.invariant.1 g i made),
    )
