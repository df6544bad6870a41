-- `family_lists::each` meets its contract: before turn i the first i entries are written.
use Rattle.base.proofs.Fills.{fill_none}
use Rattle.family_lists.proofs.Listing.{each_step}
use Rattle.family_lists.proofs.lists.each.Goals as goal

pub loop-i-init : goal.loop-i-init
loop-i-init g c = λ rule h. fill_none _ _

pub loop-i-preserved : goal.loop-i-preserved
loop-i-preserved g c = λ rule h. each_step rule c.args.xs.now _ c.loop-i.i _ _ (h _ _ c.f.ensures) (c.loop-i.invariant rule h)
