-- `working::raw_row` meets its contract: before turn i the first i places are written, and entry i of Zb is as it was lent.
use Rattle.working.proofs.Entries.{raw_entry}
use Rattle.base.proofs.Fills.{fill_none, fill_step}
use Rattle.working.proofs.offsets.raw_row.Goals as goal

pub loop-i-init : goal.loop-i-init
loop-i-init c = fill_none _ _

pub loop-i-preserved : goal.loop-i-preserved
loop-i-preserved c =
    let a = c.args in
    let at = c.loop-i in
    rw (c.plus_offset.ensures, raw_entry a.offset.now a.x.now a.p a.beta.now a.out.now at.out at.i _ _ at.invariant c.offset-o.ensures.0 c.dot_from.ensures) (fill_step _ _ _ _ at.invariant)
