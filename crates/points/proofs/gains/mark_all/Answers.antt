-- `points::mark_all` meets its contract: the row is lent and filled.
use Rattle.std.proofs.Common.{refl}
use Rattle.base.specs.Number.{one_f}
use Rattle.points.proofs.Marks.{part_set}
use Rattle.points.proofs.gains.mark_all.Goals as goal

pub returns : goal.returns
returns c = part_set c.args.mark c.args.n _ one_f c.args.r.now c.fill.new.self refl c.requires (c.fill.ensures.after (λ y e. e))
