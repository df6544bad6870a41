-- `normal::quantile::distant_part` meets its contract: Horner's rule does the same operations in the same order, and each decimal is the definition's bits.
use Rattle.normal.specs.Quantile.{horner_of, part_of, distant_part}
use Rattle.normal.proofs.quantile.distant_part.Goals as goal

pub returns : goal.returns
unfolding horner_of part_of distant_part
returns c = rw c.part.ensures
