-- `normal::quantile::central` meets its contract: Horner's rule does the same operations in the same order, and each decimal is the definition's bits.
use Rattle.normal.specs.Quantile.{horner_of, part_of, central_of}
use Rattle.normal.proofs.quantile.central.Goals as goal

pub returns : goal.returns
unfolding horner_of part_of central_of
returns c = rw c.part.ensures
