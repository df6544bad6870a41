-- `family_lists::densities` meets its contract: before turn i the sum is that of the first i responses.
use Rattle.std.proofs.Common.{◌≡◌}
use Rattle.base.specs.Number.{◌⊘◌, one_f}
use Rattle.base.specs.Sum.{sum_to}
use Rattle.family_lists.specs.Aic.{density_at}
use Rattle.family_lists.proofs.aics.densities.Given as goal

abbrev pub invariant-loop-i : goal.invariant-loop-i
invariant-loop-i l = (l.shape ≡ one_f ⊘ l.phi) × (l.sum ≡ sum_to l.i (density_at l.y l.mu l.wt l.phi))
