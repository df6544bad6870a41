-- `family_lists::densities` meets its contract: before turn i the sum is that of the first i responses.
use Rattle.std.proofs.Common.{◌≡◌, ℕ, ◌+◌, List, refl}
use lib.Ieee.{Float}
use Rattle.base.specs.Number.{◌⊕◌, ◌⊗◌, ◌⊘◌, one_f, eps_f, max_f}
use Rattle.base.specs.Sum.{◌!◌, sum_to}
use Rattle.base.proofs.Sums.{sum_none, sum_step}
use Rattle.family.specs.Family.{ln_dgamma}
use Rattle.family_lists.specs.Lists.{weight_at}
use Rattle.family_lists.specs.Aic.{density_at}
use Rattle.family_lists.proofs.aics.densities.Goals as goal

-- one response more
density_step : (y mu w : List Float) (phi : Float) (i : ℕ) (s : Float) → s ≡ sum_to i (density_at y mu w phi)
    → s ⊕ weight_at w i ⊗ ln_dgamma (y ! i) (one_f ⊘ phi) (max_f (mu ! i) eps_f ⊗ phi) ≡ sum_to (i + 1) (density_at y mu w phi)
unfolding density_at
density_step y mu w phi i s e = sum_step (density_at y mu w phi) i s e

pub loop-i-init : goal.loop-i-init
loop-i-init c = (refl, sum_none _)

pub loop-i-preserved : goal.loop-i-preserved
loop-i-preserved c = (
  c.loop-i.invariant.0,
  rw (c.ln_dgamma.ensures, c.loop-i.invariant.0, c.weight_at.ensures, c.max.ensures, c.mean_at.ensures)
      (density_step c.args.y.now c.args.mu.now c.args.wt.now _ _ _ c.loop-i.invariant.1),
)
