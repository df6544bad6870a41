-- The numbers of one round of the dispersion loop. Document 01, "The inner fit": phi as in `pirls`. Assumes nothing.
use Rattle.std.specs.Prelude.{Option, Some, None}
use Rattle.std.specs.Prelude.{List, Bool, not, ◌||◌, cond, ℕ, Float}
use Rattle.std.specs.Float.Ieee.{lt, le}
use Rattle.base.specs.Number.{◌⊕◌, ◌⊖◌, ◌⊗◌, ◌⊘◌, bits, zero_f, one_f, eps_f, finite, abs_f, max_f}
use Rattle.elementary.specs.Exp.{exp_of}
use Rattle.elementary.specs.Log.{ln_of}
use Rattle.family.specs.Family.{tenth_f}
use Rattle.family_lists.specs.Lists.{weight_sum}
use Rattle.rule.specs.Constant.{tol_f}

-- 0.9
abbrev pub nine_tenths_f : Float
nine_tenths_f = bits 0x3fec_cccc_cccc_cccd

-- max (sum of the weights, 1)
unfoldable pub effective_n : ℕ → List Float → Float
effective_n n weights = max_f (weight_sum n weights) one_f

-- not finite, or not above zero
unfoldable pub unusable : Float → Bool
unusable v = not (finite v) || le v zero_f

-- phi': max (deviance sum / effective n, E)
unfoldable pub estimate_of : Float → Float → Float
estimate_of effective sum = max_f (sum ⊘ effective) eps_f

-- |phi' - phi| / max (phi, E) < 1e-8
unfoldable pub close : Float → Float → Bool
close phi new = lt (abs_f (new ⊖ phi) ⊘ max_f phi eps_f) tol_f

-- exp (0.9·ln phi + 0.1·ln phi')
unfoldable pub mixed : Float → Float → Float
mixed phi new = exp_of ((nine_tenths_f ⊗ ln_of phi) ⊕ (tenth_f ⊗ ln_of new))

-- done where the next phi cannot be used
unfoldable pub next_at : Float → Option Float
next_at phi = cond (unusable phi) None (Some phi)

-- done where phi' is close to phi
unfoldable pub next_by : Float → Float → Option Float
next_by phi new = cond (close phi new) None (next_at (mixed phi new))

-- after an inner fit at phi: done where the deviance sum cannot be used
unfoldable pub round_of : Float → Float → Float → Option Float
round_of effective phi sum = cond (unusable sum) None (next_by phi (estimate_of effective sum))
