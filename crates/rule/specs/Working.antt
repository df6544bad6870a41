-- Working weights and the working response of one observation and of all. Document 01, "The inner fit": w and z as in `pirls_with_workspace`. Assumes nothing.
use Rattle.std.specs.Prelude.{List, Bool, true, false, cond, ℕ, Float}
use Rattle.std.specs.Float.Ieee.{lt, neg}
use Rattle.base.specs.Number.{◌⊕◌, ◌⊖◌, ◌⊗◌, ◌⊘◌, eps_f, max_f, abs_f, negative}
use Rattle.base.specs.Sum.{◌!◌, product_at}
use Rattle.base.specs.List.{build}
use Rattle.family.specs.Link.{mu_eta}
use Rattle.family.specs.Family.{variance_of}
use Rattle.family_lists.specs.Lists.{weight_at}
use Rattle.linear.specs.Product.{xw_at}
use Rattle.family.specs.declared.carried.CarriedFamily.{CarriedFamily}
use Rattle.family.specs.declared.carried.CarriedLink.{CarriedLink}
use Rattle.rule.specs.Given.{Design, Given, n_of, less_offset}

-- w: ((wt·me)·me) / (max (phi, E)·max (variance, E)), at least E; me is the derivative as it is
unfoldable pub working_weight : Float → Float → Float → Float → Float
working_weight phi wt me v = max_f (((wt ⊗ me) ⊗ me) ⊘ (max_f phi eps_f ⊗ max_f v eps_f)) eps_f

-- w of observation i
unfoldable pub working_weight_at : CarriedFamily → CarriedLink → List Float → Float → List Float → List Float → ℕ → Float
working_weight_at family link weights phi eta mu i =
    working_weight phi (weight_at weights i) (mu_eta link (eta ! i)) (variance_of family (mu ! i))

-- E with the sign of the derivative
abbrev pub tiny : Bool → Float
tiny true = neg eps_f
tiny false = eps_f

-- what z divides by: the derivative, or E with its sign where it is smaller than E
unfoldable pub divisor : Float → Float
divisor me = cond (lt (abs_f me) eps_f) (tiny (negative me)) me

-- z: eta + (y - mu) / derivative
unfoldable pub working_response : Float → Float → Float → Float → Float
working_response eta y mu me = eta ⊕ ((y ⊖ mu) ⊘ divisor me)

-- z of observation i
unfoldable pub working_response_at : CarriedLink → List Float → List Float → List Float → ℕ → Float
working_response_at link y eta mu i = working_response (eta ! i) (y ! i) (mu ! i) (mu_eta link (eta ! i))

-- w of every observation
unfoldable pub working_weights : Given → Float → List Float → List Float → List Float
working_weights G phi eta mu = build (working_weight_at G.family G.link G.weights phi eta mu) (n_of G)

-- z of every observation
unfoldable pub working_responses : Given → List Float → List Float → List Float
working_responses G eta mu = build (working_response_at G.link G.y eta mu) (n_of G)

-- what X and Z are fitted to: z less the offset
unfoldable pub target_at : List Float → List Float → ℕ → Float
target_at offset z i = less_offset offset i (z ! i)

-- of every observation
unfoldable pub targets : Design → List Float → List Float
targets D z = build (target_at D.offset z) D.n

-- w·(z - offset)
unfoldable pub weighted_targets : Design → List Float → List Float → List Float
weighted_targets D w t = build (product_at w t) D.n

-- column a of X times w
unfoldable pub weighted_column : Design → List Float → ℕ → List Float
weighted_column D w a = build (xw_at D.x D.p w a) D.n
