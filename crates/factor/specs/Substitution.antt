-- Substitution with a factor L of size s, over a right side. Document 01, "The inner fit".
-- Of L only the lower triangle is read; LDL' has d on its diagonal and 1 for its own. Assumes nothing.
use Rattle.std.specs.Prelude.{List, ℕ, ◌+◌, Float}
use Rattle.base.specs.Number.{◌⊖◌, ◌⊗◌, ◌⊘◌}
use Rattle.base.specs.Sum.{sum_to, sum_from}
use Rattle.base.specs.List.{at}
use Rattle.base.specs.InPlace.{Rule, fill_by, fill_down}

-- l_ik · x_k
unfoldable pub across_term : ℕ → List Float → ℕ → (ℕ → Float) → ℕ → Float
across_term s L i x k = at s L i k ⊗ x k

-- l_ki · x_k
unfoldable pub down_term : ℕ → List Float → ℕ → (ℕ → Float) → ℕ → Float
down_term s L i x k = at s L k i ⊗ x k

-- x_i of L x = b, the diagonal being 1: the right side less the sum over the entries before it
unfoldable pub unit_forward_rule : ℕ → List Float → Rule
unit_forward_rule s L i x b = b ⊖ sum_to i (across_term s L i x)

-- x_i of L' x = b, the diagonal being 1: the right side less the sum over the entries behind it
unfoldable pub unit_backward_rule : ℕ → List Float → Rule
unit_backward_rule s L i x b = b ⊖ sum_from (i + 1) s (down_term s L i x)

-- b_i divided by its d
unfoldable pub over_d_rule : ℕ → List Float → Rule
over_d_rule s L i x b = b ⊘ at s L i i

-- x_i of L x = b, then divided by the diagonal
unfoldable pub forward_rule : ℕ → List Float → Rule
forward_rule s L i x b = unit_forward_rule s L i x b ⊘ at s L i i

-- x_i of L' x = b, then divided by the diagonal
unfoldable pub backward_rule : ℕ → List Float → Rule
backward_rule s L i x b = unit_backward_rule s L i x b ⊘ at s L i i

-- ---- over a right side b

-- the solution of L x = b, the diagonal being 1
unfoldable pub unit_forward : ℕ → List Float → List Float → List Float
unit_forward s L b = fill_by (unit_forward_rule s L) s b

-- each entry divided by its d
unfoldable pub over_d : ℕ → List Float → List Float → List Float
over_d s L b = fill_by (over_d_rule s L) s b

-- the solution of L' x = b, the diagonal being 1
unfoldable pub unit_backward : ℕ → List Float → List Float → List Float
unit_backward s L b = fill_down (unit_backward_rule s L) s s b

-- the solution of L x = b
unfoldable pub forward : ℕ → List Float → List Float → List Float
forward s L b = fill_by (forward_rule s L) s b

-- the solution of L' x = b
unfoldable pub backward : ℕ → List Float → List Float → List Float
backward s L b = fill_down (backward_rule s L) s s b

-- solving with LDL': L forwards, each entry divided by its d, L' backwards
unfoldable pub ldl_solve : ℕ → List Float → List Float → List Float
ldl_solve s L b = unit_backward s L (over_d s L (unit_forward s L b))

-- solving with the Cholesky factor: L forwards, L' backwards
unfoldable pub cholesky_solve : ℕ → List Float → List Float → List Float
cholesky_solve s L b = backward s L (forward s L b)
