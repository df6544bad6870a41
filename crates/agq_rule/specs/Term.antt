-- The log term of a point. Document 01, "The inner fit", on stopping; `agq_deviance`, `agq_deviance_joint` and `linear_predictor_from_u` of the Rust. Assumes nothing.
use Rattle.std.specs.Prelude.{List, Bool, true, ℕ, ◌+◌, Float}
use Rattle.std.specs.Float.Ieee.{neg}
use Rattle.base.specs.Number.{◌⊕◌, ◌⊖◌, ◌⊗◌, ◌⊘◌, one_f, half_f, eps_f, max_f}
use Rattle.base.specs.Sum.{◌!◌, sum_to, sum_where, any_to, dot_of}
use Rattle.base.specs.List.{build, fill_at}
use Rattle.base.specs.Sparse.{Sparse, stored}
use Rattle.elementary.specs.Log.{ln_of}
use Rattle.spread.specs.Spread.{spread_at}
use Rattle.quadrature.specs.Rules.{nodes_of, weights_of}
use Rattle.quadrature.specs.declared.orders.Order.{Order}
use Rattle.rule.specs.Given.{Given, q_of, n_of}
use Rattle.rule.specs.Solve.{b_of, raw_of}
use Rattle.rule.specs.Try.{mean_at}
use Rattle.rule.specs.Stop.{Mode, deviances_of}
use Rattle.agq_rule.specs.Point.{point_of, log_weight_of}

-- ---- what every point has

-- the means at a predictor
unfoldable pub means_at : Given → List Float → List Float
means_at G eta = build (mean_at G.link eta) (n_of G)

-- the deviance of every response at β and the effects u
unfoldable pub effects_deviances : Given → List Float → List Float → List Float
effects_deviances G beta u = deviances_of G (means_at G (raw_of G.design beta (b_of G.design u)))

-- deviance at the point less deviance at the mode
unfoldable pub gain_at : List Float → List Float → ℕ → Float
gain_at new old i = (new ! i) ⊖ (old ! i)

-- dd: their sum over the observations that the test picks, ascending, each once
unfoldable pub gain_of : ℕ → (ℕ → Bool) → List Float → List Float → Float
gain_of n t new old = sum_where n t (gain_at new old)

-- inv_phi: 1 / max (phi, E)
unfoldable pub inverse_phi : Float → Float
inverse_phi phi = one_f ⊘ max_f phi eps_f

-- delta: ((-½·dd)·inv_phi) - (½·pen)
unfoldable pub delta_of : Float → Float → Float → Float
delta_of inv dd pen = ((neg half_f ⊗ dd) ⊗ inv) ⊖ (half_f ⊗ pen)

-- t² - û² of effect i
unfoldable pub penalty_at : List Float → List Float → ℕ → Float
penalty_at t u i = ((t ! i) ⊗ (t ! i)) ⊖ ((u ! i) ⊗ (u ! i))

-- observation i belongs to the k effects from s on: one of their rows stores it
unfoldable pub belongs : Sparse → ℕ → ℕ → ℕ → Bool
belongs Z s k i = any_to k (λ r. stored Z (s + r) i)

-- the log term of a point with the effects t: log weight + delta
unfoldable pub term_of : Given → Mode → Float → (ℕ → Bool) → List Float → Float → Float → Float
term_of G M phi test t logWeight pen = logWeight ⊕ delta_of (inverse_phi phi) (gain_of (n_of G) test (effects_deviances G M.beta t) M.devs) pen

-- ---- one effect a group

-- û + sigma·z
unfoldable pub one_moved : Float → Float → Float → Float
one_moved sigma z u = u ⊕ (sigma ⊗ z)

-- the effects at point t of group g: its own moved
unfoldable pub one_trial : Order → ℕ → Float → List Float → ℕ → List Float
one_trial o g sigma u t = fill_at g 1 (λ _. one_moved sigma (nodes_of o ! t) (u ! g)) u

-- the log term of a point with the effects `trial`: ln w and t² - û² stand alone, without a sum from +0.0
unfoldable pub one_term_at : Given → Mode → Float → Order → ℕ → ℕ → List Float → Float
one_term_at G M phi o g t trial =
    term_of G M phi (belongs G.design.zt g 1) trial (ln_of (weights_of o ! t)) (penalty_at trial M.u g)

-- the log term of point t of group g
unfoldable pub one_term : Given → Mode → Float → Order → ℕ → Float → ℕ → Float
one_term G M phi o g sigma t = one_term_at G M phi o g t (one_trial o g sigma M.u t)

-- ---- several effects

-- û + (L z)_i, of effect s + i
unfoldable pub moved_at : ℕ → List Float → List Float → ℕ → List Float → ℕ → Float
moved_at k L z s u i = (u ! (s + i)) ⊕ spread_at k L z i

-- the effects at a point z: the k of them from s on moved
unfoldable pub trial_by : ℕ → ℕ → List Float → List Float → List Float → List Float
trial_by s k L u z = fill_at s k (moved_at k L z s u) u

-- the penalty of a group: the sum of t² - û² over its effects
unfoldable pub group_penalty : ℕ → ℕ → List Float → List Float → Float
group_penalty s k t u = sum_to k (λ i. penalty_at t u (s + i))

-- the log term of a point of a group, with the effects `trial`
unfoldable pub group_term_at : Given → Mode → Float → Order → ℕ → ℕ → ℕ → List Float → Float
group_term_at G M phi o s k t trial =
    term_of G M phi (belongs G.design.zt s k) trial (log_weight_of o k t) (group_penalty s k trial M.u)

-- the log term of point t of the group whose k effects begin at s
unfoldable pub group_term : Given → Mode → Float → Order → ℕ → ℕ → List Float → ℕ → Float
group_term G M phi o s k L t = group_term_at G M phi o s k t (trial_by s k L M.u (point_of o k t))

-- ---- all effects at once

-- every observation
abbrev pub every_one : ℕ → Bool
every_one i = true

-- the penalty of all effects: Σt² - Σû²
unfoldable pub joint_penalty : ℕ → List Float → List Float → Float
joint_penalty q t u = dot_of q t t ⊖ dot_of q u u

-- the log term of a point of the joint rule, with the effects `trial`
unfoldable pub joint_term_at : Given → Mode → Float → Order → ℕ → List Float → Float
joint_term_at G M phi o t trial =
    term_of G M phi every_one trial (log_weight_of o (q_of G.design) t) (joint_penalty (q_of G.design) trial M.u)

-- the log term of point t of the joint rule
unfoldable pub joint_term : Given → Mode → Float → Order → List Float → ℕ → Float
joint_term G M phi o L t = joint_term_at G M phi o t (trial_by 0 (q_of G.design) L M.u (point_of o (q_of G.design) t))
