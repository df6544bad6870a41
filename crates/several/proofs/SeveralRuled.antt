-- The log term of a point, from the work slices, is that of the written rule. Assumes nothing.
use mathlib.Core.Path.{◌≡◌, refl, sym}
use mathlib.Core.List.{List}
use Prim.Native.Nat.{ℕ, ◌+◌, ◌≤◌}
use lib.ListN.{length}
use lib.Ieee.{Float}
use Rattle.base.specs.List.{build}
use Rattle.base.specs.Rows.{row, Only}
use Rattle.linear.specs.Product.{x_beta_at}
use Rattle.quadrature.specs.Orders.{size_of}
use Rattle.quadrature.specs.Rules.{nodes_of, padded}
use Rattle.quadrature.specs.declared.orders.Order.{Order}
use Rattle.rule.specs.Given.{Given, q_of, n_of}
use Rattle.rule.specs.Stop.{Mode}
use Rattle.agq_rule.specs.Point.{point_of, LogRow}
use Rattle.agq_rule.specs.Term.{inverse_phi, term_of, moved_at, trial_by, group_term_at, group_term, joint_penalty, joint_term_at, joint_term}
use Rattle.points.specs.Gain.{one_at, mark_at}
use Rattle.agq.proofs.OneTurns.{filled_same}
use Rattle.agq.proofs.Ruled.{group_gain, joint_gain}
use Rattle.agq.specs.Gained.{gain_in}
use Rattle.several.specs.Several.{moved_effects, group_effects, group_term_with, group_term_in, joint_effects, joint_term_with, joint_term_in}
use Rattle.several.proofs.Nodes.{nodes_ruled, weight_ruled}
use Rattle.several.proofs.Terms.{whole_filled}

-- the rows hold Xβ and the deviances at the mode; the nodes are those of the order, padded, and logs is the row of its weights
module _ (G : Given) (M : Mode) (phi : Float) (o : Order) (xbeta : ℕ) (r nodes logs : List Float) (size : ℕ)
    (fixed : row xbeta (n_of G) r ≡ build (x_beta_at G.design.x G.design.p M.beta) (n_of G))
    (devs : row (xbeta + n_of G) (n_of G) r ≡ M.devs)
    (node : nodes ≡ padded (nodes_of o)) (log : LogRow o logs) (many : size ≡ size_of o) where
  abbrev gain : List Float → Float
  gain = gain_in G.family G.link G.design.shape G.design.theta G.design.zt G.y G.weights G.design.offset (n_of G) (q_of G.design) xbeta r

  -- `before` is û but for the effects of the group
  group_trial : (s k : ℕ) (L before : List Float) (i : ℕ) → Only s k M.u before → s + k ≤ length M.u → group_effects s k nodes size L M.u before i ≡ trial_by s k L M.u (point_of o k i)
  unfolding group_effects moved_effects trial_by
  group_trial s k L before i kept within = rw (node, many, nodes_ruled o k i) (filled_same s k (moved_at k L (point_of o k i) s M.u) M.u before within kept)

  -- the marks are those of the group; `before` is û but for its effects
  pub group_ruled : (s k : ℕ) (L before : List Float) (i : ℕ)
      → row (xbeta + n_of G + n_of G + n_of G) (n_of G) r ≡ build (mark_at G.design.zt s k) (n_of G)
      → Only s k M.u before → s + k ≤ length M.u
      → group_term_in gain s k (inverse_phi phi) nodes logs size L M.u before i ≡ group_term G M phi o s k L i
  unfolding group_term_in group_term_with gain_in group_term group_term_at term_of
  group_ruled s k L before i mark kept within =
      rw (group_trial s k L before i kept within, many, weight_ruled o logs k i log, mark, fixed, devs, group_gain G M.beta (trial_by s k L M.u (point_of o k i)) M.devs s k)
      refl

  joint_trial : (L : List Float) (i : ℕ) → length M.u ≡ q_of G.design → joint_effects (q_of G.design) nodes size L M.u i ≡ trial_by 0 (q_of G.design) L M.u (point_of o (q_of G.design) i)
  unfolding joint_effects trial_by
  joint_trial L i long = rw (node, many, nodes_ruled o (q_of G.design) i) (sym (whole_filled (q_of G.design) (moved_at (q_of G.design) L (point_of o (q_of G.design) i) 0 M.u) M.u long))

  -- every observation is marked
  pub joint_ruled : (L : List Float) (i : ℕ)
      → row (xbeta + n_of G + n_of G + n_of G) (n_of G) r ≡ build one_at (n_of G)
      → length M.u ≡ q_of G.design
      → joint_term_in gain (q_of G.design) (inverse_phi phi) nodes logs size L M.u i ≡ joint_term G M phi o L i
  unfolding joint_term_in joint_term_with gain_in joint_term joint_term_at joint_penalty term_of
  joint_ruled L i mark long =
      rw (joint_trial L i long, many, weight_ruled o logs (q_of G.design) i log, mark, fixed, devs, joint_gain G M.beta (trial_by 0 (q_of G.design) L M.u (point_of o (q_of G.design) i)) M.devs)
      refl
