-- The log term at a node, from the work slices, is that of the written rule. Assumes nothing.
use mathlib.Core.Path.{◌≡◌, refl}
use mathlib.Core.List.{List}
use Prim.Native.Nat.{ℕ, ◌+◌, ◌≤◌}
use lib.ListN.{length}
use lib.Ieee.{Float}
use Rattle.base.specs.Sum.{◌!◌}
use Rattle.base.specs.List.{build}
use Rattle.base.specs.Rows.{row, Only}
use Rattle.elementary.specs.Log.{ln_of}
use Rattle.linear.specs.Product.{x_beta_at}
use Rattle.quadrature.specs.Rules.{nodes_of, weights_of}
use Rattle.quadrature.specs.declared.orders.Order.{Order}
use Rattle.rule.specs.Given.{Given, q_of, n_of}
use Rattle.rule.specs.Stop.{Mode}
use Rattle.agq_rule.specs.Term.{inverse_phi, term_of, one_trial, one_term_at, one_term}
use Rattle.points.specs.Gain.{mark_at}
use Rattle.agq.specs.Gained.{gain_in}
use Rattle.agq.specs.One.{one_effects, one_term_in, one_term_at_node}
use Rattle.agq.proofs.OneTurns.{filled_same}
use Rattle.agq.proofs.Ruled.{group_gain}

-- the rows hold Xβ, the deviances at the mode and the marks of group g; entry i of logs is the logarithm of weight i; `before` is û but for the effect of group g
module _ (G : Given) (M : Mode) (phi : Float) (o : Order) (g : ℕ) (sigma : Float) (i xbeta : ℕ) (r before nodes logs : List Float)
    (mark : row (xbeta + n_of G + n_of G + n_of G) (n_of G) r ≡ build (mark_at G.design.zt g 1) (n_of G))
    (fixed : row xbeta (n_of G) r ≡ build (x_beta_at G.design.x G.design.p M.beta) (n_of G))
    (devs : row (xbeta + n_of G) (n_of G) r ≡ M.devs)
    (kept : Only g 1 M.u before) (within : g + 1 ≤ length M.u)
    (node : nodes ! i ≡ nodes_of o ! i) (log : logs ! i ≡ ln_of (weights_of o ! i)) where
  same_trial : one_effects g sigma (nodes ! i) M.u before ≡ one_trial o g sigma M.u i
  unfolding one_effects one_trial
  same_trial = rw node (filled_same g 1 _ M.u before within kept)

  pub one_ruled : one_term_at_node G.family G.link G.design.shape G.design.theta G.design.zt G.y G.weights G.design.offset (n_of G) (q_of G.design) xbeta g sigma (inverse_phi phi) M.u r before nodes logs i ≡ one_term G M phi o g sigma i
  unfolding one_term_at_node one_term_in gain_in one_term one_term_at term_of
  one_ruled =
      rw (same_trial, log, mark, fixed, devs, group_gain G M.beta (one_trial o g sigma M.u i) M.devs g 1)
      refl
