-- dd from the work slices is dd of the written rule: only the means and deviances that enter its sum are formed, and they are the rule's. Assumes nothing.
use mathlib.Core.Path.{◌≡◌, refl, ◌∙◌}
use mathlib.Core.List.{List}
use mathlib.Core.Bool.{Bool, true, false, cond}
use Prim.Native.Nat.{ℕ, ◌<◌}
use lib.Ieee.{Float, lt, of_bits}
use Rattle.base.specs.Number.{◌⊕◌, zero_f, one_f}
use Rattle.base.specs.Sum.{◌!◌}
use Rattle.base.specs.List.{build}
use Rattle.base.specs.Sparse.{Sparse}
use Rattle.base.proofs.Sums.{where_cong}
use Rattle.base.proofs.Fills.{build_at}
use Rattle.family_lists.specs.Lists.{dev_resid_at}
use Rattle.linear.specs.Product.{x_beta_at}
use Rattle.rule.specs.Given.{Given, q_of, n_of, plus_offset}
use Rattle.rule.specs.Solve.{b_of, z_times, raw_at, raw_of}
use Rattle.rule.specs.Try.{mean_at}
use Rattle.rule.specs.Stop.{deviances_of}
use Rattle.agq_rule.specs.Term.{means_at, effects_deviances, gain_at, gain_of, belongs, every_one}
use Rattle.points.specs.Gain.{one_at, mark_at, marked, mean_over, entered}
use Rattle.agq.specs.Gained.{effects_at, predicted_at, gain_from}

-- ---- marks
mark_test : (b : Bool) → lt zero_f (cond b one_f zero_f) ≡ b
unfolding lt of_bits
mark_test true = refl
mark_test false = refl

pub marked_group : (Z : Sparse) (s k n i : ℕ) → i < n → marked (build (mark_at Z s k) n) i ≡ belongs Z s k i
unfolding marked mark_at
marked_group Z s k n i l = rw (build_at (mark_at Z s k) n i l) (mark_test (belongs Z s k i))

pub marked_every : (n i : ℕ) → i < n → marked (build one_at n) i ≡ every_one i
unfolding marked
marked_every n i l = rw (build_at one_at n i l) (mark_test true)

-- ---- an observation
module _ (G : Given) (beta u devs : List Float) where
  abbrev xb : List Float
  xb = build (x_beta_at G.design.x G.design.p beta) (n_of G)

  abbrev zb : List Float
  zb = predicted_at G.design.shape G.design.theta G.design.zt (n_of G) (q_of G.design) u

  same_zb : z_times G.design (b_of G.design u) ≡ zb
  unfolding z_times b_of predicted_at effects_at
  same_zb = refl

  eta_at : (i : ℕ) → i < n_of G → raw_of G.design beta (b_of G.design u) ! i ≡ plus_offset G.design.offset i ((xb ! i) ⊕ (zb ! i))
  unfolding raw_of raw_at
  eta_at i l =
      build_at (raw_at G.design.offset G.design.x G.design.p beta (z_times G.design (b_of G.design u))) (n_of G) i l
      ∙ rw (build_at (x_beta_at G.design.x G.design.p beta) (n_of G) i l, same_zb) refl

  -- at a marked observation
  entered_at : (marks : List Float) (i : ℕ) → i < n_of G → marked marks i ≡ true
      → entered G.family G.y G.weights (build (mean_over G.link G.design.offset xb zb marks) (n_of G)) devs i ≡ gain_at (effects_deviances G beta u) devs i
  unfolding entered mean_over gain_at effects_deviances deviances_of dev_resid_at means_at mean_at
  entered_at marks i l t =
      rw (build_at (dev_resid_at G.family G.y (means_at G (raw_of G.design beta (b_of G.design u))) G.weights) (n_of G) i l, build_at (mean_at G.link (raw_of G.design beta (b_of G.design u))) (n_of G) i l, eta_at i l, build_at (mean_over G.link G.design.offset xb zb marks) (n_of G) i l, t)
      refl

  -- ---- of a group, and of all
  pub group_gain : (s k : ℕ) → gain_from G.family G.link G.y G.weights G.design.offset (n_of G) (build (mark_at G.design.zt s k) (n_of G)) xb zb devs ≡ gain_of (n_of G) (belongs G.design.zt s k) (effects_deviances G beta u) devs
  unfolding gain_from gain_of
  group_gain s k = where_cong (n_of G) _ _ _ _ (λ i l. marked_group G.design.zt s k (n_of G) i l) (λ i l t. entered_at (build (mark_at G.design.zt s k) (n_of G)) i l t)

  pub joint_gain : gain_from G.family G.link G.y G.weights G.design.offset (n_of G) (build one_at (n_of G)) xb zb devs ≡ gain_of (n_of G) every_one (effects_deviances G beta u) devs
  unfolding gain_from gain_of
  joint_gain = where_cong (n_of G) _ _ _ _ (λ i l. marked_every (n_of G) i l) (λ i l t. entered_at (build one_at (n_of G)) i l t)
