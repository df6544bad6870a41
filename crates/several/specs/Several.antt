-- The log term of a point with several effects, as the work slices hold what it is made of. Assumes nothing.
use Rattle.std.specs.Prelude.{◌≡◌, true, List, ℕ, ◌+◌, ◌*◌, ◌≤◌, length, Float}
use Rattle.base.specs.Number.{◌⊕◌, ◌⊖◌}
use Rattle.base.specs.Sum.{sum_to, all_to, finite_at, dot_of}
use Rattle.base.specs.List.{build, fill_to, fill_at}
use Rattle.base.specs.Rows.{row, Only}
use Rattle.agq_rule.specs.Point.{digit_entry}
use Rattle.agq_rule.specs.Term.{delta_of, moved_at, group_penalty}

-- the places and sizes that the points ask for: the k effects from s on are among the q; L at l, û at u, then the effects at a point, Λ times them and its nodes
pub record Grid (q s k size l u trial : ℕ) (nodes m : List Float) : Type 0 where
  pub within : s + k ≤ q
  pub factor : l + k * k ≤ u
  pub hats : u + q ≤ trial
  pub in_m : trial + q + q + q ≤ length m
  pub some : 1 ≤ size
  pub in_nodes : size ≤ length nodes
  pub finite_nodes : all_to size (finite_at nodes) ≡ true

-- ---- what every point has

-- the nodes of a point in k dimensions
unfoldable pub nodes_at : List Float → ℕ → ℕ → ℕ → List Float
nodes_at nodes size k point = build (digit_entry nodes size point) k

-- its log weight, from the logarithms of the weights
unfoldable pub log_weight_in : List Float → ℕ → ℕ → ℕ → Float
log_weight_in logs size k point = sum_to k (digit_entry logs size point)

-- the effects `before` with the k of them from s on moved by L z from û
unfoldable pub moved_effects : ℕ → ℕ → List Float → List Float → List Float → List Float → List Float
moved_effects s k L z u before = fill_at s k (moved_at k L z s u) before

-- what `trial_gain` answers and leaves: dd of the effects t, which stand in their places; nothing else changed but Λ times them, the nodes behind, and the row of Zb
pub record TrialIn (gain : List Float → Float) (t : List Float) (n q xbeta trial : ℕ) (r r' m m' : List Float) (dd : Float) : Type 0 where
  pub gained : dd ≡ gain t
  pub effects : row trial q m' ≡ t
  pub in_m : Only trial (q + q + q) m m'
  pub in_r : Only (xbeta + n + n) n r r'

-- what a point answers and leaves: its log term, and its effects t in their places; nothing else changed but Λ times them, the nodes behind, and the row of Zb
pub record PointIn (term : Float) (t : List Float) (n q xbeta trial : ℕ) (r r' m m' : List Float) (x : Float) : Type 0 where
  pub told : x ≡ term
  pub effects : row trial q m' ≡ t
  pub in_m : Only trial (q + q + q) m m'
  pub in_r : Only (xbeta + n + n) n r r'

-- what the points' log terms f leave: they stand at the front of t, and nothing else changed but the places of a point
pub record TermsIn (f : ℕ → Float) (n q xbeta trial count : ℕ) (r r' m m' t t' : List Float) : Type 0 where
  pub terms : t' ≡ fill_to count f t
  pub in_m : Only trial (q + q + q) m m'
  pub in_r : Only (xbeta + n + n) n r r'

-- ---- a group of k effects from s on

-- the effects at a point
unfoldable pub group_effects : ℕ → ℕ → List Float → ℕ → List Float → List Float → List Float → ℕ → List Float
group_effects s k nodes size L u before point = moved_effects s k L (nodes_at nodes size k point) u before

-- the log term with the effects t
unfoldable pub group_term_with : (List Float → Float) → ℕ → ℕ → Float → Float → List Float → List Float → Float
group_term_with gain s k logWeight inv u t = logWeight ⊕ delta_of inv (gain t) (group_penalty s k t u)

-- the log term of a point
unfoldable pub group_term_in : (List Float → Float) → ℕ → ℕ → Float → List Float → List Float → ℕ → List Float → List Float → List Float → ℕ → Float
group_term_in gain s k inv nodes logs size L u before point =
    group_term_with gain s k (log_weight_in logs size k point) inv u (group_effects s k nodes size L u before point)

-- ---- all q effects at once

-- the effects at a point
unfoldable pub joint_effects : ℕ → List Float → ℕ → List Float → List Float → ℕ → List Float
joint_effects q nodes size L u point = build (moved_at q L (nodes_at nodes size q point) 0 u) q

-- the log term with the effects t, Σû² being hats
unfoldable pub joint_term_with : (List Float → Float) → ℕ → Float → Float → Float → List Float → Float
joint_term_with gain q logWeight inv hats t = logWeight ⊕ delta_of inv (gain t) (dot_of q t t ⊖ hats)

-- the log term of a point
unfoldable pub joint_term_in : (List Float → Float) → ℕ → Float → List Float → List Float → ℕ → List Float → List Float → ℕ → Float
joint_term_in gain q inv nodes logs size L u point =
    joint_term_with gain q (log_weight_in logs size q point) inv (dot_of q u u) (joint_effects q nodes size L u point)
