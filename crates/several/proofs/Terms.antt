-- The log term of a point from dd of its effects, the penalty and the log weight; the two rules differ in the penalty. Assumes nothing.
use mathlib.Core.Path.{◌≡◌, refl, sym, ◌∙◌}
use mathlib.Core.Logic.{inl}
use mathlib.Core.List.{List}
use Prim.Native.Nat.{ℕ, ◌+◌, ◌*◌, ◌≤◌}
use native.Mathlib.Omega.{arith}
use lib.ListN.{length}
use lib.Ieee.{Float}
use Rattle.base.specs.Number.{◌⊕◌, ◌⊖◌}
use Rattle.base.specs.Sum.{sum_to, dot_of}
use Rattle.base.specs.List.{build, fill_at}
use Rattle.base.specs.Rows.{row}
use Rattle.base.proofs.Sums.{sum_cong}
use Rattle.base.proofs.Fills.{length_fillat}
use Rattle.base.proofs.Rows.{row_length, row_whole, only_row, fillat_wrote}
use Rattle.agq_rule.specs.Point.{digit_entry}
use Rattle.agq_rule.specs.Term.{delta_of, penalty_at, moved_at, group_penalty}
use Rattle.several.specs.Several.{Grid, nodes_at, log_weight_in, moved_effects, TrialIn, PointIn, group_effects, group_term_with, group_term_in, joint_effects, joint_term_with}
use Rattle.several.proofs.Trials.{stretch_at}

-- a list filled from its first place to its last is built
pub whole_filled : (n : ℕ) (f : ℕ → Float) (b : List Float) → length b ≡ n → fill_at 0 n f b ≡ build f n
whole_filled n f b e =
    sym (row_whole n (fill_at 0 n f b) (length_fillat 0 n f b ∙ e))
    ∙ (fillat_wrote 0 n n f b (fill_at 0 n f b) refl (omega arith) (omega arith) (omega (arith, e))).row'

-- the penalty of a group, its effects and their û being stretches of two rows
penalty_of_rows : (t u q s k : ℕ) (v : List Float) → s + k ≤ q → t + q ≤ length v → u + q ≤ length v → sum_to k (penalty_at (row (t + s) k v) (row (u + s) k v)) ≡ group_penalty s k (row t q v) (row u q v)
unfolding group_penalty penalty_at
penalty_of_rows t u q s k v l ht hu =
    sum_cong k (penalty_at (row (t + s) k v) (row (u + s) k v)) (λ i. penalty_at (row t q v) (row u q v) (s + i))
    (λ i h. rw (stretch_at t q s k v l ht i h, stretch_at u q s k v l hu i h) refl)

module _ (gain : List Float → Float) (n q xbeta s k size l u trial point : ℕ) (nodes logs : List Float) (inv : Float) (r r' m m' : List Float) (g : Grid q s k size l u trial nodes m) (dd : Float)
    (p : TrialIn gain (group_effects s k nodes size (row l (k * k) m) (row u q m) (row trial q m) point) n q xbeta trial r r' m m' dd) where
  abbrev T : List Float
  T = group_effects s k nodes size (row l (k * k) m) (row u q m) (row trial q m) point

  same_u : row u q m' ≡ row u q m
  same_u = only_row u q trial (q + q + q) (inl g.hats) (omega (arith, g.hats, g.in_m)) p.in_m

  -- tp and up: the parts of the slice that the penalty is formed from
  pub group_made : (tp up : List Float) (pen lw x : Float) → tp ≡ row (trial + s) k m' → up ≡ row (u + s) k m' → pen ≡ sum_to k (penalty_at tp up) → lw ≡ sum_to k (digit_entry logs size point) → x ≡ delta_of inv dd pen
      → PointIn (group_term_in gain s k inv nodes logs size (row l (k * k) m) (row u q m) (row trial q m) point) T n q xbeta trial r r' m m' (lw ⊕ x)
  unfolding group_term_in group_term_with log_weight_in
  group_made tp up pen lw x et eu e w d =
      let parts : sum_to k (penalty_at tp up) ≡ group_penalty s k (row trial q m') (row u q m') =
      rw (et, eu) (penalty_of_rows trial u q s k m' g.within (omega (arith, g.in_m, p.in_m.len)) (omega (arith, g.hats, g.in_m, p.in_m.len))) in
      let penalty : pen ≡ group_penalty s k T (row u q m) = rw (← p.effects, ← same_u) (e ∙ parts) in
      record { told = rw (d, w, p.gained, penalty) refl; effects = p.effects; in_m = p.in_m; in_r = p.in_r }

module _ (gain : List Float → Float) (n q xbeta size l u trial point : ℕ) (nodes logs : List Float) (inv hats : Float) (r r' m m' : List Float) (g : Grid q 0 q size l u trial nodes m) (dd : Float)
    (p : TrialIn gain (group_effects 0 q nodes size (row l (q * q) m) (row u q m) (row trial q m) point) n q xbeta trial r r' m m' dd) where
  abbrev J : List Float
  J = joint_effects q nodes size (row l (q * q) m) (row u q m) point

  all_moved : group_effects 0 q nodes size (row l (q * q) m) (row u q m) (row trial q m) point ≡ J
  unfolding group_effects moved_effects joint_effects
  all_moved = whole_filled q (moved_at q (row l (q * q) m) (nodes_at nodes size q point) 0 (row u q m)) (row trial q m) (row_length trial q m (omega (arith, g.in_m)))

  pub joint_made : (tp : List Float) (squares lw x : Float) → tp ≡ row trial q m' → squares ≡ dot_of q tp tp → lw ≡ sum_to q (digit_entry logs size point) → x ≡ delta_of inv dd (squares ⊖ hats)
      → PointIn (joint_term_with gain q (log_weight_in logs size q point) inv hats J) J n q xbeta trial r r' m m' (lw ⊕ x)
  unfolding joint_term_with log_weight_in
  joint_made tp squares lw x et e w d =
      let effects' : row trial q m' ≡ J = p.effects ∙ all_moved in
      record { told = rw (d, w, e, et, effects', p.gained, all_moved) refl; effects = effects'; in_m = p.in_m; in_r = p.in_r }
