-- Each substitution solves its triangular equations, entry by entry, and looks at the lower triangle only. Assumes nothing.
use mathlib.Core.Path.{◌≡◌, refl, ap, ◌∙◌}
use mathlib.Core.List.{List}
use Prim.Native.Nat.{ℕ, zero, suc, ◌+◌, ◌-◌, ◌<◌, ◌≤◌}
use native.Mathlib.Omega.{arith}
use lib.ListN.{length}
use lib.Ieee.{Float}
use Rattle.base.specs.Number.{◌⊖◌, ◌⊘◌}
use Rattle.base.specs.Sum.{◌!◌}
use Rattle.base.specs.List.{at}
use Rattle.base.specs.InPlace.{Rule, ruled, fill_by, fill_down, Causal, CausalDown, Follows, FollowsDown}
use Rattle.base.proofs.Sums.{sum_cong, from_cong}
use Rattle.base.proofs.InPlace.{by_follows, down_follows}
use Rattle.factor.specs.Triangle.{SameBelow}
use Rattle.factor.specs.Substitution.{across_term, down_term, unit_forward_rule, unit_backward_rule, over_d_rule, forward_rule, backward_rule, unit_forward, over_d, unit_backward, forward, backward, ldl_solve, cholesky_solve}
use Rattle.factor.specs.Inverse.{ldl_column, ldl_inverse_at, cholesky_column, cholesky_column_at}
use Rattle.factor.specs.Textbook.{SolvesUnit, SolvesUnitBack, Divides, Solves, SolvesBack}

-- ---- the rules look at entries before, or behind, their own
unit_forward_causal : (s : ℕ) (L : List Float) → Causal (unit_forward_rule s L)
unfolding unit_forward_rule across_term
unit_forward_causal s L t x y o h = ap (λ (z : Float). o ⊖ z) (sum_cong t _ _ (λ k l. rw (h k l) refl))

forward_causal : (s : ℕ) (L : List Float) → Causal (forward_rule s L)
unfolding forward_rule
forward_causal s L t x y o h = ap (λ (z : Float). z ⊘ at s L t t) (unit_forward_causal s L t x y o h)

over_d_causal : (s : ℕ) (L : List Float) → Causal (over_d_rule s L)
unfolding over_d_rule
over_d_causal s L t x y o h = refl

unit_backward_causal : (s : ℕ) (L : List Float) → CausalDown s (unit_backward_rule s L)
unfolding unit_backward_rule down_term
unit_backward_causal s L t x y o h = ap (λ (z : Float). o ⊖ z) (from_cong (t + 1) s _ _ (λ k l m. rw (h k (omega arith) m) refl))

backward_causal : (s : ℕ) (L : List Float) → CausalDown s (backward_rule s L)
unfolding backward_rule
backward_causal s L t x y o h = ap (λ (z : Float). z ⊘ at s L t t) (unit_backward_causal s L t x y o h)

-- ---- the equations
all_down : (g : Rule) (s : ℕ) (b : List Float) → CausalDown s g → s ≤ length b → FollowsDown g s 0 b (fill_down g s s b)
all_down g s b ca h =
    let z : s - s ≡ 0 = omega arith in
    let f : FollowsDown g s (s - s) b (fill_down g s s b) = down_follows g s s b ca (omega arith) h in
    rw z at f

module _ (s : ℕ) (L b : List Float) (h : s ≤ length b) where
  pub unit_forward_solves : SolvesUnit s L b (unit_forward s L b)
  unfolding unit_forward unit_forward_rule across_term
  unit_forward_solves = let f : Follows (unit_forward_rule s L) s b (unit_forward s L b) = by_follows (unit_forward_rule s L) s b (unit_forward_causal s L) h in record { each = f.done; rest = f.rest }

  pub forward_solves : Solves s L b (forward s L b)
  unfolding forward forward_rule unit_forward_rule across_term
  forward_solves = let f : Follows (forward_rule s L) s b (forward s L b) = by_follows (forward_rule s L) s b (forward_causal s L) h in record { each = f.done; rest = f.rest }

  pub over_d_divides : Divides s L b (over_d s L b)
  unfolding over_d over_d_rule
  over_d_divides = let f : Follows (over_d_rule s L) s b (over_d s L b) = by_follows (over_d_rule s L) s b (over_d_causal s L) h in record { each = f.done; rest = f.rest }

  pub unit_backward_solves : SolvesUnitBack s L b (unit_backward s L b)
  unfolding unit_backward unit_backward_rule down_term
  unit_backward_solves = let f : FollowsDown (unit_backward_rule s L) s 0 b (unit_backward s L b) = all_down (unit_backward_rule s L) s b (unit_backward_causal s L) h in record { each = λ i l. f.done i (omega arith) l; rest = f.after }

  pub backward_solves : SolvesBack s L b (backward s L b)
  unfolding backward backward_rule unit_backward_rule down_term
  backward_solves = let f : FollowsDown (backward_rule s L) s 0 b (backward s L b) = all_down (backward_rule s L) s b (backward_causal s L) h in record { each = λ i l. f.done i (omega arith) l; rest = f.after }

-- ---- rules that agree fill alike
by_cong : (g k : Rule) (n : ℕ) (b : List Float) → ((t : ℕ) → t < n → (x : ℕ → Float) (o : Float) → g t x o ≡ k t x o) → fill_by g n b ≡ fill_by k n b
unfolding fill_by ruled
by_cong g k zero b h = refl
by_cong g k (suc n) b h = rw (by_cong g k n b (λ t l. h t (omega arith)), h n (omega arith) (λ p. fill_by k n b ! p) (fill_by k n b ! n)) refl

down_cong : (g k : Rule) (n c : ℕ) (b : List Float) → c ≤ n → ((t : ℕ) → t < n → (x : ℕ → Float) (o : Float) → g t x o ≡ k t x o) → fill_down g n c b ≡ fill_down k n c b
unfolding fill_down ruled
down_cong g k n zero b l h = refl
down_cong g k n (suc c) b l h =
    rw (down_cong g k n c b (omega arith) h, h (n - suc c) (omega arith) (λ p. fill_down k n c b ! p) (fill_down k n c b ! (n - suc c))) refl

-- ---- the solutions for two factors with the same lower triangle
module _ (s : ℕ) (F G : List Float) (same : SameBelow s F G) where
  unit_forward_rule_same : (t : ℕ) → t < s → (x : ℕ → Float) (o : Float) → unit_forward_rule s F t x o ≡ unit_forward_rule s G t x o
  unfolding unit_forward_rule across_term
  unit_forward_rule_same t l x o = ap (λ (z : Float). o ⊖ z) (sum_cong t _ _ (λ k m. rw (same t k l (omega arith)) refl))

  unit_backward_rule_same : (t : ℕ) → t < s → (x : ℕ → Float) (o : Float) → unit_backward_rule s F t x o ≡ unit_backward_rule s G t x o
  unfolding unit_backward_rule down_term
  unit_backward_rule_same t l x o = ap (λ (z : Float). o ⊖ z) (from_cong (t + 1) s _ _ (λ k m n. rw (same k t n (omega arith)) refl))

  pub forward_same : (b : List Float) → forward s F b ≡ forward s G b
  unfolding forward forward_rule
  forward_same b = by_cong (forward_rule s F) (forward_rule s G) s b (λ t l x o. rw (unit_forward_rule_same t l x o, same t t l (omega arith)) refl)

  pub backward_same : (b : List Float) → backward s F b ≡ backward s G b
  unfolding backward backward_rule
  backward_same b = down_cong (backward_rule s F) (backward_rule s G) s s b (omega arith) (λ t l x o. rw (unit_backward_rule_same t l x o, same t t l (omega arith)) refl)

  pub ldl_solve_same : (b : List Float) → ldl_solve s F b ≡ ldl_solve s G b
  unfolding ldl_solve unit_forward over_d unit_backward over_d_rule
  ldl_solve_same b =
      down_cong (unit_backward_rule s F) (unit_backward_rule s G) s s _ (omega arith) unit_backward_rule_same
      ∙ ap (fill_down (unit_backward_rule s G) s s)
      (by_cong (over_d_rule s F) (over_d_rule s G) s _ (λ t l x o. rw (same t t l (omega arith)) refl)
      ∙ ap (fill_by (over_d_rule s G) s) (by_cong (unit_forward_rule s F) (unit_forward_rule s G) s b unit_forward_rule_same))

  pub cholesky_solve_same : (b : List Float) → cholesky_solve s F b ≡ cholesky_solve s G b
  unfolding cholesky_solve
  cholesky_solve_same b = rw (forward_same b) (backward_same (forward s G b))

  pub ldl_inverse_same : (i c : ℕ) → ldl_inverse_at s F i c ≡ ldl_inverse_at s G i c
  unfolding ldl_inverse_at ldl_column
  ldl_inverse_same i c = ap (λ (w : List Float). w ! i) (ldl_solve_same _)

  pub cholesky_inverse_same : (c i : ℕ) → cholesky_column_at s F c i ≡ cholesky_column_at s G c i
  unfolding cholesky_column_at cholesky_column
  cholesky_inverse_same c i = ap (λ (w : List Float). w ! i) (forward_same _)
