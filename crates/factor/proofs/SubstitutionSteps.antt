-- One turn of each substitution: the entry that the code writes is the rule's. Assumes nothing.
use mathlib.Core.Path.{◌≡◌, refl}
use mathlib.Core.List.{List}
use Prim.Native.Nat.{ℕ, ◌+◌, ◌-◌, ◌*◌, ◌<◌}
use lib.ListN.{set}
use lib.Ieee.{Float}
use Rattle.base.specs.Number.{◌⊖◌, ◌⊘◌}
use Rattle.base.specs.Sum.{◌!◌, sum_to, sum_from, product_from}
use Rattle.base.specs.InPlace.{ruled, fill_by, fill_down}
use Rattle.base.proofs.InPlace.{by_step, down_step}
use Rattle.factor.specs.Substitution.{across_term, down_term, unit_forward_rule, unit_backward_rule, over_d_rule, forward_rule, backward_rule}
use Rattle.factor.specs.Heads.{Zeros}

module _ (s : ℕ) (L : List Float) (i o : ℕ) (b X : List Float) (eo : o ≡ i * s) where
  pub unit_forward_step : X ≡ fill_by (unit_forward_rule s L) i b → set X i ((X ! i) ⊖ sum_to i (product_from L o X)) ≡ fill_by (unit_forward_rule s L) (i + 1) b
  unfolding unit_forward_rule across_term
  unit_forward_step e = rw eo (by_step (unit_forward_rule s L) i b X e)

  pub forward_step : X ≡ fill_by (forward_rule s L) i b → set X i (((X ! i) ⊖ sum_to i (product_from L o X)) ⊘ (L ! (o + i))) ≡ fill_by (forward_rule s L) (i + 1) b
  unfolding forward_rule unit_forward_rule across_term
  forward_step e = rw eo (by_step (forward_rule s L) i b X e)

  pub over_d_step : X ≡ fill_by (over_d_rule s L) i b → set X i ((X ! i) ⊘ (L ! (o + i))) ≡ fill_by (over_d_rule s L) (i + 1) b
  unfolding over_d_rule
  over_d_step e = rw eo (by_step (over_d_rule s L) i b X e)

  pub backward_step : (j : ℕ) → j ≡ i + 1 → i < s → X ≡ fill_down (backward_rule s L) s (s - j) b
      → set X i (((X ! i) ⊖ sum_from (i + 1) s (down_term s L i (λ k. X ! k))) ⊘ (L ! (o + i))) ≡ fill_down (backward_rule s L) s (s - i) b
  unfolding backward_rule unit_backward_rule
  backward_step j q l e = rw eo (down_step (backward_rule s L) s i b X l (rw q at e))

pub unit_backward_step : (s : ℕ) (L : List Float) (i : ℕ) (b X : List Float) (j : ℕ) → j ≡ i + 1 → i < s → X ≡ fill_down (unit_backward_rule s L) s (s - j) b
    → set X i ((X ! i) ⊖ sum_from (i + 1) s (down_term s L i (λ k. X ! k))) ≡ fill_down (unit_backward_rule s L) s (s - i) b
unfolding unit_backward_rule
unit_backward_step s L i b X j q l e = down_step (unit_backward_rule s L) s i b X l (rw q at e)

-- ---- one entry by itself
module _ (s : ℕ) (L : List Float) (i o : ℕ) (X : List Float) (eo : o ≡ i * s) where
  pub across_products : (r : ℕ) → Zeros 0 r (across_term s L i (λ k. X ! k)) → Zeros 0 r (product_from L o X)
  unfolding across_term
  across_products r h = rw eo h

  pub unit_forward_entry : set X i ((X ! i) ⊖ sum_to i (product_from L o X)) ≡ ruled (unit_forward_rule s L) i X
  unfolding ruled unit_forward_rule across_term
  unit_forward_entry = rw eo refl

pub unit_backward_entry : (s : ℕ) (L : List Float) (i : ℕ) (X : List Float) → set X i ((X ! i) ⊖ sum_from (i + 1) s (down_term s L i (λ k. X ! k))) ≡ ruled (unit_backward_rule s L) i X
unfolding ruled unit_backward_rule
unit_backward_entry s L i X = refl
