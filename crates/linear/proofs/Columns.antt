-- Laws of products with X and with the solved columns: an entry of X'WX and of u. Assumes nothing.
use mathlib.Core.Path.{◌≡◌, ap, ◌∙◌}
use mathlib.Core.List.{List}
use Prim.Native.Nat.{ℕ}
use lib.Ieee.{Float}
use Rattle.base.specs.Number.{◌⊖◌, ◌⊗◌}
use Rattle.base.specs.Sum.{◌!◌, sum_to}
use Rattle.base.specs.List.{at}
use Rattle.base.proofs.Commutes.{times_commutes}
use Rattle.base.proofs.Sums.{sum_cong}
use Rattle.base.proofs.Fills.{build_at}
use Rattle.linear.specs.Product.{xw_at, column_dot, cross_at, solved_term, effect_at}

-- entry (a, b) of X'WX is the sum of (x_a·w)·x_b
pub cross_entry : (x w : List Float) (n p a b : ℕ) → cross_at x p n w a b ≡ sum_to n (λ i. (at p x i a ⊗ (w ! i)) ⊗ at p x i b)
unfolding cross_at
cross_entry x w n p a b = sum_cong n _ _ (λ i l. ap (λ (y : Float). y ⊗ at p x i b) (build_at (xw_at x p w a) n i l))

-- β times row i of the solved columns is what u_i has less
pub effect_entry : (wy W : List Float) (q p : ℕ) (beta : List Float) (i : ℕ) (s : Float) → s ≡ column_dot W q p beta i → (wy ! i) ⊖ s ≡ effect_at wy W q p beta i
unfolding effect_at
effect_entry wy W q p beta i s e = ap (λ (y : Float). (wy ! i) ⊖ y) (e ∙ sum_cong p _ (solved_term W q beta i) (λ j l. times_commutes (beta ! j) (at q W j i)))
