-- One answer, one content: each contract of this crate leaves no choice, but for what stands above the diagonal of a factor, or where a pivot failed. Assumes nothing.
use Rattle.std.specs.Prelude.{Result, Ok, ⊤}
use Prim.{tt}
use mathlib.Core.Path.{◌≡◌, refl, sym, ap, ◌∙◌}
use mathlib.Core.List.{List, []}
use mathlib.Core.Logic.{inl, inr, ⊎_elim}
use Prim.Native.Nat.{ℕ, ◌+◌, ◌-◌, ◌*◌, ◌≤◌, ◌<◌}
use native.Mathlib.Omega.{arith}
use lib.ListN.{length}
use lib.Seq.{ext_get_or}
use lib.Ieee.{Float, nan}
use Rattle.base.specs.Sum.{◌!◌}
use Rattle.base.specs.Rows.{row, Out, Only}
use Rattle.base.specs.Sparse.{Sparse}
use Rattle.base.proofs.Unique.{one_value}
use Rattle.base.proofs.Sums.{lt_or_ge}
use Rattle.base.proofs.Rows.{row_at, row_length, wrote_unique}
use Rattle.model.specs.Shape.{effects_of}
use Rattle.model.specs.declared.sizes.Shape.{Shape}
use Rattle.factor.specs.Factor.{cholesky_of}
use Rattle.factor.specs.Substitution.{ldl_solve, cholesky_solve}
use Rattle.factor.specs.Triangle.{SameBelow}
use Rattle.rule.specs.Given.{design_of}
use Rattle.rule.specs.Solve.{system_of, factor_of, side_of}
use Rattle.solve.specs.Ready.{Whatever, IsSide, SolvedSide}
use Rattle.solve.specs.System.{SystemLeaves}
use Rattle.solve.specs.Root.{RootOf, SolvedBeta}
use Rattle.solve.specs.Effects.{EffectsLeft}

-- ---- `side`, `solve_side`
module _ (n : ℕ) (shape : Shape) (theta : List Float) (zt : Sparse) (v : List Float) where
  pub side_unique : (x y : List Float) → Whatever n shape theta zt (IsSide v x) → Whatever n shape theta zt (IsSide v y) → x ≡ y
  side_unique x y d e = one_value (d 0 [] []) (e 0 [] [])

  pub solve_side_unique : (L : List Float) (b : ℕ) (m x y : List Float) → b + effects_of shape ≤ length m → Whatever n shape theta zt (SolvedSide v L b m x)
      → Whatever n shape theta zt (SolvedSide v L b m y) → x ≡ y
  solve_side_unique L b m x y h d e =
      let q = effects_of shape in
      let D = design_of n 0 shape theta [] [] zt in
      wrote_unique b q (ldl_solve q L (side_of D v)) m x y h (d 0 [] [] L (λ i j _ _. refl)) (e 0 [] [] L (λ i j _ _. refl))

-- ---- `solve_beta`
pub solve_beta_unique : (b p : ℕ) (L m x y : List Float) → b + p ≤ length m → SolvedBeta b p L m x → SolvedBeta b p L m y → x ≡ y
solve_beta_unique b p L m x y h d e = wrote_unique b p (cholesky_solve p L (row b p m)) m x y h (d L (λ i j _ _. refl)) (e L (λ i j _ _. refl))

-- ---- `effects_into`: two rows side by side, and all else as it was
pub effects_into_unique : (shape : Shape) (theta : List Float) (at q : ℕ) (u m x y : List Float) → at + q + q ≤ length m → EffectsLeft shape theta at q u m x → EffectsLeft shape theta at q u m y → x ≡ y
effects_into_unique shape theta at q u m x y h d e =
    ext_get_or nan x y (d.frame.len ∙ sym e.frame.len) (λ i l.
    ⊎_elim (λ (a : i < at). outside i (inl a))
    (λ (a : at ≤ i).
    ⊎_elim (λ (c : i < at + q). inside at i (omega arith) a c (d.first ∙ sym e.first))
    (λ (c : at + q ≤ i). ⊎_elim (λ (g : i < at + q + q). inside (at + q) i h c g (d.second ∙ sym e.second)) (λ (g : at + q + q ≤ i). outside i (inr (omega arith))) (lt_or_ge i (at + q + q)))
    (lt_or_ge i (at + q)))
    (lt_or_ge i at))
  where
    outside : (i : ℕ) → Out at (q + q) i → x ! i ≡ y ! i
    outside i o = d.frame.kept i o ∙ sym (e.frame.kept i o)

    inside : (b i : ℕ) → b + q ≤ length m → b ≤ i → i < b + q → row b q x ≡ row b q y → x ! i ≡ y ! i
    inside b i l a c same =
        let k : b + (i - b) ≡ i = omega arith in
        let entry : x ! (b + (i - b)) ≡ y ! (b + (i - b)) =
        sym (row_at b q x (omega (arith, d.frame.len)) (i - b) (omega arith)) ∙ ap (λ (z : List Float). z ! (i - b)) same ∙ row_at b q y (omega (arith, e.frame.len)) (i - b) (omega arith) in
        rw k at entry

-- ---- factors
-- two factorisations at b in two slices agree in all that their contracts give: the answer, the lower triangle where there is a factor, and every other place
pub record FactorsAgree (b s : ℕ) (x y : List Float) (r k : Result ⊤ ℕ) : Type 0 where
  pub answer : r ≡ k
  pub lower : r ≡ (Ok tt) → SameBelow s (row b (s * s) x) (row b (s * s) y)
  pub outside : (i : ℕ) → Out b (s * s) i → x ! i ≡ y ! i

factors_agree : (b s : ℕ) (F t x y : List Float) (r k : Result ⊤ ℕ) → r ≡ k → (r ≡ (Ok tt) → SameBelow s (row b (s * s) x) F) → (k ≡ (Ok tt) → SameBelow s (row b (s * s) y) F) → Only b (s * s) t x
    → Only b (s * s) t y → FactorsAgree b s x y r k
factors_agree b s F t x y r k a l m o p =
    record { answer = a; lower = λ e i j g h. l e i j g h ∙ sym (m (sym a ∙ e) i j g h); outside = λ i z. o.kept i z ∙ sym (p.kept i z) }

-- `factor_system`: also one content of the matrices
pub factor_system_unique : (n : ℕ) (shape : Shape) (theta : List Float) (zt : Sparse) (w t x y m a b : List Float) (r k : Result ⊤ ℕ) → effects_of shape * effects_of shape ≤ length m
    → Whatever n shape theta zt (SystemLeaves w t x m a r) → Whatever n shape theta zt (SystemLeaves w t y m b k) → FactorsAgree 0 (effects_of shape) x y r k × (a ≡ b)
factor_system_unique n shape theta zt w t x y m a b r k h d e =
    let q = effects_of shape in
    let D = design_of n 0 shape theta [] [] zt in
    let f = d 0 [] [] in
    let g = e 0 [] [] in
    (factors_agree 0 q (factor_of D (system_of D w)) t x y r k (one_value f.end g.end) f.lower g.lower f.frame g.frame, wrote_unique 0 (q * q) (system_of D w) m a b (omega arith) f.system g.system)

-- `factor_normal`
pub factor_normal_unique : (b p : ℕ) (t x y : List Float) (r k : Result ⊤ ℕ) → b + p * p ≤ length t → RootOf b p t x r → RootOf b p t y k → FactorsAgree b p x y r k
factor_normal_unique b p t x y r k h d e =
    let N = row b (p * p) t in
    let f = d N (omega (arith, row_length b (p * p) t h)) (λ i j _ _. refl) in
    let g = e N (omega (arith, row_length b (p * p) t h)) (λ i j _ _. refl) in
    factors_agree b p (cholesky_of p N) t x y r k (one_value f.end g.end) f.lower g.lower f.frame g.frame
