-- The normal matrix's factor and β, at the places of the layout. Assumes nothing.
use Rattle.std.specs.Prelude.{Result, Ok, Err, ⊤}
use Prim.{tt}
use mathlib.Core.Path.{◌≡◌, sym, ◌∙◌}
use mathlib.Core.List.{List}
use Prim.Native.Nat.{ℕ, ◌+◌, ◌-◌, ◌*◌}
use native.Mathlib.Omega.{arith}
use lib.ListN.{take, drop}
use lib.Ieee.{Float}
use Rattle.base.specs.Rows.{row, Wrote}
use Rattle.base.proofs.Rows.{part_is, only_none}
use Rattle.factor.specs.Factor.{cholesky_of}
use Rattle.layout.specs.WorkMatrices.{beta_place}
use Rattle.layout.specs.WorkTerms.{normal_place}
use Rattle.solve.specs.Root.{RootOf, RootLeaves, SolvedBeta}
use Rattle.iteration.specs.Solving.{RootSolved}

-- without a factor β's right side is as it was
pub root_failed : (n p q normal i : ℕ) (m t t' : List Float) (r : Result ⊤ ℕ) → normal ≡ normal_place n p q → r ≡ Err i → RootOf normal p t t' r → RootSolved n p q m m t t' (Err i)
root_failed n p q normal i m t t' r en e f N h same =
    let f' : RootOf (normal_place n p q) p t t' r = rw en at f in
    let l : RootLeaves (normal_place n p q) p N t t' r = f' N h same in
    record {
      end = sym e ∙ l.end;
      root = λ d. let z : ◌≡◌ {A = ℕ} 0 1 = cc in absurd (omega arith);
      beta = λ d. let z : ◌≡◌ {A = ℕ} 0 1 = cc in absurd (omega arith);
      matrices_only = only_none (beta_place p q) p m;
      terms_only = l.frame;
    }

-- with the factor, β is solved with it
pub root_found : (n p q normal end beta : ℕ) (m m' t t' : List Float) (r : Result ⊤ ℕ) → normal ≡ normal_place n p q → end ≡ normal + p * p → beta ≡ beta_place p q → r ≡ (Ok tt) → RootOf normal p t t' r
    → SolvedBeta beta p (take (end - normal) (drop normal t')) m m' → RootSolved n p q m m' t t' (Ok tt)
root_found n p q normal end beta m m' t t' r en ee eb e f s N h same =
    let s' : SolvedBeta beta p (row normal (p * p) t') m m' = rw (part_is normal (p * p) end t' ee) at s in
    let s'' : SolvedBeta (beta_place p q) p (row (normal_place n p q) (p * p) t') m m' = rw (en, eb) at s' in
    let f' : RootOf (normal_place n p q) p t t' r = rw en at f in
    let l : RootLeaves (normal_place n p q) p N t t' r = f' N h same in
    let w : Wrote (beta_place p q) p _ m m' = s'' (cholesky_of p N) (l.lower e) in
    record { end = sym e ∙ l.end; root = λ d. l.lower e; beta = λ d. w.row'; matrices_only = w.only; terms_only = l.frame }
