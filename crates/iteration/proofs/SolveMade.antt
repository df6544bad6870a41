-- A solve from its parts: what each later part leaves of what the earlier ones wrote, and the rule's cases. Assumes nothing.
use Rattle.std.specs.Prelude.{Result, Ok, Err, ⊤}
use Prim.{tt}
use Rattle.std.specs.Result.{MatchResult, IsErrAnd}
use Rattle.std.proofs.lemmas.Result.{err_from_is_err_and}
use mathlib.Core.Path.{◌≡◌, refl, sym, ◌∙◌}
use mathlib.Core.List.{List}
use mathlib.Core.Logic.{inl, inr}
use Prim.Native.Nat.{ℕ, ◌+◌, ◌*◌, ◌≤◌}
use native.Mathlib.Nat.{mul_comm}
use native.Mathlib.Omega.{arith}
use lib.ListN.{length}
use lib.Ieee.{Float}
use Rattle.base.specs.Rows.{row, Only}
use Rattle.base.specs.Sparse.{Sparse}
use Rattle.base.proofs.Fills.{matrix_length}
use Rattle.base.proofs.Rows.{only_none, only_row, only_wide, only_trans}
use Rattle.factor.specs.Factor.{cholesky_of}
use Rattle.layout.specs.Layout.{WorkRoom, MatricesLaid, TermsLaid}
use Rattle.layout.specs.WorkRows.{raw_row, weighted_row, working_row}
use Rattle.layout.specs.WorkMatrices.{system_place, solved_place, wy_place, u_place, beta_place, matrices_length}
use Rattle.layout.specs.WorkTerms.{factor_place, w_place, z_place, unsolved_place, normal_place, spare_place, terms_length}
use Rattle.layout.proofs.LaidOut.{laid_out}
use Rattle.model.specs.Shape.{effects_of}
use Rattle.model.specs.declared.sizes.Shape.{Shape}
use Rattle.model.specs.declared.ends.End.{End}
use Rattle.model.specs.declared.ends.End.TheVariants.{SystemPivot, NormalPivot}
use Rattle.rule.specs.Given.{Design, q_of, design_of}
use Rattle.rule.specs.Working.{targets, weighted_targets}
use Rattle.rule.specs.Solve.{solved, unsolved, Reduced, reduced_of, found, found_beta, found_with, solve_working, solve_system, solve_factor, after_factor, solve_reduced, solve_normal, solve_root, after_root, system_of, factor_of, wy_of, solved_columns, normal_entry, normal_of, beta_of}
use Rattle.solve.specs.Ready.{Whatever}
use Rattle.solve.specs.System.{SystemLeaves}
use Rattle.iteration.specs.Held.{Prepared}
use Rattle.iteration.specs.Solving.{SidesLeft, SidesOf, RootLeft, RootSolved, RawLeft, SolveLeft, SolvesWorking}

-- ---- an end that `map_err` tells in place of the index of a pivot
pub end_mapped : {Q : ℕ → End → Type 0} (d : End) (z : Result ⊤ ℕ) (r : Result ⊤ End) → MatchResult z (λ x. r ≡ Ok x) (λ i. IsErrAnd r (Q i)) → ((i : ℕ) (y : End) → Q i y → y ≡ d) → (y : End) → r ≡ Err y
    → (i : ℕ) × (z ≡ Err i) × (y ≡ d)
end_mapped d (Ok tt) r m k y e = cc
end_mapped {Q} d (Err i) r m k y e =
    let f : (x : End) × (r ≡ Err x) × Q i x = err_from_is_err_and r m in
    let o : ◌≡◌ {A = Result ⊤ End} (Err y) (Err f.0) = sym e ∙ f.1 in
    let g : y ≡ f.0 = cc in
    (i, refl, g ∙ k i f.0 f.2)

pub ok_mapped : (Q : ℕ → End → Type 0) (z : Result ⊤ ℕ) (r : Result ⊤ End) → MatchResult z (λ x. r ≡ Ok x) (λ i. IsErrAnd r (Q i)) → (x : ⊤) → r ≡ Ok x → z ≡ Ok tt
ok_mapped Q (Ok tt) r m x e = refl
ok_mapped Q (Err i) r m x e = let f : (y : End) × (r ≡ Err y) × Q i y = err_from_is_err_and r m in cc

-- ---- the rule's cases
module _ (D : Design) (w z : List Float) where
  abbrev A : List Float
  A = system_of D w

  abbrev F : List Float
  F = factor_of D A

  abbrev N : List Float
  N = normal_of D w (solved_columns D F w)

  abbrev C : List Float
  C = cholesky_of D.p N

  abbrev reduced : Reduced
  reduced = reduced_of D w z (targets D z) A F

  rule_system : (i : ℕ) (t t' m m' : List Float) → SystemLeaves w t t' m m' (Err i) D → solve_working D w z ≡ unsolved SystemPivot
  unfolding solve_working solve_system solve_factor after_factor
  rule_system i t t' m m' s = rw (← s.end) refl

  rule_reduced : (t t' m m' : List Float) → SystemLeaves w t t' m m' (Ok tt) D → solve_working D w z ≡ solve_reduced D reduced
  unfolding solve_working solve_system solve_factor after_factor
  rule_reduced t t' m m' s = rw (← s.end) refl

  rule_normal : (q i : ℕ) (m m' t t' : List Float) → RootLeft D.n D.p q N m m' t t' (Err i) → solve_reduced D reduced ≡ unsolved NormalPivot
  unfolding solve_reduced solve_normal solve_root after_root reduced_of
  rule_normal q i m m' t t' l = rw (← l.end) refl

  rule_found : (q : ℕ) (m m' t t' : List Float) → RootLeft D.n D.p q N m m' t t' (Ok tt) → solve_reduced D reduced ≡ solved (found D reduced C)
  unfolding solve_reduced solve_normal solve_root after_root reduced_of
  rule_found q m m' t t' l = rw (← l.end) refl

-- ---- what stands in the work slices after each part
module _ (D : Design) (w z r m t : List Float) (lent : WorkRoom D.n D.p (q_of D) r m t) (ready : Prepared D w z r t) where
  abbrev n : ℕ
  n = D.n

  abbrev p : ℕ
  p = D.p

  abbrev q : ℕ
  q = q_of D

  laid_m : MatricesLaid p q
  laid_m = (laid_out lent.sizes).matrices

  laid_t : TermsLaid n p q
  laid_t = (laid_out lent.sizes).terms

  -- end 10
  pub system_ended : (i : ℕ) (t1 m1 : List Float) → SystemLeaves (row (w_place q) n t) t t1 m m1 (Err i) D → SolveLeft D (solve_working D w z) r r m m1 t t1 (Err SystemPivot)
  system_ended i t1 m1 s =
      let s' : SystemLeaves w t t1 m m1 (Err i) D = rw ready.weights at s in
      record {
        told = rw (rule_system D w z i t t1 m m1 s') refl;
        rows_only = only_none (raw_row n) (13 * n) r;
        matrices_only = only_wide 0 (q * q) 0 (matrices_length p q) (omega arith) (omega arith) s'.system.only;
        terms_only = only_wide 0 (q * q) 0 terms_length (omega arith) (omega (arith, laid_t)) s'.frame;
      }

  module _ (t1 m1 t2 m2 : List Float) (s : SystemLeaves (row (w_place q) n t) t t1 m m1 (Ok tt) D)
      (x : SidesLeft q D (F D w z) (row (w_place q) n t1) (row (working_row n) n r) (row (weighted_row n) n r) m1 m2 t1 t2) where
    s' : SystemLeaves w t t1 m m1 (Ok tt) D
    s' = rw ready.weights at s

    long1 : length t1 ≡ length t
    long1 = s'.frame.len

    w1 : row (w_place q) n t1 ≡ w
    w1 = only_row (w_place q) n 0 (q * q) (inr (omega arith)) (omega (arith, laid_t, lent.terms_long)) s'.frame ∙ ready.weights

    z1 : row (z_place n q) n t1 ≡ z
    z1 = only_row (z_place n q) n 0 (q * q) (inr (omega arith)) (omega (arith, laid_t, lent.terms_long)) s'.frame ∙ ready.responses

    x' : SidesLeft q D (F D w z) w (targets D z) (weighted_targets D w (targets D z)) m1 m2 t1 t2
    x' = rw (w1, ready.target, ready.weighted) at x

    -- what was made of the normal matrix that stands there
    pub rooted : (f : Result ⊤ ℕ) (m3 t3 : List Float) → RootSolved n p q m2 m3 t2 t3 f → RootLeft n p q (N D w z) m2 m3 t2 t3 f
    unfolding normal_of
    rooted f m3 t3 g = g (N D w z) (omega (arith, matrix_length p p (normal_entry D w (solved_columns D (F D w z) w)))) x'.normal

    matrices2 : Only 0 (matrices_length p q) m m2
    matrices2 = only_trans (only_wide 0 (q * q) 0 (matrices_length p q) (omega arith) (omega arith) s'.system.only) x'.matrices_only

    terms2 : Only 0 terms_length t t2
    terms2 = only_trans (only_wide 0 (q * q) 0 terms_length (omega arith) (omega (arith, laid_t)) s'.frame) (only_wide (unsolved_place n q) (q * p + p * p) 0 terms_length (omega arith) (omega (arith, laid_t)) x'.terms_only)

    -- end 11
    pub normal_ended : (i : ℕ) (t3 m3 : List Float) → RootLeft n p q (N D w z) m2 m3 t2 t3 (Err i) → SolveLeft D (solve_working D w z) r r m m3 t t3 (Err NormalPivot)
    normal_ended i t3 m3 l =
        record {
          told = rw (rule_reduced D w z t t1 m m1 s' ∙ rule_normal D w z q i m2 m3 t2 t3 l) refl;
          rows_only = only_none (raw_row n) (13 * n) r;
          matrices_only = only_trans matrices2 (only_wide (beta_place p q) p 0 (matrices_length p q) (omega arith) (omega (arith, laid_m.beta, laid_m.beta_end_lem)) l.matrices_only);
          terms_only = only_trans terms2 (only_wide (normal_place n p q) (p * p) 0 terms_length (omega arith) (omega (arith, laid_t)) l.terms_only);
        }

    module _ (r2 t3 m3 t4 m4 : List Float) (l : RootLeft n p q (N D w z) m2 m3 t2 t3 (Ok tt))
        (v : RawLeft D (row (wy_place p q) q m3) (row (solved_place q) (p * q) m3) (row (beta_place p q) p m3) r r2 m3 m4 t3 t4) where
      long2 : length t2 ≡ length t
      long2 = x'.terms_only.len ∙ long1

      long3 : length t3 ≡ length t
      long3 = l.terms_only.len ∙ long2

      wide2 : length m2 ≡ length m
      wide2 = matrices2.len

      wide3 : length m3 ≡ length m
      wide3 = l.matrices_only.len ∙ wide2

      -- a row before V is as the factor of A left it
      early : (c k : ℕ) → c + k ≤ unsolved_place n q → row c k t4 ≡ row c k t1
      early c k h =
          let a : row c k t4 ≡ row c k t3 = only_row c k (spare_place n p q) q (inl (omega arith)) (omega (arith, laid_t, lent.terms_long, long3)) v.terms_only in
          let b : row c k t3 ≡ row c k t2 = only_row c k (normal_place n p q) (p * p) (inl (omega arith)) (omega (arith, laid_t, lent.terms_long, long2)) l.terms_only in
          let d : row c k t2 ≡ row c k t1 = only_row c k (unsolved_place n q) (q * p + p * p) (inl h) (omega (arith, laid_t, lent.terms_long, long1)) x'.terms_only in
          a ∙ b ∙ d

      normal4 : row (normal_place n p q) (p * p) t4 ≡ row (normal_place n p q) (p * p) t3
      normal4 = only_row (normal_place n p q) (p * p) (spare_place n p q) q (inl (omega arith)) (omega (arith, laid_t, lent.terms_long, long3)) v.terms_only

      -- a row before β is as the right sides left it
      sides3 : (c k : ℕ) → c + k ≤ beta_place p q → row c k m3 ≡ row c k m2
      sides3 c k h = only_row c k (beta_place p q) p (inl h) (omega (arith, laid_m.beta, laid_m.beta_end_lem, lent.matrices_long, wide2)) l.matrices_only

      system4 : row system_place (q * q) m4 ≡ A D w z
      system4 =
          only_row system_place (q * q) (u_place p q) (q + q) (inl (omega arith)) (omega (arith, laid_m.beta_end_lem, lent.matrices_long, wide3)) v.matrices_only ∙ sides3 system_place (q * q) (omega arith) ∙ x'.system_kept
          ∙ s'.system.row'

      beta4 : row (beta_place p q) p m4 ≡ row (beta_place p q) p m3
      beta4 = only_row (beta_place p q) p (u_place p q) (q + q) (inr (omega arith)) (omega (arith, laid_m.beta, laid_m.beta_end_lem, lent.matrices_long, wide3)) v.matrices_only

      wy3 : row (wy_place p q) q m3 ≡ (reduced D w z).wy
      unfolding reduced_of wy_of
      wy3 = sides3 (wy_place p q) q (omega arith) ∙ x'.wy

      solved3 : row (solved_place q) (p * q) m3 ≡ (reduced D w z).W
      unfolding reduced_of
      solved3 = sides3 (solved_place q) (p * q) (omega (arith, mul_comm p q)) ∙ x'.solved

      beta3 : row (beta_place p q) p m3 ≡ (found D (reduced D w z) (C D w z)).beta
      unfolding found found_beta found_with beta_of reduced_of wy_of
      beta3 = l.beta refl ∙ rw x'.side refl

      -- a solve found
      pub solve_found : SolveLeft D (solve_working D w z) r r2 m m4 t t4 (Ok tt)
      unfolding found found_beta found_with reduced_of
      solve_found =
          record {
            told = rw (rule_reduced D w z t t1 m m1 s' ∙ rule_found D w z q m2 m3 t2 t3 l)
                (record {
                  w = early (w_place q) n (omega (arith, laid_t)) ∙ w1;
                  z = early (z_place n q) n (omega (arith, laid_t)) ∙ z1;
                  system = system4;
                  factor = rw (early factor_place (q * q) (omega (arith, laid_t))) (s'.lower refl);
                  root = rw normal4 (l.root refl);
                  beta = beta4 ∙ beta3;
                  u = v.u ∙ rw (wy3, solved3, beta3) refl;
                  raw = v.raw ∙ rw (wy3, solved3, beta3) refl;
                });
            rows_only = only_wide (raw_row n) n (raw_row n) (13 * n) (omega arith) (omega arith) v.rows_only;
            matrices_only = only_trans (only_trans matrices2 (only_wide (beta_place p q) p 0 (matrices_length p q) (omega arith) (omega (arith, laid_m.beta, laid_m.beta_end_lem)) l.matrices_only))
                (only_wide (u_place p q) (q + q) 0 (matrices_length p q) (omega arith) (omega (arith, laid_m.beta, laid_m.beta_end_lem)) v.matrices_only);
            terms_only = only_trans (only_trans terms2 (only_wide (normal_place n p q) (p * p) 0 terms_length (omega arith) (omega (arith, laid_t)) l.terms_only))
                (only_wide (spare_place n p q) q 0 terms_length (omega arith) (omega (arith, laid_t)) v.terms_only);
          }

-- ---- the same for the arguments of the code, of which q is the number of effects
module _ (n p q at i : ℕ) (shape : Shape) (theta offset x : List Float) (zt : Sparse) (r m t t1 m1 : List Float) (f : Result ⊤ ℕ) (e : q ≡ effects_of shape) (lent : WorkRoom n p q r m t) (ew : at ≡ w_place q)
    (s : Whatever n shape theta zt (SystemLeaves (row at n t) t t1 m m1 f)) where
  abbrev D : Design
  D = design_of n p shape theta offset x zt

  lent' : WorkRoom n p (q_of D) r m t
  lent' = rw e at lent

  left : SystemLeaves (row (w_place (q_of D)) n t) t t1 m m1 f D
  left = rw (ew, e) at (s p offset x)

  pub system_ends : f ≡ Err i → SolvesWorking D r r m m1 t t1 (Err SystemPivot)
  system_ends ef w z ready = system_ended D w z r m t lent' ready i t1 m1 (rw ef at left)

  module _ (m2 m3 t2 t3 : List Float) (g : Result ⊤ ℕ) (ef : f ≡ (Ok tt)) (sides : SidesOf n p q shape theta x zt r m1 m2 t1 t2) (root : RootSolved n p q m2 m3 t2 t3 g) where
    done : SystemLeaves (row (w_place (q_of D)) n t) t t1 m m1 (Ok tt) D
    done = rw ef at left

    module _ (w z : List Float) (ready : Prepared D w z r t) where
      sided : SidesLeft (q_of D) D (F D w z) (row (w_place (q_of D)) n t1) (row (working_row n) n r) (row (weighted_row n) n r) m1 m2 t1 t2
      sided =
          let sides' : SidesOf n p (q_of D) shape theta x zt r m1 m2 t1 t2 = rw e at sides in
          let done' : SystemLeaves w t t1 m m1 (Ok tt) D = rw ready.weights at done in
          sides' (F D w z) offset (done'.lower refl)

      root' : RootLeft n p (q_of D) (N D w z) m2 m3 t2 t3 g
      root' = rooted D w z r m t lent' ready t1 m1 t2 m2 done sided g m3 t3 (rw e at root)

    pub normal_ends : g ≡ Err i → SolvesWorking D r r m m3 t t3 (Err NormalPivot)
    normal_ends eg w z ready = normal_ended D w z r m t lent' ready t1 m1 t2 m2 done (sided w z ready) i t3 m3 (rw eg at (root' w z ready))

    pub solve_finds : (r2 m4 t4 : List Float) → g ≡ (Ok tt) → RawLeft D (row (wy_place p q) q m3) (row (solved_place q) (p * q) m3) (row (beta_place p q) p m3) r r2 m3 m4 t3 t4
        → SolvesWorking D r r2 m m4 t t4 (Ok tt)
    solve_finds r2 m4 t4 eg v w z ready = solve_found D w z r m t lent' ready t1 m1 t2 m2 done (sided w z ready) r2 t3 m3 t4 m4 (rw eg at (root' w z ready)) (rw e at v)
