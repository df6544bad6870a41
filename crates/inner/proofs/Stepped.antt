-- With Xβ in its row the work slices hold a mode for a step, and what the step tells is what the rule says of the order that was chosen. Assumes nothing.
use Rattle.std.specs.Prelude.{Ok, Err}
use mathlib.Core.Path.{◌≡◌, refl, sym, ap, ◌∙◌}
use mathlib.Core.Bool.{true, false}
use mathlib.Core.List.{List}
use mathlib.Core.Logic.{inr}
use Prim.Native.Nat.{ℕ, ◌+◌, ◌-◌, ◌*◌, ◌≤◌}
use native.Mathlib.Omega.{arith}
use borrow.Author.Tests.{eqb-true}
use borrow.Rule.Slice.PartMut.{put_mid, mid_of}
use lib.Dec.{eqb}
use lib.ListN.{length, take, drop}
use lib.Ieee.{Float}
use Rattle.base.specs.List.{build, fill_to}
use Rattle.base.specs.Rows.{row, Wrote}
use Rattle.base.specs.Sparse.{Sparse}
use Rattle.base.specs.Sum.{◌!!◌}
use Rattle.base.proofs.Rows.{part_is, only_row, only_none, filled_part}
use Rattle.base.proofs.TwoRows.{two_none, two_of}
use Rattle.family.specs.declared.carried.CarriedFamily.{CarriedFamily}
use Rattle.family.specs.declared.carried.CarriedLink.{CarriedLink}
use Rattle.layout.specs.WorkMatrices.{beta_place, beta_end}
use Rattle.layout.specs.WorkRows.{xbeta_row, deviance_row, point_row, rows_length}
use Rattle.layout.specs.WorkTerms.{terms_length}
use Rattle.layout.proofs.LaidOut.{lent_kept}
use Rattle.linear.specs.Product.{x_beta_at}
use Rattle.model.specs.Shape.{total_to, block_effects, effects_of}
use Rattle.model.specs.declared.sizes.Shape.{Shape}
use Rattle.quadrature.specs.Orders.{product_order, joint_order}
use Rattle.quadrature.specs.declared.orders.Decline.{Decline}
use Rattle.quadrature.specs.declared.orders.Order.{Order}
use Rattle.quadrature.proofs.OrderFacts.{product_within}
use Rattle.rule.specs.Given.{Given, n_of, q_of}
use Rattle.rule.specs.Stop.{Mode}
use Rattle.agq_rule.specs.Steps.{Integrated, answers, product_with, product_step, joint_with, joint_step, step_by, quadrature_of}
use Rattle.iteration.specs.Iterated.{Asked}
use Rattle.sums.specs.Stands.{Roomy, given_with, Stands}
use Rattle.sums.specs.Summed.{integrated_of, StepLeft}
use Rattle.groups.specs.Rules.{Grouped, product_rule}
use Rattle.joint.specs.Joint.{joint_rule}
use Rattle.inner.specs.Read.{declined_for, Reads, QuadratureLeft, ProductAt, JointAt, QuadratureAt}
use Rattle.sums.specs.declared.answers.Quadrature.{Quadrature}

-- ---- what a step asks
pub roomy : {n p q : ℕ} {shape : Shape} {theta : List Float} {starts columns : List ℕ} {values offset x y r m t r' : List Float} → Asked n p q shape theta starts columns values offset x y r m t
    → length r' ≡ length r → Roomy n p q shape theta starts columns values offset y r' m t
roomy a e = record { ready = a.ready; lent = lent_kept a.lent e refl refl; offset_fits = a.offset_fits; y_long = a.y_long }

pub grouped : (wish q groups k : ℕ) (o : Order) → groups * k ≡ q → product_order wish k ≡ Ok o → Grouped q groups k o
grouped wish q groups k o a e = record { all = a; capped = λ n. product_within wish k o n e }

-- the effects of a single block are all
one_block : (s : Shape) (c : ℕ) → c ≡ 1 → total_to c (block_effects s) ≡ (s.m !! 0) * (s.k !! 0)
unfolding total_to block_effects
one_block s c e = rw e (omega arith)

pub groups_all : (s : Shape) (q : ℕ) → eqb s.count 1 ≡ true → q ≡ effects_of s → (s.m !! 0) * (s.k !! 0) ≡ q
groups_all s q t e = sym (e ∙ one_block s s.count (eqb-true s.count 1 t))

-- ---- Xβ in the part that was lent
pub fixed_made : (n p q beta end xbeta deviance : ℕ) (x m r ys : List Float) → beta ≡ beta_place p q → end ≡ beta_end p q → xbeta ≡ xbeta_row n → deviance ≡ deviance_row n → deviance ≤ length r
    → length ys ≡ length (mid_of xbeta (deviance - xbeta) r) → ys ≡ fill_to n (x_beta_at x p (take (end - beta) (drop beta m))) (mid_of xbeta (deviance - xbeta) r)
    → Wrote (xbeta_row n) n (build (x_beta_at x p (row (beta_place p q) p m)) n) r (put_mid xbeta (deviance - xbeta) r ys)
fixed_made n p q beta end xbeta deviance x m r ys eb en ex ed h l y =
    let b : take (end - beta) (drop beta m) ≡ row beta p m = part_is beta p end m (omega arith) in
    rw (← ex, ← eb) (filled_part xbeta n deviance (x_beta_at x p (row beta p m)) r ys (omega arith) h l (rw b at y))

-- ---- what it tells
-- Xβ written, the work slices hold the mode
reads_stand : (G : Given) (k : Mode) (fit : Float) (r r' m : List Float) → rows_length (n_of G) ≤ length r → Reads G k fit r m
    → Wrote (xbeta_row (n_of G)) (n_of G) (build (x_beta_at G.design.x G.design.p (row (beta_place G.design.p (q_of G.design)) G.design.p m)) (n_of G)) r r' → Stands G k r' m
reads_stand G k fit r r' m l d w =
    let n = n_of G in
    record {
      fixed = w.row' ∙ ap (λ (b : List Float). build (x_beta_at G.design.x G.design.p b) n) d.beta;
      deviances = only_row (deviance_row n) n (xbeta_row n) n (inr (omega arith)) (omega arith) w.only ∙ d.deviances;
      system = d.system;
      u = d.u;
    }

module _ (family : CarriedFamily) (link : CarriedLink) (shape : Shape) (theta : List Float) (zt : Sparse) (y weights offset : List Float) (n p q : ℕ) (x : List Float) (wish : ℕ) (phi fit : Float) where
  abbrev G : Given
  G = given_with family link shape theta zt y weights offset n p x

  -- no step
  declined_left : (said : Mode → Integrated) (d : Decline) → ((k : Mode) → said k ≡ answers (Err d)) → (r m t : List Float) (a : Quadrature) → a ≡ declined_for d → QuadratureLeft G said fit r r m m t t a
  unfolding answers integrated_of
  declined_left said d h r m t a e =
      rw e (record { told = λ k _. h k; few = omega arith; rows_only = two_none _ _ _ _ r; matrices_only = two_none _ _ _ _ m; terms_only = only_none 0 terms_length t })

  pub product_declined : (groups k : ℕ) (d : Decline) → product_order wish k ≡ Err d → (r m t : List Float) (a : Quadrature) → a ≡ declined_for d → ProductAt G wish groups k phi fit r r m m t t a
  unfolding product_step product_with
  product_declined groups k d e r m t a ea = declined_left (λ M. product_step G wish M phi groups k) d (λ M. rw e refl) r m t a ea

  pub joint_declined : (d : Decline) → q ≡ effects_of shape → joint_order wish q ≡ Err d → (r m t : List Float) (a : Quadrature) → a ≡ declined_for d → JointAt G wish phi fit r r m m t t a
  unfolding joint_step joint_with
  joint_declined d eq e r m t a ea =
      let e' : joint_order wish (effects_of shape) ≡ Err d = rw eq at e in
      declined_left (λ M. joint_step G wish M phi) d (λ M. rw e' refl) r m t a ea

  -- a step, after Xβ
  module _ (eq : q ≡ effects_of shape) (o : Order) (r r1 r2 m m2 t t2 : List Float) (a : Quadrature) (l : rows_length n ≤ length r) (w : Wrote (xbeta_row n) n (build (x_beta_at x p (row (beta_place p q) p m)) n) r r1) where
    made_left : (rule : Given → Mode → Integrated) (said : Mode → Integrated) → ((k : Mode) → said k ≡ rule G k) → StepLeft (given_with family link shape theta zt y weights offset n p) rule n p q fit r1 r2 m m2 t t2 a
        → QuadratureLeft G said fit r r2 m m2 t t2 a
    made_left rule said h s =
        let s' : StepLeft (given_with family link shape theta zt y weights offset n p) rule n p (effects_of shape) fit r1 r2 m m2 t t2 a = rw eq at s in
        let w' : Wrote (xbeta_row n) n (build (x_beta_at x p (row (beta_place p (effects_of shape)) p m)) n) r r1 = rw eq at w in
        record {
          told = λ k d. h k ∙ s'.told x k (reads_stand G k fit r r1 m l d w') d.fit_term_lem;
          few = s.few;
          rows_only = two_of (xbeta_row n) n (point_row n) (n + n) w.only s.frame.rows_only;
          matrices_only = s'.frame.matrices_only;
          terms_only = s.frame.terms_only;
        }

    pub product_made : (groups k : ℕ) → product_order wish k ≡ Ok o → StepLeft (given_with family link shape theta zt y weights offset n p) (product_rule phi o k groups) n p q fit r1 r2 m m2 t t2 a
        → ProductAt G wish groups k phi fit r r2 m m2 t t2 a
    unfolding product_step product_with
    product_made groups k e s = made_left (product_rule phi o k groups) (λ M. product_step G wish M phi groups k) (λ M. rw e refl) s

    pub joint_made : joint_order wish q ≡ Ok o → StepLeft (given_with family link shape theta zt y weights offset n p) (joint_rule phi o) n p q fit r1 r2 m m2 t t2 a → JointAt G wish phi fit r r2 m m2 t t2 a
    unfolding joint_step joint_with
    joint_made e s =
        let e' : joint_order wish (effects_of shape) ≡ Ok o = rw eq at e in
        made_left (joint_rule phi o) (λ M. joint_step G wish M phi) (λ M. rw e' refl) s

  -- ---- which of the two
  module _ (r r' m m' t t' : List Float) (a : Quadrature) where
    same_rule : (said said' : Mode → Integrated) → ((k : Mode) → said k ≡ said' k) → QuadratureLeft G said' fit r r' m m' t t' a → QuadratureLeft G said fit r r' m m' t t' a
    same_rule said said' h s = record { told = λ k d. h k ∙ s.told k d; few = s.few; rows_only = s.rows_only; matrices_only = s.matrices_only; terms_only = s.terms_only }

    pub by_product : eqb shape.count 1 ≡ true → ProductAt G wish (shape.m !! 0) (shape.k !! 0) phi fit r r' m m' t t' a → QuadratureAt G wish phi fit r r' m m' t t' a
    unfolding quadrature_of step_by
    by_product e s = same_rule (λ M. quadrature_of G wish M phi) (λ M. product_step G wish M phi (shape.m !! 0) (shape.k !! 0)) (λ M. rw e refl) s

    pub by_joint : eqb shape.count 1 ≡ false → JointAt G wish phi fit r r' m m' t t' a → QuadratureAt G wish phi fit r r' m m' t t' a
    unfolding quadrature_of step_by
    by_joint e s = same_rule (λ M. quadrature_of G wish M phi) (λ M. joint_step G wish M phi) (λ M. rw e refl) s
