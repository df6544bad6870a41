-- The log terms of the joint rule, as they stand at the front of the terms, are the rule's, and so is what it answers. Assumes nothing.
use Rattle.std.specs.Prelude.{Result, Ok, Err, ⊤}
use Prim.{tt}
use mathlib.Core.Path.{◌≡◌, refl, ap, ◌∙◌}
use mathlib.Core.List.{List}
use Prim.Native.Nat.{ℕ, ◌+◌, ◌*◌, ◌^◌, ◌≤◌}
use native.Mathlib.Omega.{arith}
use lib.ListN.{length}
use lib.Ieee.{Float}
use Rattle.base.specs.List.{build}
use Rattle.base.specs.Rows.{row, Wrote}
use Rattle.base.specs.Sparse.{Sparse}
use Rattle.base.proofs.Rows.{row_length, only_none}
use Rattle.family.specs.declared.carried.CarriedFamily.{CarriedFamily}
use Rattle.family.specs.declared.carried.CarriedLink.{CarriedLink}
use Rattle.model.specs.Shape.{effects_of}
use Rattle.model.specs.declared.sizes.Shape.{Shape}
use Rattle.layout.specs.Layout.{WorkRoom}
use Rattle.layout.specs.WorkRows.{xbeta_row, mark_row}
use Rattle.layout.specs.WorkMatrices.{inverse_place, u_place, trial_u_place}
use Rattle.layout.proofs.Inside.{u_in}
use Rattle.quadrature.specs.Orders.{size_of}
use Rattle.quadrature.specs.Rules.{nodes_of, padded}
use Rattle.quadrature.specs.declared.orders.Decline.{Decline}
use Rattle.quadrature.specs.declared.orders.Order.{Order}
use Rattle.rule.specs.Given.{Given, n_of, q_of}
use Rattle.rule.specs.Stop.{Mode}
use Rattle.agq_rule.specs.Point.{LogRow}
use Rattle.agq_rule.specs.Scale.{block_scale}
use Rattle.agq_rule.specs.Term.{inverse_phi, joint_term}
use Rattle.agq_rule.specs.Steps.{answers, points_before, joint_total, after_joint}
use Rattle.points.specs.Gain.{one_at}
use Rattle.scale.specs.Tells.{tell_scale, ScaleLeaves}
use Rattle.scale.proofs.ScaleFound.{joint_scale}
use Rattle.agq.specs.Gained.{gain_in}
use Rattle.several.specs.Several.{joint_term_in, TermsIn}
use Rattle.several.proofs.SeveralRuled.{joint_ruled}
use Rattle.sums.specs.Stands.{Stands, given_with}
use Rattle.sums.specs.Summed.{carry, group_sum_of, integrated_of, StepFrame, SumLeft, StepLeft}
use Rattle.sums.specs.declared.answers.GroupSum.{GroupSum}
use Rattle.sums.specs.declared.answers.Quadrature.{Quadrature}
use Rattle.sums.proofs.Framed.{frame_scaled, frame_trans, frame_terms, square_in, stands_kept}
use Rattle.sums.proofs.Fronts.{marked_row, marked_fixed, marked_devs, sum_made}
use Rattle.sums.proofs.Told.{terms_told, no_points, step_told}
use Rattle.joint.specs.Joint.{joint_by, joint_answer, joint_terms, joint_rule}

-- ---- what the scale of all effects tells

joint_carried : (s : Result Float Decline) (i : ℕ) (o : Order) (M : Mode) → points_before i (carry s (joint_total M o)) ≡ integrated_of (record { answer = joint_by s o M.fit; points = i })
unfolding carry joint_total joint_by
joint_carried (Ok v) i o M = step_told i _
joint_carried (Err d) i o M = step_told i _

module _ (G : Given) (M : Mode) (phi fit : Float) (o : Order) (c : Result ⊤ Decline) (L : List Float) (e : tell_scale c L ≡ block_scale (q_of G.design) M.system) (ef : M.fit ≡ fit) where
  pub joint_declined : (d : Decline) → c ≡ Err d → after_joint (block_scale (q_of G.design) M.system) G M phi o ≡ integrated_of (record { answer = Err d; points = 0 })
  unfolding after_joint tell_scale
  joint_declined d f = rw (← e, f) (no_points (answers (Err d)) ∙ step_told 0 (Err d))

  pub joint_told : (A : GroupSum) → c ≡ (Ok tt) → A ≡ group_sum_of (build (joint_term G M phi o L) (size_of o ^ q_of G.design))
      → after_joint (block_scale (q_of G.design) M.system) G M phi o ≡ integrated_of (joint_answer A o fit)
  unfolding after_joint tell_scale joint_answer
  joint_told A f h =
      rw (← e, f, ← ef)
      (terms_told (build (joint_term G M phi o L) (size_of o ^ q_of G.design)) (joint_total M o)
      ∙ (rw (← h) (joint_carried A.sum A.points o M)))

-- ---- all effects at once, in the rule's words
module _ (G : Given) (M : Mode) (phi : Float) (o : Order) (size l u mark xbeta : ℕ) (nodes logs r r1 m t : List Float)
    (lent : WorkRoom (n_of G) G.design.p (q_of G.design) r m t) (stands : Stands G M r m) (el : l ≡ inverse_place (q_of G.design))
    (eu : u ≡ u_place G.design.p (q_of G.design)) (em : mark ≡ mark_row (n_of G)) (ex : xbeta ≡ xbeta_row (n_of G))
    (en : nodes ≡ padded (nodes_of o)) (eg : LogRow o logs) (es : size ≡ size_of o)
    (wrote : Wrote mark (n_of G) (build one_at (n_of G)) r r1) where
  all_hat : row u (q_of G.design) m ≡ M.u
  all_hat = rw eu stands.u

  all_long : length M.u ≡ q_of G.design
  all_long = rw (← all_hat) (row_length u (q_of G.design) m (u_in lent.sizes m eu lent.matrices_long))

  pub joint_term_ruled : (i : ℕ)
      → joint_term_in (gain_in G.family G.link G.design.shape G.design.theta G.design.zt G.y G.weights G.design.offset (n_of G) (q_of G.design) xbeta r1) (q_of G.design) (inverse_phi phi) nodes logs size (row l (q_of G.design * q_of G.design) m) (row u (q_of G.design) m) i
      ≡ joint_term G M phi o (row (inverse_place (q_of G.design)) (q_of G.design * q_of G.design) m) i
  joint_term_ruled i =
      rw (all_hat, el)
      (joint_ruled G M phi o xbeta r1 nodes logs size
      (marked_fixed (n_of G) G.design.p (q_of G.design) mark xbeta _ r r1 m t lent em ex wrote ∙ stands.fixed)
      (marked_devs (n_of G) G.design.p (q_of G.design) mark xbeta _ r r1 m t lent em ex wrote ∙ stands.deviances)
      en eg es (row (inverse_place (q_of G.design)) (q_of G.design * q_of G.design) m) i
      (marked_row (n_of G) G.design.p (q_of G.design) mark xbeta _ r r1 m t lent em ex wrote) all_long)

-- ---- the same for the arguments of the code, of which q is the number of effects
module _ (family : CarriedFamily) (link : CarriedLink) (shape : Shape) (theta : List Float) (zt : Sparse) (y weights offset : List Float) (n p q : ℕ) (o : Order) (phi : Float) where
  abbrev G : List Float → Given
  G = given_with family link shape theta zt y weights offset n p

  module _ (inv : Float) (l u trial mark xbeta size count : ℕ) (nodes logs r r1 r2 m m1 m2 t t' : List Float) (a : GroupSum)
      (eq : q ≡ effects_of shape) (lent : WorkRoom n p q r m t) (few : count ≤ 7000) (em : mark ≡ mark_row n)
      (eu : u ≡ u_place p q) (et : trial ≡ trial_u_place p q) (el : l ≡ inverse_place q) (ex : xbeta ≡ xbeta_row n) (ei : inv ≡ inverse_phi phi)
      (es : size ≡ size_of o) (en : nodes ≡ padded (nodes_of o)) (eg : LogRow o logs) (ea : a ≡ group_sum_of (row 0 count t')) where
    pub joint_made : count ≡ size ^ q → Wrote mark n (build one_at n) r r1
        → TermsIn (joint_term_in (gain_in family link shape theta zt y weights offset n q xbeta r1) q inv nodes logs size (row l (q * q) m) (row u q m)) n q xbeta trial count r1 r2 m m2 t t'
        → SumLeft G (joint_terms phi o (row (inverse_place q) (q * q) m)) n p q (size_of o ^ q) r r2 m m2 t t' a
    joint_made ec wrote made =
        sum_made G (joint_terms phi o (row (inverse_place q) (q * q) m)) n p q (size_of o ^ q) count
        (joint_term_in (gain_in family link shape theta zt y weights offset n q xbeta r1) q inv nodes logs size (row l (q * q) m) (row u q m)) r r2 m m2 t t' a (ec ∙ ap (λ (z : ℕ). z ^ q) es) few lent made.terms ea
        (λ x M st i d. rw (ei, eq) (joint_term_ruled (G x) M phi o size l u mark xbeta nodes logs r r1 m t (rw eq at lent) st (rw eq at el) (rw eq at eu) em ex en eg es wrote i))
        (frame_terms n p q mark xbeta trial count _ r r1 r2 m m m2 t t' em ex et few wrote.only made.in_r (only_none trial (q + q + q) m) made.in_m made.terms)

  -- ---- all effects, from the scale of A
  module _ (fit : Float) (r m m1 t t1 : List Float) (c : Result ⊤ Decline) (eq : q ≡ effects_of shape) (lent : WorkRoom n p q r m t) (scale : ScaleLeaves q 0 q m m1 t t1 c) where
    all_scale : (x : List Float) (M : Mode) → Stands (G x) M r m → tell_scale c (row (inverse_place q) (q * q) m1) ≡ block_scale (effects_of shape) M.system
    all_scale x M st = joint_scale q m m1 t t1 c (square_in lent) scale ∙ rw (eq, st.system) refl

    all_frame : StepFrame n p q r r m m1 t t1
    all_frame = frame_scaled n p q 0 q r m m1 t t1 c lent.sizes (omega arith) scale

    pub joint_unscaled : (d : Decline) → c ≡ Err d → StepLeft G (joint_rule phi o) n p q fit r r m m1 t t1 (record { answer = Err d; points = 0 })
    joint_unscaled d e = record { told = λ x M st f. joint_declined (G x) M phi fit o c (row (inverse_place q) (q * q) m1) (all_scale x M st) f d e; few = omega arith; frame = all_frame }

    pub joint_scaled : (r2 m2 t2 : List Float) (a : GroupSum) (b : Quadrature) → size_of o ^ q ≤ 7000 → c ≡ (Ok tt) → SumLeft G (joint_terms phi o (row (inverse_place q) (q * q) m1)) n p q (size_of o ^ q) r r2 m1 m2 t1 t2 a → b ≡ joint_answer a o fit
        → StepLeft G (joint_rule phi o) n p q fit r r2 m m2 t t2 b
    unfolding joint_answer
    joint_scaled r2 m2 t2 a b few e left eb =
        record {
          told = λ x M st f.
              let st' : Stands (G x) M r m1 = stands_kept (G x) M r r m m1 t t1 (rw eq at lent) (rw eq at all_frame) st in
              rw eb (joint_told (G x) M phi fit o c (row (inverse_place q) (q * q) m1) (all_scale x M st) f a e (left.told x M st' ∙ ap (λ (z : ℕ). group_sum_of (build (joint_term (G x) M phi o (row (inverse_place q) (q * q) m1)) (size_of o ^ z))) eq));
          few = omega (arith, few, left.many, ap (λ (z : Quadrature). z.points) eb);
          frame = frame_trans all_frame left.frame;
        }
