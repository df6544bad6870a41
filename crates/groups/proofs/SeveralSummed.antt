-- The log terms of a group with several effects, as they stand at the front of the terms, are the rule's. Assumes nothing.
use Rattle.std.specs.Prelude.{Result, Ok, Err, ⊤}
use Prim.{tt}
use mathlib.Core.Path.{◌≡◌, refl, ap, ◌∙◌}
use mathlib.Core.List.{List}
use mathlib.Core.Logic.{inl}
use Prim.Native.Nat.{ℕ, ◌+◌, ◌*◌, ◌^◌, ◌≤◌}
use native.Mathlib.Omega.{arith}
use lib.ListN.{length}
use lib.Ieee.{Float}
use Rattle.base.specs.List.{build, fill_at}
use Rattle.base.specs.Rows.{row, Wrote}
use Rattle.base.specs.Sparse.{Sparse}
use Rattle.base.proofs.Rows.{row_length, only_row, only_none, fillat_only}
use Rattle.family.specs.declared.carried.CarriedFamily.{CarriedFamily}
use Rattle.family.specs.declared.carried.CarriedLink.{CarriedLink}
use Rattle.model.specs.Shape.{effects_of}
use Rattle.model.specs.declared.sizes.Shape.{Shape}
use Rattle.layout.specs.Layout.{WorkRoom}
use Rattle.layout.specs.WorkRows.{xbeta_row, mark_row}
use Rattle.layout.specs.WorkMatrices.{inverse_place, u_place, trial_u_place}
use Rattle.layout.proofs.Inside.{inverse_in, u_in}
use Rattle.quadrature.specs.Orders.{size_of}
use Rattle.quadrature.specs.Rules.{nodes_of, padded}
use Rattle.quadrature.specs.declared.orders.Decline.{Decline}
use Rattle.quadrature.specs.declared.orders.Order.{Order}
use Rattle.rule.specs.Given.{Given, n_of, q_of}
use Rattle.rule.specs.Stop.{Mode}
use Rattle.agq_rule.specs.Point.{LogRow}
use Rattle.agq_rule.specs.Scale.{block_scale, section_of}
use Rattle.agq_rule.specs.Term.{inverse_phi, group_term}
use Rattle.agq_rule.specs.Steps.{Integrated, after_scale, several_group}
use Rattle.points.specs.Gain.{mark_at}
use Rattle.scale.specs.Tells.{entry_from, tell_scale, ScaleLeaves}
use Rattle.scale.proofs.SectionCopied.{square_within}
use Rattle.agq.specs.Gained.{gain_in}
use Rattle.several.specs.Several.{group_term_in, TermsIn}
use Rattle.several.proofs.SeveralRuled.{group_ruled}
use Rattle.sums.specs.Stands.{Stands, given_with}
use Rattle.sums.specs.Summed.{group_sum_of, StepFrame, SumLeft, GroupLeft, tells_then}
use Rattle.sums.specs.declared.answers.GroupSum.{GroupSum}
use Rattle.sums.proofs.Framed.{frame_scaled, frame_trans, frame_terms, stands_kept}
use Rattle.sums.proofs.Fronts.{copied_only, copied_u, copied_trial, marked_row, marked_fixed, marked_devs, sum_made}
use Rattle.sums.proofs.Grids.{grid_places}
use Rattle.sums.proofs.Told.{terms_told, declined_told}
use Rattle.groups.specs.Rules.{several_terms, several_rule}

-- ---- what the scale of a block tells
module _ (G : Given) (M : Mode) (phi : Float) (o : Order) (s k : ℕ) (c : Result ⊤ Decline) (L : List Float) (rest : Float → Integrated)
    (e : tell_scale c L ≡ block_scale k (section_of (q_of G.design) M.system s k)) where
  pub several_declined : (d : Decline) → c ≡ Err d → several_group G M phi o s k rest ≡ tells_then (record { sum = Err d; points = 0 }) rest
  unfolding several_group after_scale tell_scale
  several_declined d f = rw (← e, f) (declined_told d rest)

  pub several_told : (A : GroupSum) → c ≡ (Ok tt) → A ≡ group_sum_of (build (group_term G M phi o s k L) (size_of o ^ k)) → several_group G M phi o s k rest ≡ tells_then A rest
  unfolding several_group after_scale tell_scale
  several_told A f h = rw (← e, f, h) (terms_told (build (group_term G M phi o s k L) (size_of o ^ k)) rest)

-- ---- a group of k effects from s on, in the rule's words
module _ (G : Given) (M : Mode) (phi : Float) (o : Order) (s k size l u trial mark xbeta : ℕ) (nodes logs r r1 m t : List Float)
    (lent : WorkRoom (n_of G) G.design.p (q_of G.design) r m t) (stands : Stands G M r m)
    (h : s + k ≤ q_of G.design) (el : l ≡ inverse_place (q_of G.design))
    (eu : u ≡ u_place G.design.p (q_of G.design)) (et : trial ≡ trial_u_place G.design.p (q_of G.design)) (em : mark ≡ mark_row (n_of G)) (ex : xbeta ≡ xbeta_row (n_of G))
    (en : nodes ≡ padded (nodes_of o)) (eg : LogRow o logs) (es : size ≡ size_of o)
    (wrote : Wrote mark (n_of G) (build (mark_at G.design.zt s k) (n_of G)) r r1) where
  abbrev n : ℕ
  n = n_of G

  abbrev q : ℕ
  q = q_of G.design

  abbrev p : ℕ
  p = G.design.p

  abbrev m1 : List Float
  m1 = fill_at trial q (entry_from m u) m

  hat : row u q m ≡ M.u
  hat = rw eu stands.u

  hat_long : s + k ≤ length M.u
  hat_long = rw (← hat) (omega (arith, row_length u q m (u_in lent.sizes m eu lent.matrices_long)))

  same_factor : row l (k * k) m1 ≡ row (inverse_place q) (k * k) m
  same_factor =
      rw (← el)
      (only_row l (k * k) trial q (inl (grid_places p q s k l u trial h el eu et).1) (omega (arith, inverse_in lent.sizes m el lent.matrices_long, square_within q s k h)) (fillat_only trial q q (entry_from m u) m (omega arith)))

  pub group_term_ruled : (i : ℕ)
      → group_term_in (gain_in G.family G.link G.design.shape G.design.theta G.design.zt G.y G.weights G.design.offset n q xbeta r1) s k (inverse_phi phi) nodes logs size (row l (k * k) m1) (row u q m1) (row trial q m1) i
      ≡ group_term G M phi o s k (row (inverse_place q) (k * k) m) i
  group_term_ruled i =
      rw (same_factor, copied_u n p q u trial r m t lent eu et, copied_trial n p q u trial r m t lent eu et, hat)
      (group_ruled G M phi o xbeta r1 nodes logs size
      (marked_fixed n p q mark xbeta _ r r1 m t lent em ex wrote ∙ stands.fixed)
      (marked_devs n p q mark xbeta _ r r1 m t lent em ex wrote ∙ stands.deviances)
      en eg es s k (row (inverse_place q) (k * k) m) M.u i
      (marked_row n p q mark xbeta _ r r1 m t lent em ex wrote) (only_none s k M.u) hat_long)

-- ---- the same for the arguments of the code, of which q is the number of effects
module _ (family : CarriedFamily) (link : CarriedLink) (shape : Shape) (theta : List Float) (zt : Sparse) (y weights offset : List Float) (n p q : ℕ) (o : Order) (phi : Float) where
  abbrev G : List Float → Given
  G = given_with family link shape theta zt y weights offset n p

  module _ (inv : Float) (l u trial mark xbeta size count : ℕ) (nodes logs r r1 r2 m m1 m2 t t' : List Float) (a : GroupSum)
      (eq : q ≡ effects_of shape) (lent : WorkRoom n p q r m t) (few : count ≤ 7000) (em : mark ≡ mark_row n)
      (eu : u ≡ u_place p q) (et : trial ≡ trial_u_place p q) (el : l ≡ inverse_place q) (ex : xbeta ≡ xbeta_row n) (ei : inv ≡ inverse_phi phi)
      (es : size ≡ size_of o) (en : nodes ≡ padded (nodes_of o)) (eg : LogRow o logs) (ea : a ≡ group_sum_of (row 0 count t')) where
    pub several_made : (s k : ℕ) → s + k ≤ q → count ≡ size ^ k → Wrote mark n (build (mark_at zt s k) n) r r1 → m1 ≡ fill_at trial q (entry_from m u) m
        → TermsIn (group_term_in (gain_in family link shape theta zt y weights offset n q xbeta r1) s k inv nodes logs size (row l (k * k) m1) (row u q m1) (row trial q m1)) n q xbeta trial count r1 r2 m1 m2 t t'
        → SumLeft G (several_terms phi o s k (row (inverse_place q) (k * k) m)) n p q (size_of o ^ k) r r2 m m2 t t' a
    several_made s k h ec wrote copied made =
        sum_made G (several_terms phi o s k (row (inverse_place q) (k * k) m)) n p q (size_of o ^ k) count
        (group_term_in (gain_in family link shape theta zt y weights offset n q xbeta r1) s k inv nodes logs size (row l (k * k) m1) (row u q m1) (row trial q m1)) r r2 m m2 t t' a (ec ∙ ap (λ (z : ℕ). z ^ k) es) few lent made.terms ea
        (λ x M st i d. rw (copied, ei, eq) (group_term_ruled (G x) M phi o s k size l u trial mark xbeta nodes logs r r1 m t (rw eq at lent) st (rw eq at h) (rw eq at el) (rw eq at eu) (rw eq at et) em ex en eg es wrote i))
        (frame_terms n p q mark xbeta trial count _ r r1 r2 m m1 m2 t t' em ex et few wrote.only made.in_r (rw copied (copied_only n p q u trial r m t lent eu et)) made.in_m made.terms)

  -- ---- a group, from the scale of its block
  module _ (s k : ℕ) (r m m1 t t1 : List Float) (c : Result ⊤ Decline) (eq : q ≡ effects_of shape) (lent : WorkRoom n p q r m t) (h : s + k ≤ q) (scale : ScaleLeaves q s k m m1 t t1 c) where
    told_scale : (x : List Float) (M : Mode) → Stands (G x) M r m → tell_scale c (row (inverse_place q) (k * k) m1) ≡ block_scale k (section_of (effects_of shape) M.system s k)
    told_scale x M st = scale.scale ∙ rw (eq, st.system) refl

    frame_first : StepFrame n p q r r m m1 t t1
    frame_first = frame_scaled n p q s k r m m1 t t1 c lent.sizes h scale

    pub several_unscaled : (d : Decline) → c ≡ Err d → GroupLeft G (several_rule phi o s k) n p q (size_of o ^ k) r r m m1 t t1 (record { sum = Err d; points = 0 })
    several_unscaled d e =
        record { told = λ x M st rest. several_declined (G x) M phi o s k c (row (inverse_place q) (k * k) m1) rest (told_scale x M st) d e; few = omega arith; frame = frame_first }

    pub several_scaled : (r2 m2 t2 : List Float) (a : GroupSum) → c ≡ (Ok tt) → SumLeft G (several_terms phi o s k (row (inverse_place q) (k * k) m1)) n p q (size_of o ^ k) r r2 m1 m2 t1 t2 a
        → GroupLeft G (several_rule phi o s k) n p q (size_of o ^ k) r r2 m m2 t t2 a
    several_scaled r2 m2 t2 a e left =
        record {
          told = λ x M st rest. several_told (G x) M phi o s k c (row (inverse_place q) (k * k) m1) rest (told_scale x M st) a e (left.told x M (stands_kept (G x) M r r m m1 t t1 (rw eq at lent) (rw eq at frame_first) st));
          few = omega (arith, left.many);
          frame = frame_trans frame_first left.frame;
        }
