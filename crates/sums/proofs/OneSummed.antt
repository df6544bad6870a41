-- The log terms of a group with one effect, as they stand at the front of the terms, are the rule's. Assumes nothing.
use Rattle.std.specs.Prelude.{Result, Ok, Err}
use mathlib.Core.Path.{◌≡◌, refl, ◌∙◌}
use mathlib.Core.List.{List}
use Prim.Native.Nat.{ℕ, ◌+◌, ◌*◌, ◌<◌, ◌≤◌}
use native.Mathlib.Omega.{arith}
use lib.ListN.{length}
use lib.Ieee.{Float}
use Rattle.base.specs.List.{build, at, fill_at}
use Rattle.base.specs.Rows.{row, Wrote}
use Rattle.base.specs.Sparse.{Sparse}
use Rattle.base.proofs.Rows.{row_length, only_none, only_wide}
use Rattle.family.specs.declared.carried.CarriedFamily.{CarriedFamily}
use Rattle.family.specs.declared.carried.CarriedLink.{CarriedLink}
use Rattle.model.specs.Shape.{effects_of}
use Rattle.model.specs.declared.sizes.Shape.{Shape}
use Rattle.layout.specs.Layout.{WorkRoom}
use Rattle.layout.specs.WorkRows.{xbeta_row, mark_row}
use Rattle.layout.specs.WorkMatrices.{system_place, u_place, trial_u_place}
use Rattle.layout.proofs.Inside.{u_in}
use Rattle.quadrature.specs.Orders.{size_of}
use Rattle.quadrature.specs.Rules.{nodes_of, padded}
use Rattle.quadrature.specs.declared.orders.Decline.{Decline}
use Rattle.quadrature.specs.declared.orders.Order.{Order}
use Rattle.quadrature.proofs.Chosen.{size_to}
use Rattle.quadrature.proofs.Padded.{node_padded}
use Rattle.rule.specs.Given.{Given, n_of, q_of}
use Rattle.rule.specs.Stop.{Mode}
use Rattle.agq_rule.specs.Point.{LogRow}
use Rattle.agq_rule.specs.Term.{inverse_phi, one_term}
use Rattle.points.specs.Gain.{mark_at}
use Rattle.scale.specs.Tells.{entry_from, one_scale_of}
use Rattle.agq.specs.One.{one_term_at_node, OnesIn}
use Rattle.agq.proofs.OneRuled.{one_ruled}
use Rattle.sums.specs.Stands.{Stands, given_with}
use Rattle.sums.specs.Summed.{group_sum_of, SumLeft, GroupLeft}
use Rattle.sums.specs.Rules.{one_terms, one_rule}
use Rattle.sums.specs.declared.answers.GroupSum.{GroupSum}
use Rattle.sums.proofs.Framed.{frame_none, frame_terms}
use Rattle.sums.proofs.Fronts.{copied_only, copied_u, copied_trial, marked_row, marked_fixed, marked_devs, sum_made, group_of_sum}
use Rattle.sums.proofs.Told.{one_declined, one_told}

-- the terms, in the rule's words
module _ (G : Given) (M : Mode) (phi : Float) (o : Order) (g : ℕ) (sigma : Float) (u trial mark xbeta : ℕ) (logs r r1 m t : List Float) (log : LogRow o logs)
    (lent : WorkRoom (n_of G) G.design.p (q_of G.design) r m t) (stands : Stands G M r m) (l : g < q_of G.design)
    (eu : u ≡ u_place G.design.p (q_of G.design)) (et : trial ≡ trial_u_place G.design.p (q_of G.design)) (em : mark ≡ mark_row (n_of G)) (ex : xbeta ≡ xbeta_row (n_of G))
    (wrote : Wrote mark (n_of G) (build (mark_at G.design.zt g 1) (n_of G)) r r1) where
  abbrev n : ℕ
  n = n_of G

  abbrev q : ℕ
  q = q_of G.design

  abbrev p : ℕ
  p = G.design.p

  abbrev m1 : List Float
  m1 = fill_at trial q (entry_from m u) m

  hat : row u q m ≡ M.u
  hat = rw eu stands.u

  hat_long : g + 1 ≤ length M.u
  hat_long = rw (← hat) (omega (arith, row_length u q m (u_in lent.sizes m eu lent.matrices_long)))

  pub one_term_ruled : (i : ℕ) → i < size_of o
      → one_term_at_node G.family G.link G.design.shape G.design.theta G.design.zt G.y G.weights G.design.offset n q xbeta g sigma (inverse_phi phi) (row u q m1) r1 (row trial q m1) (padded (nodes_of o)) logs i ≡ one_term G M phi o g sigma i
  one_term_ruled i d =
      rw (copied_u n p q u trial r m t lent eu et, copied_trial n p q u trial r m t lent eu et, hat)
      (one_ruled G M phi o g sigma i xbeta r1 M.u (padded (nodes_of o)) logs
      (marked_row n p q mark xbeta _ r r1 m t lent em ex wrote)
      (marked_fixed n p q mark xbeta _ r r1 m t lent em ex wrote ∙ stands.fixed)
      (marked_devs n p q mark xbeta _ r r1 m t lent em ex wrote ∙ stands.deviances)
      (only_none g 1 M.u) hat_long (node_padded o i d) (log.each i d))

-- ---- the same for the arguments of the code, of which q is the number of effects
module _ (family : CarriedFamily) (link : CarriedLink) (shape : Shape) (theta : List Float) (zt : Sparse) (y weights offset : List Float) (n p q : ℕ) (o : Order) (g : ℕ) (sigma phi inv : Float)
    (u trial mark xbeta size : ℕ) (nodes logs r r1 r2 m m1 m2 t t' : List Float) (a : GroupSum)
    (eq : q ≡ effects_of shape) (lent : WorkRoom n p q r m t) (l : g < q) (em : mark ≡ mark_row n) (wrote : Wrote mark n (build (mark_at zt g 1) n) r r1)
    (eu : u ≡ u_place p q) (et : trial ≡ trial_u_place p q) (copied : m1 ≡ fill_at trial q (entry_from m u) m) (ex : xbeta ≡ xbeta_row n) (ei : inv ≡ inverse_phi phi)
    (es : size ≡ size_of o) (en : nodes ≡ padded (nodes_of o)) (log : LogRow o logs)
    (made : OnesIn (one_term_at_node family link shape theta zt y weights offset n q xbeta g sigma inv (row u q m1) r1 (row trial q m1) nodes logs) n q xbeta trial size r1 r2 m1 m2 t t')
    (ea : a ≡ group_sum_of (row 0 size t')) where
  abbrev f : ℕ → Float
  f = one_term_at_node family link shape theta zt y weights offset n q xbeta g sigma inv (row u q m1) r1 (row trial q m1) nodes logs

  few : size ≤ 7000
  few = omega (arith, size_to o)

  pub one_made : SumLeft (given_with family link shape theta zt y weights offset n p) (one_terms phi o g sigma) n p q (size_of o) r r2 m m2 t t' a
  one_made =
      sum_made (given_with family link shape theta zt y weights offset n p) (one_terms phi o g sigma) n p q (size_of o) size f r r2 m m2 t t' a es few lent made.terms ea
      (λ x M s i d. rw (copied, ei, en, eq) (one_term_ruled (given_with family link shape theta zt y weights offset n p x) M phi o g sigma u trial mark xbeta logs r r1 m t log (rw eq at lent) s (rw eq at l) (rw eq at eu) (rw eq at et) em ex wrote i d))
      (frame_terms n p q mark xbeta trial size f r r1 r2 m m1 m2 t t' em ex et few wrote.only made.in_r (rw copied (copied_only n p q u trial r m t lent eu et)) (only_wide trial (q + q) trial (q + q + q) (omega arith) (omega arith) made.in_m) made.terms)

-- ---- a group, from the test of its diagonal entry
module _ (family : CarriedFamily) (link : CarriedLink) (shape : Shape) (theta : List Float) (zt : Sparse) (y weights offset : List Float) (n p q : ℕ) (o : Order) (g : ℕ) (phi : Float) (r m t : List Float) (s : Result Float Decline)
    (eq : q ≡ effects_of shape) (es : s ≡ one_scale_of (at q (row system_place (q * q) m) g g)) where
  abbrev G : List Float → Given
  G = given_with family link shape theta zt y weights offset n p

  entry : (x : List Float) (M : Mode) → Stands (G x) M r m → s ≡ one_scale_of (at (effects_of shape) M.system g g)
  entry x M st = es ∙ rw (eq, st.system) refl

  pub group_declined : (d : Decline) → s ≡ Err d → GroupLeft G (one_rule phi o g) n p q (size_of o) r r m m t t (record { sum = Err d; points = 0 })
  group_declined d e =
      record { told = λ x M st rest. one_declined (G x) M phi o g (at (effects_of shape) M.system g g) s d rest (entry x M st) e; few = omega arith; frame = frame_none n p q r m t }

  pub group_summed : (sigma : Float) (r' m' t' : List Float) (a : GroupSum) → s ≡ Ok sigma → SumLeft G (one_terms phi o g sigma) n p q (size_of o) r r' m m' t t' a → GroupLeft G (one_rule phi o g) n p q (size_of o) r r' m m' t t' a
  group_summed sigma r' m' t' a e left =
      group_of_sum G (one_terms phi o g sigma) (one_rule phi o g) n p q (size_of o) r r' m m' t t' a left (λ x M st rest h. one_told (G x) M phi o g (at (effects_of shape) M.system g g) s sigma a rest (entry x M st) e h)
