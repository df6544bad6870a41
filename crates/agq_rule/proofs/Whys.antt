-- The reason told is 0 exactly where an order from 3 to 11 was used; 1, 2 and 3 are told exactly where the order choice has them, in this order; over the groups it is that of the first that declined. Assumes nothing.
use Rattle.std.specs.Prelude.{Result, Ok, Err, ⊤}
use Prim.{tt}
use mathlib.Core.Path.{◌≡◌, refl, sym, ap, ◌∙◌}
use mathlib.Core.Bool.{Bool, true, false, cond}
use mathlib.Core.List.{List}
use mathlib.Core.Logic.{◌↔◌, ◌⊎◌, ⊎_elim}
use Prim.Native.Nat.{ℕ, zero, suc, ◌+◌, ◌*◌, ◌^◌, ◌≤◌, ◌<◌}
use native.Mathlib.Omega.{arith}
use borrow.Author.Tests.{eq-eqb, ne_eqb, eqb-true, eqb-false}
use lib.Dec.{eqb}
use lib.Ieee.{Float}
use Rattle.base.specs.Number.{finite, zero_f}
use Rattle.base.specs.Sum.{◌!!◌}
use Rattle.base.specs.List.{at, build, zero_at}
use Rattle.base.proofs.Doubles.{ff}
use Rattle.factor.specs.Factor.{ldl_of, ldl_end, cholesky_of, cholesky_end}
use Rattle.factor.specs.Inverse.{ldl_inverse}
use Rattle.quadrature.specs.LogSum.{log_sum_exp}
use Rattle.quadrature.specs.Orders.{size_of, decline_number, product_order, joint_order}
use Rattle.quadrature.specs.declared.orders.Order.{Order}
use Rattle.quadrature.specs.declared.orders.Decline.{Decline}
use Rattle.quadrature.specs.declared.orders.Decline.TheVariants.{Wish, Effects, Cap, Diagonal, Inverse, Factor, Sum}
use Rattle.quadrature.proofs.Chosen.{size_from, size_to}
use Rattle.quadrature.proofs.Declines.{why_range, wish_first, effects_next, product_cap, product_declines, joint_declines}
use Rattle.rule.specs.Given.{Given, q_of}
use Rattle.rule.specs.Stop.{Mode}
use Rattle.agq_rule.specs.Scale.{bad_diagonal, sigma_of, Scale, scaled, unscaled, after_cholesky, cholesky_scale, inverse_scale, after_ldl, ldl_scale, block_scale, section_of}
use Rattle.agq_rule.specs.Term.{one_term, group_term, joint_term}
use Rattle.agq_rule.specs.Steps.{Integrated, answers, points_before, after_sum, sum_then, terms_then, after_diagonal, one_group, after_scale, several_group, group_by, with_sum, groups_from, product_with, product_step, joint_total, after_joint, joint_with, joint_step, step_by, quadrature_of}
use Rattle.agq_rule.specs.Declining.{FirstDecline, here, later}
use Rattle.agq_rule.specs.Inner.{order_by, why_by}

-- ---- the reasons by their numbers, as P5 lists them
pub reasons : (why_by (Err Wish) ≡ 1) × (why_by (Err Effects) ≡ 2) × (why_by (Err Cap) ≡ 3) × (why_by (Err Diagonal) ≡ 4) × (why_by (Err Inverse) ≡ 5) × (why_by (Err Factor) ≡ 5) × (why_by (Err Sum) ≡ 6)
unfolding why_by
reasons = (refl, refl, refl, refl, refl, refl, refl)

-- ---- the reason beside the order
-- a reason is 6 at most
pub why_to : (i : Result (Float × Order) Decline) → why_by i ≤ 6
unfolding why_by
why_to (Ok (d, o)) = omega arith
why_to (Err w) = (why_range w).1

-- without a reason a rule was used
pub why_of_use : (i : Result (Float × Order) Decline) → why_by i ≡ 0 → 3 ≤ order_by i
unfolding why_by order_by
why_of_use (Ok (d, o)) e = size_from o
why_of_use (Err w) e = absurd (omega (arith, (why_range w).0))

-- Laplace has one
pub why_of_one : (i : Result (Float × Order) Decline) → order_by i ≡ 1 → 1 ≤ why_by i
unfolding why_by order_by
why_of_one (Ok (d, o)) e = absurd (omega (arith, size_from o))
why_of_one (Err w) e = (why_range w).0

-- so it is 0 exactly where an order from 3 to 11 was used
no_reason : (i : Result (Float × Order) Decline) → 3 ≤ order_by i → why_by i ≡ 0
unfolding why_by order_by
no_reason (Ok (d, o)) l = refl
no_reason (Err w) l = absurd (omega arith)

order_to : (i : Result (Float × Order) Decline) → order_by i ≤ 11
unfolding order_by
order_to (Ok (d, o)) = size_to o
order_to (Err w) = omega arith

pub why_zero : (i : Result (Float × Order) Decline) → (why_by i ≡ 0) ↔ ((3 ≤ order_by i) × (order_by i ≤ 11))
why_zero i = (λ e. (why_of_use i e, order_to i), λ l. no_reason i l.0)

-- ---- 1, 2 and 3 name one reason each
abbrev choice_of : ℕ → Decline
choice_of (suc (suc zero)) = Effects
choice_of (suc (suc (suc zero))) = Cap
choice_of (suc (suc (suc (suc n)))) = Sum
choice_of zero = Wish
choice_of (suc zero) = Wish

choice_back : (d : Decline) → decline_number d ≤ 3 → choice_of (decline_number d) ≡ d
choice_back Wish l = refl
choice_back Effects l = refl
choice_back Cap l = refl
choice_back Diagonal l = absurd (omega arith)
choice_back Inverse l = absurd (omega arith)
choice_back Factor l = absurd (omega arith)
choice_back Sum l = absurd (omega arith)

pub why_names : (i : Result (Float × Order) Decline) (d : Decline) → decline_number d ≤ 3 → why_by i ≡ decline_number d → i ≡ Err d
unfolding why_by
why_names (Ok (x, o)) d l e = absurd (omega (arith, (why_range d).0))
why_names (Err w) d l e = ap Err (sym (choice_back w (omega arith)) ∙ ap choice_of e ∙ choice_back d l)

-- ---- what a group does, whatever would follow: it declines for a reason of a step, or hands its log sum on
-- a reason that a step has once it has its order
abbrev pub of_step : Decline → Bool
of_step Wish = false
of_step Effects = false
of_step Cap = false
of_step Diagonal = true
of_step Inverse = true
of_step Factor = true
of_step Sum = true

data Fate (f : (Float → Integrated) → Integrated) : Type 0 where
  declines : (d : Decline) → of_step d ≡ true → ((rest : Float → Integrated) → (f rest).answer ≡ Err d) → Fate f
  sums : (s : Float) → ((rest : Float → Integrated) → (f rest).answer ≡ (rest s).answer) → Fate f

sum_fate : (b : Bool) (s : Float) → Fate (after_sum b s)
unfolding after_sum answers
sum_fate false s = declines Sum refl (λ rest. refl)
sum_fate true s = sums s (λ rest. refl)

terms_by : (terms : List Float) → Fate (after_sum (finite (log_sum_exp terms)) (log_sum_exp terms)) → Fate (terms_then terms)
unfolding terms_then points_before sum_then
terms_by terms (declines d t h) = declines d t h
terms_by terms (sums s h) = sums s h

terms_fate : (terms : List Float) → Fate (terms_then terms)
terms_fate terms = terms_by terms (sum_fate (finite (log_sum_exp terms)) (log_sum_exp terms))

-- a block without a scale has such a reason
abbrev scale_step : Scale → Bool
scale_step (scaled L) = true
scale_step (unscaled d) = of_step d

cholesky_step : (x : Result ⊤ ℕ) (C : List Float) → scale_step (after_cholesky x C) ≡ true
unfolding after_cholesky
cholesky_step (Err i) C = refl
cholesky_step (Ok tt) C = refl

ldl_step : (x : Result ⊤ ℕ) (k : ℕ) (F : List Float) → scale_step (after_ldl x k F) ≡ true
unfolding after_ldl inverse_scale cholesky_scale
ldl_step (Err i) k F = refl
ldl_step (Ok tt) k F =
    let S = ldl_inverse k F in
    cholesky_step (cholesky_end k S (cholesky_of k S)) (cholesky_of k S)

scale_step_lem : (k : ℕ) (B : List Float) → scale_step (block_scale k B) ≡ true
unfolding block_scale ldl_scale
scale_step_lem k B =
    let F = ldl_of k B (build zero_at (k * k)) in
    ldl_step (ldl_end k F) k F

module _ (G : Given) (M : Mode) (phi : Float) (o : Order) where
  one_fate : (b : Bool) (g : ℕ) (a : Float) → Fate (after_diagonal b G M phi o g a)
  unfolding after_diagonal answers
  one_fate true g a = declines Diagonal refl (λ rest. refl)
  one_fate false g a = terms_fate (build (one_term G M phi o g (sigma_of a)) (size_of o))

  several_fate : (x : Scale) (s k : ℕ) → scale_step x ≡ true → Fate (after_scale x G M phi o s k)
  unfolding after_scale answers
  several_fate (unscaled d) s k t = declines d t (λ rest. refl)
  several_fate (scaled L) s k t = terms_fate (build (group_term G M phi o s k L) (size_of o ^ k))

  group_fate : (b : Bool) (k g : ℕ) → Fate (group_by b G M phi o k g)
  unfolding group_by one_group several_group
  group_fate true k g =
      let a = at (q_of G.design) M.system g g in
      one_fate (bad_diagonal a) g a
  group_fate false k g =
      let B = section_of (q_of G.design) M.system (g * k) k in
      several_fate (block_scale k B) (g * k) k (scale_step_lem k B)

-- ---- the first group that declines
-- a step declined
abbrev is_declined : Result (Float × Order) Decline → Bool
is_declined (Ok (d, o)) = false
is_declined (Err w) = true

-- the reason of a step that declined, e of any other
abbrev reason_in : Decline → Result (Float × Order) Decline → Decline
reason_in e (Ok (d, o)) = e
reason_in e (Err w) = w

-- what follows group g, after its log sum
abbrev onward : Given → Mode → Float → Order → (k left g : ℕ) → Float → Float → Integrated
onward G M phi o k left g total s = groups_from G M phi o k left (g + 1) (with_sum total s)

module _ (G : Given) (M : Mode) (phi : Float) (o : Order) (k : ℕ) where
  by_fate : (left g : ℕ) (total : Float) (d : Decline) → ((s : Float) → (onward G M phi o k left g total s).answer ≡ Err d → FirstDecline G M phi o k left (g + 1) (with_sum total s) d)
      → Fate (group_by (eqb k 1) G M phi o k g) → (groups_from G M phi o k (suc left) g total).answer ≡ Err d → FirstDecline G M phi o k (suc left) g total d
  unfolding groups_from
  by_fate left g total d after (declines w t h) e =
      let q : w ≡ d = ap (reason_in d) (sym (h (onward G M phi o k left g total)) ∙ e) in
      rw (← q) (here left g total w h)
  by_fate left g total d after (sums s h) e =
      later left g total s d h (after s (sym (h (onward G M phi o k left g total)) ∙ e))

  -- the reason told is that of the first group that declines
  pub first_decline : (left g : ℕ) (total : Float) (d : Decline) → (groups_from G M phi o k left g total).answer ≡ Err d → FirstDecline G M phi o k left g total d
  unfolding groups_from answers
  first_decline zero g total d e = absurd (ff (ap is_declined e))
  first_decline (suc left) g total d e =
      by_fate left g total d (λ s. first_decline left (g + 1) (with_sum total s) d) (group_fate G M phi o (eqb k 1) k g) e

  -- and where there is such a group, the step declines for its reason
  pub declined_first : (left g : ℕ) (total : Float) (d : Decline) → FirstDecline G M phi o k left g total d → (groups_from G M phi o k left g total).answer ≡ Err d
  unfolding groups_from
  declined_first _ _ _ d (here left g total _ h) = h (onward G M phi o k left g total)
  declined_first _ _ _ d (later left g total s _ h r) =
      h (onward G M phi o k left g total) ∙ declined_first left (g + 1) (with_sum total s) d r

-- ---- the reasons of the order choice: each is told exactly where it is the first that holds
-- a step that has its order declines for a reason of the step
abbrev answer_step : Result (Float × Order) Decline → Bool
answer_step (Ok (d, o)) = true
answer_step (Err w) = of_step w

module _ (G : Given) (M : Mode) (phi : Float) (o : Order) where
  groups_by : (k left g : ℕ) (total : Float) → ((s : Float) → answer_step (onward G M phi o k left g total s).answer ≡ true) → Fate (group_by (eqb k 1) G M phi o k g)
      → answer_step (groups_from G M phi o k (suc left) g total).answer ≡ true
  unfolding groups_from
  groups_by k left g total after (declines d t h) = ap answer_step (h (onward G M phi o k left g total)) ∙ t
  groups_by k left g total after (sums s h) = ap answer_step (h (onward G M phi o k left g total)) ∙ after s

  groups_step : (k left g : ℕ) (total : Float) → answer_step (groups_from G M phi o k left g total).answer ≡ true
  unfolding groups_from answers
  groups_step k zero g total = refl
  groups_step k (suc left) g total = groups_by k left g total (λ s. groups_step k left (g + 1) (with_sum total s)) (group_fate G M phi o (eqb k 1) k g)

  joint_by_lem : (terms : List Float) → Fate (terms_then terms) → answer_step (terms_then terms (joint_total M o)).answer ≡ true
  unfolding joint_total answers
  joint_by_lem terms (declines d t h) = ap answer_step (h (joint_total M o)) ∙ t
  joint_by_lem terms (sums s h) = ap answer_step (h (joint_total M o))

  joint_step_lem : (x : Scale) → scale_step x ≡ true → answer_step (after_joint x G M phi o).answer ≡ true
  unfolding after_joint answers
  joint_step_lem (unscaled d) t = t
  joint_step_lem (scaled L) t = let terms = build (joint_term G M phi o L) (size_of o ^ q_of G.design) in joint_by_lem terms (terms_fate terms)

-- so where it declines for another, the order choice did
other : (x : Result (Float × Order) Decline) (d : Decline) → answer_step x ≡ true → of_step d ≡ false → x ≡ Err d → ⊥
other x d t n e = ff (sym n ∙ ap answer_step (sym e) ∙ t)

module _ (G : Given) (wish : ℕ) (M : Mode) (phi : Float) where
  abbrev blocks : ℕ
  blocks = G.design.shape.count

  abbrev effects : ℕ
  effects = q_of G.design

  -- how many groups one block has, and how many effects a group
  abbrev groups : ℕ
  groups = G.design.shape.m !! 0

  abbrev several : ℕ
  several = G.design.shape.k !! 0

  product_chose : (c : Result Order Decline) (d : Decline) → of_step d ≡ false → (product_with c G M phi groups several).answer ≡ Err d → c ≡ Err d
  unfolding product_with answers
  product_chose (Err w) d n e = ap Err (ap (reason_in d) e)
  product_chose (Ok o) d n e = absurd (other (groups_from G M phi o several groups 0 zero_f).answer d (groups_step G M phi o several groups 0 zero_f) n e)

  joint_chose : (c : Result Order Decline) (d : Decline) → of_step d ≡ false → (joint_with c G M phi).answer ≡ Err d → c ≡ Err d
  unfolding joint_with answers
  joint_chose (Err w) d n e = ap Err (ap (reason_in d) e)
  joint_chose (Ok o) d n e =
      let x = block_scale effects M.system in
      absurd (other (after_joint x G M phi o).answer d (joint_step_lem G M phi o x (scale_step_lem effects M.system)) n e)

  -- what the order choice told, by the number of blocks
  chose : (b : Bool) (d : Decline) → of_step d ≡ false → (step_by b G wish M phi).answer ≡ Err d → cond b (product_order wish several) (joint_order wish effects) ≡ Err d
  unfolding step_by product_step joint_step
  chose true d n e = product_chose (product_order wish several) d n e
  chose false d n e = joint_chose (joint_order wish effects) d n e

  -- 1: a wish below 2, whatever else holds
  wish_step : (b : Bool) → wish < 2 → (step_by b G wish M phi).answer ≡ Err Wish
  unfolding step_by product_step product_with joint_step joint_with answers
  wish_step true l = rw ((wish_first wish 0 l).1 several) refl
  wish_step false l = rw (wish_first wish effects l).0 refl

  wish_only : (b : Bool) → cond b (product_order wish several) (joint_order wish effects) ≡ Err Wish → wish < 2
  wish_only true e = ⊎_elim (λ x. x.1) (λ x. absurd (omega (arith, ap decline_number x.0))) (product_declines wish several Wish e)
  wish_only false e = ⊎_elim (λ x. x.1) (λ x. absurd (omega (arith, ap decline_number x.0))) (joint_declines wish effects Wish e)

  pub wish_exactly : ((quadrature_of G wish M phi).answer ≡ Err Wish) ↔ (wish < 2)
  unfolding quadrature_of
  wish_exactly = (λ e. wish_only (eqb blocks 1) (chose (eqb blocks 1) Wish refl e), wish_step (eqb blocks 1))

  -- 2: then, of several blocks, no effect or more than 8
  effects_only : (b : Bool) → eqb blocks 1 ≡ b → cond b (product_order wish several) (joint_order wish effects) ≡ Err Effects → (2 ≤ wish) × (blocks ≡ 1 → ⊥) × ((effects ≡ 0) ⊎ (8 < effects))
  effects_only true t e =
      ⊎_elim (λ x. absurd (omega (arith, ap decline_number x.0))) (λ x. absurd (omega (arith, ap decline_number x.0))) (product_declines wish several Effects e)
  effects_only false t e =
      ⊎_elim (λ x. absurd (omega (arith, ap decline_number x.0))) (λ x. (x.1, eqb-false blocks 1 t, x.2)) (joint_declines wish effects Effects e)

  pub effects_exactly : ((quadrature_of G wish M phi).answer ≡ Err Effects) ↔ ((2 ≤ wish) × (blocks ≡ 1 → ⊥) × ((effects ≡ 0) ⊎ (8 < effects)))
  unfolding quadrature_of step_by joint_step joint_with answers
  effects_exactly = (λ e. effects_only (eqb blocks 1) refl (chose (eqb blocks 1) Effects refl e), λ h. rw (ne_eqb blocks 1 h.1, effects_next wish effects h.0 h.2) refl)

  -- 3: then, of one block, more than five effects a group
  cap_only : (b : Bool) → eqb blocks 1 ≡ b → cond b (product_order wish several) (joint_order wish effects) ≡ Err Cap → (2 ≤ wish) × (blocks ≡ 1) × (6 ≤ several)
  cap_only true t e =
      ⊎_elim (λ x. absurd (omega (arith, ap decline_number x.0))) (λ x. (x.1, eqb-true blocks 1 t, x.2)) (product_declines wish several Cap e)
  cap_only false t e =
      ⊎_elim (λ x. absurd (omega (arith, ap decline_number x.0))) (λ x. absurd (omega (arith, ap decline_number x.0))) (joint_declines wish effects Cap e)

  pub cap_exactly : ((quadrature_of G wish M phi).answer ≡ Err Cap) ↔ ((2 ≤ wish) × (blocks ≡ 1) × (6 ≤ several))
  unfolding quadrature_of step_by product_step product_with answers
  cap_exactly = (λ e. cap_only (eqb blocks 1) refl (chose (eqb blocks 1) Cap refl e), λ h. rw (eq-eqb blocks 1 h.1, product_cap wish several h.0 h.2) refl)
