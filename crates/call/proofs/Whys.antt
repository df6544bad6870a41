-- The reason that a call tells: under number 0 it is 0 exactly where an order from 3 to 11 is told, and 1, 2 and 3 exactly where the order choice has them, in this order; under every other number it is 0. Assumes nothing.
use lib.Ieee.{Float}
use Rattle.quadrature.specs.declared.orders.Order.{Order}
use Rattle.model.specs.declared.ends.Refusal.{Refusal}
use Rattle.std.specs.Prelude.{Result, Ok, Err}
use mathlib.Core.Path.{◌≡◌, refl, sym, ap, ◌∙◌}
use mathlib.Core.Logic.{◌↔◌, ◌⊎◌}
use Prim.Native.Nat.{◌≤◌, ◌<◌}
use native.Mathlib.Omega.{arith}
use Rattle.base.specs.Sum.{◌!!◌}
use Rattle.model.specs.Answer.{refused_answer, unfitted_answer, fitted_answer}
use Rattle.model.specs.Inputs.{Inputs}
use Rattle.model.specs.Items.{tally}
use Rattle.model.specs.Shape.{effects_of}
use Rattle.model.specs.declared.counts.Account.{Account}
use Rattle.model.specs.declared.ends.Answer.{Answer}
use Rattle.model.specs.declared.sizes.Shape.{Shape}
use Rattle.model.specs.declared.sizes.Settings.{Settings}
use Rattle.model.proofs.Answers.{refusal_range, end_range}
use Rattle.family.specs.declared.carried.CarriedFamily.{CarriedFamily}
use Rattle.family.specs.declared.carried.CarriedLink.{CarriedLink}
use Rattle.quadrature.specs.Orders.{decline_number}
use Rattle.quadrature.specs.declared.orders.Decline.{Decline}
use Rattle.quadrature.specs.declared.orders.Decline.TheVariants.{Wish, Effects, Cap}
use Rattle.rule.specs.Stop.{Mode}
use Rattle.agq_rule.specs.Steps.{quadrature_of}
use Rattle.agq_rule.specs.Inner.{why_by}
use Rattle.agq_rule.proofs.Whys.{why_to, why_zero, why_names, wish_exactly, effects_exactly, cap_exactly}
use Rattle.table.specs.Table.{table_of}
use Rattle.dispersion.specs.Rounds.{Result as FitResult, result, no_result, Dispersed}
use Rattle.call.specs.Fit.{Fitted, result_answer, answer_of}
use Rattle.call.specs.Call.{Lent, lengths_of, call_given, fit_left, call_by, call_of}
use Rattle.call.proofs.Leaves.{asked_fit}
use Rattle.call.proofs.Stopped.{call_first_stop}

-- what an answer tells with its number, its order and its reason
record Reasoned (a : Answer) : Type 0 where
  used : a.number ≡ 0 → (a.why ≡ 0) ↔ ((3 ≤ a.order) × (a.order ≤ 11))
  none : (a.number ≡ 0 → ⊥) → a.why ≡ 0
  few : a.why ≤ 6

by_result : (x : FitResult (Dispersed Fitted)) (c : Account) → Reasoned (result_answer x c)
unfolding result_answer unfitted_answer fitted_answer
by_result (no_result e) c = record { used = λ h. absurd (omega (arith, h, end_range e)); none = λ h. refl; few = omega arith }
by_result (result d) c =
    let i = d.last.integral in
    record { used = λ h. why_zero i; none = λ h. absurd (h refl); few = why_to i }

module _ (t : Settings) (s : Shape) (I : Inputs) (L : Lent) where
  by_verdict : (v : Result (CarriedFamily × CarriedLink) Refusal) → Reasoned (call_by v t s I L).answer
  unfolding call_by refused_answer fit_left answer_of
  by_verdict (Err r) = record { used = λ h. absurd (omega (arith, h, (refusal_range r).0)); none = λ h. refl; few = omega arith }
  by_verdict (Ok (f, l)) = let fit = asked_fit f l t s I in by_result fit.outcome (tally fit.items)

  reasoned : Reasoned (call_of t s I L).answer
  unfolding call_of
  reasoned = by_verdict (table_of 1 t s I (lengths_of L))

  -- a fitted call tells no reason exactly where it tells an order from 3 to 11
  pub call_why_used : (call_of t s I L).answer.number ≡ 0 → ((call_of t s I L).answer.why ≡ 0) ↔ ((3 ≤ (call_of t s I L).answer.order) × ((call_of t s I L).answer.order ≤ 11))
  call_why_used = reasoned.used

  -- every other end and every refusal tells none
  pub call_why_none : ((call_of t s I L).answer.number ≡ 0 → ⊥) → (call_of t s I L).answer.why ≡ 0
  call_why_none = reasoned.none

  -- and a reason is 6 at most
  pub call_why_few : (call_of t s I L).answer.why ≤ 6
  call_why_few = reasoned.few

-- ---- the reasons of the order choice, of a fitted call: each exactly where it is the first that holds
module _ (t : Settings) (s : Shape) (I : Inputs) (L : Lent) (f : CarriedFamily) (l : CarriedLink) (e : table_of 1 t s I (lengths_of L) ≡ Ok (f, l)) (h : (call_of t s I L).answer.number ≡ 0) where
  -- the mode that was taken, and the quadrature there
  abbrev taken : Mode
  taken = (call_first_stop t s I L f l e h).0

  abbrev integral : Result (Float × Order) Decline
  integral = (quadrature_of (call_given f l t s I) t.n_agq taken (call_of t s I L).answer.phi).answer

  why_is : (call_of t s I L).answer.why ≡ why_by integral
  why_is = (call_first_stop t s I L f l e h).1.why

  named : (d : Decline) → decline_number d ≤ 3 → ((call_of t s I L).answer.why ≡ decline_number d) ↔ (integral ≡ Err d)
  unfolding why_by
  named d few = (λ q. why_names integral d few (sym why_is ∙ q), λ q. why_is ∙ ap why_by q)

  -- 1: the wish is below 2
  pub call_why_wish : ((call_of t s I L).answer.why ≡ 1) ↔ (t.n_agq < 2)
  call_why_wish =
      let n = named Wish (omega arith) in
      let x = wish_exactly (call_given f l t s I) t.n_agq taken (call_of t s I L).answer.phi in
      (λ q. x.0 (n.0 q), λ w. n.1 (x.1 w))

  -- 2: else, with several blocks, no effect or more than 8
  pub call_why_effects : ((call_of t s I L).answer.why ≡ 2) ↔ ((2 ≤ t.n_agq) × (s.count ≡ 1 → ⊥) × ((effects_of s ≡ 0) ⊎ (8 < effects_of s)))
  unfolding call_given
  call_why_effects =
      let n = named Effects (omega arith) in
      let x = effects_exactly (call_given f l t s I) t.n_agq taken (call_of t s I L).answer.phi in
      (λ q. x.0 (n.0 q), λ w. n.1 (x.1 w))

  -- 3: else, with one block, more than five effects a group
  pub call_why_cap : ((call_of t s I L).answer.why ≡ 3) ↔ ((2 ≤ t.n_agq) × (s.count ≡ 1) × (6 ≤ s.k !! 0))
  unfolding call_given
  call_why_cap =
      let n = named Cap (omega arith) in
      let x = cap_exactly (call_given f l t s I) t.n_agq taken (call_of t s I L).answer.phi in
      (λ q. x.0 (n.0 q), λ w. n.1 (x.1 w))
