-- The number that a call answers: each of the table exactly when the table says, 0 or 10 to 13 exactly when every test is passed, 5 never. Assumes nothing.
use mathlib.Core.Path.{◌≡◌, refl, sym, ap, ◌∙◌}
use mathlib.Core.Logic.{◌↔◌, inl, inr, ⊎_elim}
use Prim.Native.Nat.{ℕ, zero, suc, ◌≤◌}
use native.Mathlib.Omega.{arith}
use Rattle.base.proofs.Doubles.{ff}
use Rattle.model.specs.Answer.{refusal_number, unfitted_answer, fitted_answer}
use Rattle.model.specs.Inputs.{Inputs}
use Rattle.model.specs.Items.{tally}
use Rattle.model.specs.declared.counts.Account.{Account}
use Rattle.model.specs.declared.ends.Refusal.{Refusal}
use Rattle.model.specs.declared.ends.Refusal.TheVariants.{OutOfRange, Responses, Lengths, Work, SparseRows, NotFinite, LinkForFamily, ResponseRange, StartFit}
use Rattle.model.specs.declared.sizes.Shape.{Shape}
use Rattle.model.specs.declared.sizes.Settings.{Settings}
use Rattle.model.proofs.Answers.{refusal_range, no_five, end_range}
use Rattle.family.specs.Carried.{carried_family, carried_link}
use Rattle.table.specs.When.{GivenWhen, PastAll}
use Rattle.table.proofs.When.{decided, refused_when, accepted_when}
use Rattle.dispersion.specs.Rounds.{Result, result, no_result, Dispersed}
use Rattle.call.specs.Fit.{Fitted, result_answer, answer_of}
use Rattle.call.specs.Call.{Lent, lengths_of, Left, fit_left, call_of, FitNumber}
use Rattle.call.proofs.Leaves.{asked_fit, refused_left, accepted_left}

-- ---- refusals by their numbers
-- the refusal with a number
abbrev refusal_of : ℕ → Refusal
refusal_of (suc (suc zero)) = Lengths
refusal_of (suc (suc (suc zero))) = NotFinite
refusal_of (suc (suc (suc (suc zero)))) = LinkForFamily
refusal_of (suc (suc (suc (suc (suc zero))))) = OutOfRange
refusal_of (suc (suc (suc (suc (suc (suc zero)))))) = SparseRows
refusal_of (suc (suc (suc (suc (suc (suc (suc zero))))))) = Work
refusal_of (suc (suc (suc (suc (suc (suc (suc (suc zero)))))))) = Responses
refusal_of (suc (suc (suc (suc (suc (suc (suc (suc (suc zero))))))))) = ResponseRange
refusal_of (suc (suc (suc (suc (suc (suc (suc (suc (suc (suc n)))))))))) = StartFit
refusal_of zero = OutOfRange
refusal_of (suc zero) = OutOfRange

refusal_back : (x : Refusal) → refusal_of (refusal_number x) ≡ x
refusal_back OutOfRange = refl
refusal_back Responses = refl
refusal_back Lengths = refl
refusal_back Work = refl
refusal_back SparseRows = refl
refusal_back NotFinite = refl
refusal_back LinkForFamily = refl
refusal_back ResponseRange = refl
refusal_back StartFit = refl

pub same_refusal : (x y : Refusal) → refusal_number x ≡ refusal_number y → x ≡ y
same_refusal x y e = sym (refusal_back x) ∙ (ap refusal_of e ∙ refusal_back y)

-- ---- the number of an accepted call
fit_number : (x : Result (Dispersed Fitted)) (a : Account) → FitNumber (result_answer x a).number
unfolding result_answer unfitted_answer fitted_answer
fit_number (result d) a = inl refl
fit_number (no_result e) a = inr (end_range e)

-- no refusal has one of the numbers of an accepted call
pub not_both : (x : Refusal) (n : ℕ) → n ≡ refusal_number x → FitNumber n → ⊥
not_both x n e w =
    let r = refusal_range x in
    ⊎_elim (λ (z : n ≡ 0). omega (arith, r.0))
    (λ (z : (10 ≤ n) × (n ≤ 13)). ⊎_elim (λ (few : refusal_number x ≤ 9). omega (arith, few, z.0)) (λ (last : refusal_number x ≡ 27). omega (arith, last, z.1)) r.1)
    w

module _ (t : Settings) (s : Shape) (I : Inputs) (L : Lent) where
  refused : (x : Refusal) → GivenWhen 1 t s I (lengths_of L) x → (call_of t s I L).answer.number ≡ refusal_number x
  refused x g = ap (λ (z : Left). z.answer.number) (refused_left t s I L x ((refused_when 1 t s I (lengths_of L) x).1 g))

  accepted : PastAll 1 t s I (lengths_of L) → FitNumber (call_of t s I L).answer.number
  unfolding fit_left answer_of
  accepted g =
      let f = carried_family t.family in
      let l = carried_link t.link in
      let fit = asked_fit f l t s I in
      rw (accepted_left t s I L f l ((accepted_when 1 t s I (lengths_of L) f l).1 (g, (refl, refl)))) (fit_number fit.outcome (tally fit.items))

  -- a number of the table
  pub refused_exactly : (x : Refusal) → ((call_of t s I L).answer.number ≡ refusal_number x) ↔ GivenWhen 1 t s I (lengths_of L) x
  refused_exactly x = (
    λ e.
        ⊎_elim
        (λ (d : (y : Refusal) × GivenWhen 1 t s I (lengths_of L) y). let q : d.0 ≡ x = same_refusal d.0 x (sym (refused d.0 d.1) ∙ e) in rw q at d.1)
        (λ (d : PastAll 1 t s I (lengths_of L)). absurd (not_both x _ e (accepted d)))
        (decided 1 t s I (lengths_of L)),
    refused x,
  )

  -- 0 and 10 to 13
  pub accepted_exactly : FitNumber (call_of t s I L).answer.number ↔ PastAll 1 t s I (lengths_of L)
  accepted_exactly = (
    λ e.
        ⊎_elim (λ (d : (y : Refusal) × GivenWhen 1 t s I (lengths_of L) y). absurd (not_both d.0 _ (refused d.0 d.1) e)) (λ (d : PastAll 1 t s I (lengths_of L)). d)
        (decided 1 t s I (lengths_of L)),
    accepted,
  )

  -- a call of one response is never refused for the number of its responses
  pub never_eight : (call_of t s I L).answer.number ≡ 8 → ⊥
  unfolding GivenWhen
  never_eight e = ff (sym ((refused_exactly Responses).0 e).1)

  -- 5 occurs no longer (document 02, P8)
  pub never_five : (call_of t s I L).answer.number ≡ 5 → ⊥
  never_five e =
      ⊎_elim (λ (d : (y : Refusal) × GivenWhen 1 t s I (lengths_of L) y). no_five d.0 (sym (refused d.0 d.1) ∙ e))
      (λ (d : PastAll 1 t s I (lengths_of L)). ⊎_elim (λ (z : (call_of t s I L).answer.number ≡ 0). omega (arith, z, e)) (λ (z : (10 ≤ (call_of t s I L).answer.number) × ((call_of t s I L).answer.number ≤ 13)). omega (arith, z.0, e)) (accepted d))
      (decided 1 t s I (lengths_of L))
