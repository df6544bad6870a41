-- What became of the tries of a call: the four parts add up to the tries, and there is one accepted try for each solve, but for the last solve of a call that ends with 12. Document 02, P9. Assumes nothing.
use Rattle.family.specs.declared.carried.CarriedFamily.{CarriedFamily}
use Rattle.family.specs.declared.carried.CarriedLink.{CarriedLink}
use Rattle.model.specs.declared.ends.Refusal.{Refusal}
use Rattle.std.specs.Prelude.{Result, Ok, Err}
use mathlib.Core.Path.{◌≡◌, refl, sym}
use mathlib.Core.Bool.{Bool, true, false}
use mathlib.Core.List.{List}
use mathlib.Core.Logic.{inr}
use Prim.Native.Nat.{ℕ, ◌+◌, ◌≤◌}
use native.Mathlib.Omega.{arith}
use lib.Ieee.{Float}
use Rattle.model.specs.Account.{AddsUp, Accepts}
use Rattle.model.specs.Answer.{refused_answer, unfitted_answer, fitted_answer}
use Rattle.model.specs.Inputs.{Inputs}
use Rattle.model.specs.Items.{Item, tally}
use Rattle.model.specs.Names.{limit_of}
use Rattle.model.specs.declared.counts.Account.{Account}
use Rattle.model.specs.declared.ends.Answer.{Answer}
use Rattle.model.specs.declared.ends.End.TheVariants.{SystemPivot, NormalPivot, NoStep, NoStop}
use Rattle.model.specs.declared.sizes.Shape.{Shape}
use Rattle.model.specs.declared.sizes.Settings.{Settings}
use Rattle.model.proofs.Parts.{tally_parts}
use Rattle.family.specs.Family.{uses_dispersion}
use Rattle.rule.specs.Given.{Given, n_of}
use Rattle.rule.specs.Run.{Ending, stopped, failed, run_of}
use Rattle.rule.proofs.Accepted.{stuck_in}
use Rattle.agq_rule.specs.Inner.{with_points, after_run, inner_with, inner_of}
use Rattle.agq_rule.proofs.Caps.{inner_paid}
use Rattle.table.specs.Table.{table_of}
use Rattle.dispersion.specs.Phi.{effective_n}
use Rattle.dispersion.specs.Rounds.{Result as FitResult, result, no_result, Dispersed}
use Rattle.dispersion.proofs.Accepted.{stuck_by, TotalPaid, loop_paid, fixed_paid}
use Rattle.call.specs.Fit.{Fitted, sum_of, result_by, total_of, inner_at, fit_by, fit_of, result_answer, answer_of}
use Rattle.call.specs.Call.{Lent, lengths_of, call_given, call_means, fit_left, call_by, call_of}
use Rattle.call.proofs.Leaves.{asked_fit}
use Rattle.call.proofs.When.{not_both}

-- ---- the fit
module _ (G : Given) (mu : List Float) (wish L : ℕ) where
  ending_stuck : (phi : Float) (is : List Item) (x : Ending) → stuck_by (result_by (after_run x G wish phi is).ending) ≡ stuck_in x
  unfolding after_run with_points result_by
  ending_stuck phi is (failed e) = refl
  ending_stuck phi is (stopped M) = refl

  inner_at_paid : (phi : Float) → TotalPaid (inner_at G mu wish L phi)
  unfolding inner_at total_of inner_of inner_with
  inner_at_paid phi =
      let o = run_of G phi L mu in
      rw (ending_stuck phi o.items o.ending) (inner_paid G wish phi L mu)

  by_paid : (b : Bool) → TotalPaid (fit_by b G mu wish L)
  unfolding fit_by
  by_paid true = loop_paid (effective_n (n_of G) G.weights) sum_of (inner_at G mu wish L) inner_at_paid
  by_paid false = fixed_paid (effective_n (n_of G) G.weights) sum_of (inner_at G mu wish L) inner_at_paid

  pub fit_paid : TotalPaid (fit_of G mu wish L)
  unfolding fit_of
  fit_paid = by_paid (uses_dispersion G.family)

-- ---- the answer
-- what an answer tells of its tries
record Parted (a : Answer) : Type 0 where
  parts : AddsUp a.account
  accepts : Accepts a.account
  all : (a.number ≡ 12 → ⊥) → a.account.ok ≡ a.account.solves
  stuck : a.number ≡ 12 → a.account.ok + 1 ≡ a.account.solves

by_result : (x : FitResult (Dispersed Fitted)) (c : Account) → AddsUp c → c.solves ≡ c.ok + stuck_by x → Parted (result_answer x c)
unfolding result_answer unfitted_answer fitted_answer
by_result (result d) c p q = record { parts = p; accepts = omega (arith, q); all = λ h. omega (arith, q); stuck = λ h. absurd (omega (arith, h)) }
by_result (no_result SystemPivot) c p q = record { parts = p; accepts = omega (arith, q); all = λ h. omega (arith, q); stuck = λ h. absurd (omega (arith, h)) }
by_result (no_result NormalPivot) c p q = record { parts = p; accepts = omega (arith, q); all = λ h. omega (arith, q); stuck = λ h. absurd (omega (arith, h)) }
by_result (no_result NoStep) c p q = record { parts = p; accepts = omega (arith, q); all = λ h. absurd (h refl); stuck = λ h. omega (arith, q) }
by_result (no_result NoStop) c p q = record { parts = p; accepts = omega (arith, q); all = λ h. omega (arith, q); stuck = λ h. absurd (omega (arith, h)) }

-- ---- every call, refused ones too
module _ (t : Settings) (s : Shape) (I : Inputs) (L : Lent) where
  by_verdict : (v : Result (CarriedFamily × CarriedLink) Refusal) → Parted (call_by v t s I L).answer
  unfolding call_by refused_answer fit_left answer_of tally
  by_verdict (Err r) = record { parts = refl; accepts = omega arith; all = λ h. refl; stuck = λ h. absurd (not_both r 12 (sym h) (inr (omega arith, omega arith))) }
  by_verdict (Ok (f, l)) =
      let fit = asked_fit f l t s I in
      by_result fit.outcome (tally fit.items) (tally_parts fit.items) (fit_paid (call_given f l t s I) (call_means f l t s I) t.n_agq (limit_of t.limit t.link))

  parted : Parted (call_of t s I L).answer
  unfolding call_of
  parted = by_verdict (table_of 1 t s I (lengths_of L))

  -- refused for eta, for a mean, for PWRSS, and accepted: together they are the tries
  pub call_parts : let a = (call_of t s I L).answer.account in a.eta + a.mean + a.pwrss + a.ok ≡ a.tries
  call_parts = parted.parts

  -- accepted steps never exceed the solves
  pub call_accepted : (call_of t s I L).answer.account.ok ≤ (call_of t s I L).answer.account.solves
  call_accepted = parted.accepts

  -- they are as many, unless the call ended with 12
  pub call_all : ((call_of t s I L).answer.number ≡ 12 → ⊥) → (call_of t s I L).answer.account.ok ≡ (call_of t s I L).answer.account.solves
  call_all = parted.all

  -- and then one less: no try of the last solve was accepted
  pub call_stuck : (call_of t s I L).answer.number ≡ 12 → (call_of t s I L).answer.account.ok + 1 ≡ (call_of t s I L).answer.account.solves
  call_stuck = parted.stuck
