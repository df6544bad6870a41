-- What a fit reports: the phi is the one that its last inner fit ran with, a flag that is false tells of 241 inner fits, and without a free dispersion there is one. Assumes nothing.
use Rattle.std.specs.Prelude.{Ok}
use mathlib.Core.Path.{◌≡◌, refl, sym, ap, ◌∙◌}
use mathlib.Core.Bool.{Bool, true, false}
use mathlib.Core.List.{List}
use Prim.Native.Nat.{ℕ, ◌≤◌}
use native.Mathlib.Omega.{arith}
use lib.Ieee.{Float}
use Rattle.base.specs.Number.{one_f}
use Rattle.base.proofs.Doubles.{ff}
use Rattle.model.specs.Answer.{fitted_answer}
use Rattle.model.specs.Caps.{inner_cap_of}
use Rattle.model.specs.Items.{Item, is_fit, count_of, tally}
use Rattle.model.specs.Inputs.{Inputs}
use Rattle.model.specs.Names.{limit_of}
use Rattle.model.specs.declared.sizes.Shape.{Shape}
use Rattle.model.specs.declared.sizes.Settings.{Settings}
use Rattle.model.proofs.Tallies.{count_append}
use Rattle.family.specs.Family.{uses_dispersion}
use Rattle.family.specs.declared.carried.CarriedFamily.{CarriedFamily}
use Rattle.family.specs.declared.carried.CarriedLink.{CarriedLink}
use Rattle.rule.specs.Given.{Given, n_of}
use Rattle.rule.specs.Run.{Ending, stopped, failed, items_before, run_of}
use Rattle.agq_rule.specs.Steps.{quadrature_of}
use Rattle.agq_rule.specs.Inner.{with_points, after_run, inner_with, inner_of}
use Rattle.agq_rule.proofs.Caps.{inner_capped}
use Rattle.table.specs.Table.{table_of}
use Rattle.dispersion.specs.Phi.{effective_n}
use Rattle.dispersion.specs.Rounds.{Result, result, no_result, Dispersed, with_flag, last_fit, dispersion_of, fixed_of}
use Rattle.dispersion.proofs.Reported.{last_ran, phi_ran, unsettled_241}
use Rattle.call.specs.Fit.{Fitted, sum_of, total_of, inner_at, fit_by, fit_of, result_answer, answer_of}
use Rattle.call.specs.Call.{Lent, lengths_of, call_given, call_means, fit_left, call_of}
use Rattle.call.proofs.Leaves.{accepted_left, accepted_account, zero_fitted}

-- ---- an inner fit counts itself once
run_counts : (G : Given) (phi : Float) (L : ℕ) (mu : List Float) → 1 ≤ count_of is_fit (run_of G phi L mu).items
unfolding run_of items_before count_of
run_counts G phi L mu = omega arith

points_after : (x : Ending) (G : Given) (wish : ℕ) (phi : Float) (is : List Item) → count_of is_fit is ≤ count_of is_fit (after_run x G wish phi is).items
unfolding after_run with_points
points_after (failed e) G wish phi is = omega arith
points_after (stopped M) G wish phi is = omega (arith, count_append is_fit is (quadrature_of G wish M phi).items)

pub inner_counts : (G : Given) (mu : List Float) (wish L : ℕ) (phi : Float) → count_of is_fit (inner_at G mu wish L phi).items ≡ 1
unfolding inner_at total_of inner_of inner_with tally inner_cap_of
inner_counts G mu wish L phi =
    omega (arith, run_counts G phi L mu, points_after (run_of G phi L mu).ending G wish phi (run_of G phi L mu).items, (inner_capped G wish phi L mu).fits)

-- ---- the one fit without dispersion
-- the flag of a result, true where there is none
abbrev flag_in : {F : Type 0} → Result (Dispersed F) → Bool
flag_in (result d) = d.converged
flag_in (no_result e) = true

fixed_flag : {F : Type 0} (phi : Float) (x : Result F) → flag_in (with_flag true phi x) ≡ true
unfolding with_flag
fixed_flag phi (result f) = refl
fixed_flag phi (no_result e) = refl

module _ (G : Given) (mu : List Float) (wish L : ℕ) (d : Dispersed Fitted) where
  by_ran : (b : Bool) → (fit_by b G mu wish L).outcome ≡ result d → (inner_at G mu wish L d.phi).outcome ≡ result d.last
  unfolding fit_by dispersion_of fixed_of last_fit
  by_ran true e = phi_ran (effective_n (n_of G) G.weights) sum_of (inner_at G mu wish L) d 240 one_f e
  by_ran false e = last_ran (inner_at G mu wish L) d true one_f (inner_at G mu wish L one_f).outcome refl e

  by_all : (b : Bool) → (fit_by b G mu wish L).outcome ≡ result d → d.converged ≡ false → count_of is_fit (fit_by b G mu wish L).items ≡ 241
  unfolding fit_by fixed_of last_fit
  by_all true e u = unsettled_241 (effective_n (n_of G) G.weights) sum_of (inner_at G mu wish L) is_fit d (inner_counts G mu wish L) u e
  by_all false e u = absurd (ff (sym u ∙ (sym (ap flag_in e) ∙ fixed_flag one_f (inner_at G mu wish L one_f).outcome)))

  -- at the phi that is reported the inner fit comes to what is reported
  pub fit_ran : (fit_of G mu wish L).outcome ≡ result d → (inner_at G mu wish L d.phi).outcome ≡ result d.last
  unfolding fit_of
  fit_ran e = by_ran (uses_dispersion G.family) e

  -- a flag that is false tells of 241 inner fits
  pub flag_all : (fit_of G mu wish L).outcome ≡ result d → d.converged ≡ false → (tally (fit_of G mu wish L).items).fits ≡ 241
  unfolding fit_of tally
  flag_all e u = by_all (uses_dispersion G.family) e u

-- ---- a call with number 0 whose flag is false made 241 inner fits
module _ (t : Settings) (s : Shape) (I : Inputs) (A : Lent) (f : CarriedFamily) (l : CarriedLink) (e : table_of 1 t s I (lengths_of A) ≡ Ok (f, l)) where
  pub call_flag_all : (call_of t s I A).answer.number ≡ 0 → (call_of t s I A).answer.converged ≡ false → (call_of t s I A).answer.account.fits ≡ 241
  unfolding fit_left answer_of result_answer fitted_answer
  call_flag_all h u =
      let z = zero_fitted t s I A f l e h in
      let flag : z.0.converged ≡ false = rw (accepted_left t s I A f l e, z.1) at u in
      rw (accepted_account t s I A f l e) (flag_all (call_given f l t s I) (call_means f l t s I) t.n_agq (limit_of t.limit t.link) z.0 z.1 flag)

-- ---- without a free dispersion: one inner fit, whatever it comes to
pub one_fit_lem : (G : Given) (mu : List Float) (wish L : ℕ) → uses_dispersion G.family ≡ false → (tally (fit_of G mu wish L).items).fits ≡ 1
unfolding fit_of fit_by fixed_of last_fit tally
one_fit_lem G mu wish L u = rw u (inner_counts G mu wish L one_f)

pub call_one_fit : (t : Settings) (s : Shape) (I : Inputs) (A : Lent) (f : CarriedFamily) (l : CarriedLink) → table_of 1 t s I (lengths_of A) ≡ Ok (f, l) → uses_dispersion f ≡ false
    → (call_of t s I A).answer.account.fits ≡ 1
unfolding call_given
call_one_fit t s I A f l e u = rw (accepted_account t s I A f l e) (one_fit_lem (call_given f l t s I) (call_means f l t s I) t.n_agq (limit_of t.limit t.link) u)
