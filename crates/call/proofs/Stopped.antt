-- A call that is answered with number 0 took the first stop of its last inner fit, within the limit; without a free dispersion such a stop is taken. Assumes nothing.
use Rattle.std.specs.Prelude.{Ok}
use mathlib.Core.Path.{◌≡◌, refl, ap}
use mathlib.Core.Bool.{true, false}
use mathlib.Core.List.{List}
use Prim.Native.Nat.{ℕ, ◌≤◌}
use lib.Ieee.{Float}
use Rattle.base.specs.Number.{one_f}
use Rattle.base.proofs.Doubles.{ff}
use Rattle.model.specs.Answer.{fitted_answer}
use Rattle.model.specs.Items.{Item}
use Rattle.model.specs.Names.{limit_of}
use Rattle.model.specs.declared.sizes.Shape.{Shape}
use Rattle.model.specs.declared.sizes.Settings.{Settings}
use Rattle.model.specs.Inputs.{Inputs}
use Rattle.family.specs.Family.{uses_dispersion}
use Rattle.family.specs.declared.carried.CarriedFamily.{CarriedFamily}
use Rattle.family.specs.declared.carried.CarriedLink.{CarriedLink}
use Rattle.rule.specs.Given.{Given}
use Rattle.rule.specs.Stop.{Mode}
use Rattle.rule.specs.Run.{Ending, stopped, failed, start_at, run_of, FirstStop}
use Rattle.rule.proofs.Stopping.{run_stops}
use Rattle.agq_rule.specs.Steps.{quadrature_of}
use Rattle.agq_rule.specs.Inner.{with_points, after_run, inner_with, inner_of}
use Rattle.table.specs.Table.{table_of}
use Rattle.dispersion.specs.Rounds.{Result, result, no_result, Dispersed, with_flag, last_fit, fixed_of}
use Rattle.dispersion.proofs.Turns.{is_result}
use Rattle.call.specs.Fit.{Fitted, result_by, total_of, inner_at, fit_by, fit_of, result_answer, answer_of}
use Rattle.call.specs.Call.{Lent, lengths_of, call_given, call_means, results_after, fit_left, call_of, Taken}
use Rattle.call.proofs.Leaves.{asked_fit, accepted_left, fitted_number, zero_fitted}
use Rattle.call.proofs.Told.{fit_ran}

-- the fit of a result, g where there is none
abbrev fitted_in : Fitted → Result Fitted → Fitted
fitted_in g (result h) = h
fitted_in g (no_result e) = g

-- ---- an inner fit with a result stopped with its mode, and its integral is the quadrature there
module _ (G : Given) (mu : List Float) (wish : ℕ) (phi : Float) (g : Fitted) where
  record Stood (x : Ending) : Type 0 where
    ending : x ≡ stopped g.mode
    integral : g.integral ≡ (quadrature_of G wish g.mode phi).answer

  by_ending : (x : Ending) (is : List Item) → result_by (after_run x G wish phi is).ending ≡ result g → Stood x
  unfolding after_run with_points result_by
  by_ending (failed e) is h = absurd (ff (ap is_result h))
  by_ending (stopped M) is h =
      let same : record { mode = M; integral = (quadrature_of G wish M phi).answer } ≡ g = ap (fitted_in g) h in
      rw (← same) (record { ending = refl; integral = refl })

  stood : (L : ℕ) → (inner_at G mu wish L phi).outcome ≡ result g → Stood (run_of G phi L mu).ending
  unfolding inner_at total_of inner_of inner_with
  stood L h = let o = run_of G phi L mu in by_ending o.ending o.items h

-- ---- the call
module _ (t : Settings) (s : Shape) (I : Inputs) (L : Lent) (f : CarriedFamily) (l : CarriedLink) (e : table_of 1 t s I (lengths_of L) ≡ Ok (f, l)) where
  abbrev given : Given
  given = call_given f l t s I

  abbrev means : List Float
  means = call_means f l t s I

  abbrev limit : ℕ
  limit = limit_of t.limit t.link

  taken : (d : Dispersed Fitted) → (asked_fit f l t s I).outcome ≡ result d → Taken given means t.n_agq limit (call_of t s I L).answer (call_of t s I L).lent.results d.last.mode
  unfolding fit_left results_after answer_of result_answer fitted_answer
  taken d q =
      let w = stood given means t.n_agq d.phi d.last limit (fit_ran given means t.n_agq limit d q) in
      let r = (run_stops given d.phi limit means d.last.mode).0 w.ending in
      rw (accepted_left t s I L f l e, q) (record { first = r.0; within = r.1; iterations = refl; deviance = rw w.integral refl; order = rw w.integral refl; why = rw w.integral refl; results = refl })

  pub call_first_stop : (call_of t s I L).answer.number ≡ 0 → (k : Mode) × Taken given means t.n_agq limit (call_of t s I L).answer (call_of t s I L).lent.results k
  call_first_stop h = let z = zero_fitted t s I L f l e h in (z.0.last.mode, taken z.0 z.1)

  -- ---- and back, without a free dispersion: where the run at phi 1 has a first stop within the limit, the number is 0
  pub call_stop_taken : (k : Mode) → uses_dispersion f ≡ false → FirstStop given one_f (start_at given means) k → k.iterations ≤ limit → (call_of t s I L).answer.number ≡ 0
  unfolding call_given fit_of fit_by fixed_of last_fit with_flag inner_at total_of inner_of inner_with after_run with_points result_by
  call_stop_taken k u r w =
      let h : (run_of given one_f limit means).ending ≡ stopped k = (run_stops given one_f limit means k).1 (r, w) in
      fitted_number t s I L f l e
      (record { last = record { mode = k; integral = (quadrature_of given t.n_agq k one_f).answer }; phi = one_f; converged = true })
      (rw (u, h) refl)
