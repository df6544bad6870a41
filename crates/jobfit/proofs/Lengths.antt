-- The results of a fitted call are as long as the sizes ask: every list is made with its length, in the solve, in the tries and of the last mode. Assumes nothing.
use Rattle.model.specs.declared.ends.Refusal.{Refusal}
use Rattle.std.specs.Prelude.{Option, Some, None, Ok, Err, ⊤, Result}
use Prim.{Unit, tt}
use mathlib.Core.Path.{◌≡◌, refl, ◌∙◌}
use mathlib.Core.Bool.{Bool, true, false}
use mathlib.Core.List.{List}
use Prim.Native.Nat.{ℕ, zero, suc, ◌+◌, ◌*◌}
use native.Mathlib.Omega.{arith}
use lib.Ieee.{Float}
use lib.ListN.{length}
use Rattle.base.specs.Number.{◌⊗◌, one_f, half_f, finite}
use Rattle.base.specs.Sum.{all_to, finite_at}
use Rattle.base.proofs.Fills.{build_length, matrix_length}
use Rattle.base.proofs.InPlace.{length_by, length_down}
use Rattle.model.specs.Answer.{end_number}
use Rattle.model.specs.Caps.{tries_cap}
use Rattle.model.specs.Items.{Item, a_try}
use Rattle.model.specs.Names.{limit_of}
use Rattle.model.specs.declared.ends.End.{End}
use Rattle.model.specs.declared.ends.End.TheVariants.{SystemPivot, NormalPivot, NoStep, NoStop}
use Rattle.model.specs.declared.sizes.Shape.{Shape}
use Rattle.model.specs.declared.sizes.Settings.{Settings}
use Rattle.family.specs.Carried.{link_of}
use Rattle.family.specs.Family.{uses_dispersion}
use Rattle.family.specs.declared.carried.CarriedFamily.{CarriedFamily}
use Rattle.family.specs.declared.carried.CarriedLink.{CarriedLink}
use Rattle.factor.specs.Factor.{ldl_end, cholesky_of, cholesky_end}
use Rattle.factor.specs.Substitution.{forward, backward, cholesky_solve}
use Rattle.rule.specs.Given.{Design, Given, q_of, n_of}
use Rattle.rule.specs.Working.{working_weights, working_responses}
use Rattle.rule.specs.Solve.{Solved, Solve, solved, unsolved, Reduced, system_of, factor_of, normal_of, normal_side, beta_of, effects_after, found_with, found_beta, found, after_root, solve_root, solve_normal, solve_reduced, after_factor, solve_factor, solve_system, solve_working, solve_of}
use Rattle.rule.specs.Try.{Trial, Move, Tried, refused, moves, Search, found_move, no_move, candidate_of, fine_eta_at, means_of, pwrss_of, after_pwrss, try_pwrss, after_means, try_means, after_eta, try_eta, try_of, item_before, after_try, tries_from, tries_of, trial_of}
use Rattle.rule.specs.Stop.{Mode, stops, mode_fit, mode_sum, mode_devs, mode_of}
use Rattle.rule.specs.Run.{Ending, stopped, failed, Outcome, State, items_before, failed_after, after_stop, moved, after_search, after_solve, run_from, start_at, run_of}
use Rattle.rule.specs.Results.{v_from, se_of, z_values, residuals_of}
use Rattle.agq_rule.specs.Inner.{with_points, after_run, inner_with, inner_of}
use Rattle.dispersion.specs.Phi.{effective_n, round_of}
use Rattle.dispersion.specs.Rounds.{Result as FitResult, result, no_result, Total, Dispersed, total_before, with_flag, last_fit, after_round, after_fit, dispersion_from, dispersion_of, fixed_of}
use Rattle.results.specs.Nine.{Results, results_from, results_of}
use Rattle.model.specs.Inputs.{Inputs}
use Rattle.table.specs.Table.{table_of}
use Rattle.table.proofs.Accepting.{accepted_sound}
use Rattle.call.specs.Fit.{Fitted, sum_of, result_by, total_of, inner_at, fit_by, fit_of}
use Rattle.call.specs.Call.{Lent, lengths_of, call_given, call_means, call_of}
use Rattle.call.proofs.Leaves.{refused_left, asked_fit, unfitted_answer_lem, fitted_results}
use Rattle.jobfit.proofs.Lent.{refusal_some}

-- ---- a move: n numbers in each list
abbrev MoveFits : ℕ → Move → Type 0
MoveFits n m = (length m.eta ≡ n) × (length m.mu ≡ n)

abbrev TriedFits : ℕ → Tried → Type 0
TriedFits n (refused f) = Unit {0}
TriedFits n (moves m) = MoveFits n m

abbrev SearchFits : ℕ → Search → Type 0
SearchFits n (no_move is) = Unit {0}
SearchFits n (found_move m is) = MoveFits n m

module _ (T : Trial) where
  pwrss_fits : (b : Bool) (c m : List Float) (r : Float) → length c ≡ T.n → length m ≡ T.n → TriedFits T.n (after_pwrss b c m r)
  unfolding after_pwrss
  pwrss_fits false c m r k l = tt
  pwrss_fits true c m r k l = (k, l)

  means_fit : (b : Bool) (c m : List Float) → length c ≡ T.n → length m ≡ T.n → TriedFits T.n (after_means b T c m)
  unfolding after_means try_pwrss
  means_fit false c m k l = tt
  means_fit true c m k l = pwrss_fits (finite (pwrss_of T c)) c m (pwrss_of T c) k l

  eta_fits : (b : Bool) (c : List Float) → length c ≡ T.n → TriedFits T.n (after_eta b T c)
  unfolding after_eta try_means means_of
  eta_fits false c k = tt
  eta_fits true c k = means_fit (all_to T.n (finite_at (means_of T c))) c (means_of T c) k (build_length _ _)

  try_fits : (step : Float) → TriedFits T.n (try_of T step)
  unfolding try_of try_eta candidate_of
  try_fits step = eta_fits (all_to T.n (fine_eta_at T.link (candidate_of T step))) (candidate_of T step) (build_length _ _)

  before_fits : (i : Item) (x : Search) → SearchFits T.n x → SearchFits T.n (item_before i x)
  unfolding item_before
  before_fits i (found_move m is) k = k
  before_fits i (no_move is) k = k

  after_try_lem : (x : Tried) (rest : Float → Search) (step : Float) → TriedFits T.n x → ((next : Float) → SearchFits T.n (rest next)) → SearchFits T.n (after_try x rest step)
  unfolding after_try
  after_try_lem (moves m) rest step k all = k
  after_try_lem (refused f) rest step k all = before_fits (a_try f) (rest (step ⊗ half_f)) (all (step ⊗ half_f))

  tries_fit : (f : ℕ) (step : Float) → SearchFits T.n (tries_from T f step)
  unfolding tries_from
  tries_fit zero step = tt
  tries_fit (suc f) step = after_try_lem (try_of T step) (tries_from T f) step (try_fits step) (λ next. tries_fit f next)

-- ---- a solve: p numbers in β, q in u
abbrev SolvedFits : Design → Solved → Type 0
SolvedFits D v = (length v.beta ≡ D.p) × (length v.u ≡ q_of D)

abbrev SolveFits : Design → Solve → Type 0
SolveFits D (solved v) = SolvedFits D v
SolveFits D (unsolved e) = Unit {0}

module _ (D : Design) where
  found_fits : (r : Reduced) (C : List Float) → SolvedFits D (found D r C)
  unfolding found found_beta found_with beta_of cholesky_solve forward backward normal_side effects_after
  found_fits r C = (length_down _ _ _ _ ∙ length_by _ _ _ ∙ build_length _ _, build_length _ _)

  root_fits : (x : Result ⊤ ℕ) (r : Reduced) (C : List Float) → SolveFits D (after_root x D r C)
  unfolding after_root
  root_fits (Err i) r C = tt
  root_fits (Ok tt) r C = found_fits r C

  reduced_fits : (r : Reduced) → SolveFits D (solve_reduced D r)
  unfolding solve_reduced solve_normal solve_root
  reduced_fits r = let N = normal_of D r.w r.W in root_fits (cholesky_end D.p N (cholesky_of D.p N)) r (cholesky_of D.p N)

  factor_fits : (x : Result ⊤ ℕ) (w z A F : List Float) → SolveFits D (after_factor x D w z A F)
  unfolding after_factor
  factor_fits (Err i) w z A F = tt
  factor_fits (Ok tt) w z A F = reduced_fits _

solve_fits : (G : Given) (phi : Float) (eta mu : List Float) → SolveFits G.design (solve_of G phi eta mu)
unfolding solve_of solve_working solve_system solve_factor
solve_fits G phi eta mu =
    let w = working_weights G phi eta mu in
    let A = system_of G.design w in
    let F = factor_of G.design A in
    factor_fits G.design (ldl_end (q_of G.design) F) w (working_responses G eta mu) A F

-- ---- a mode
record ModeFits (G : Given) (M : Mode) : Type 0 where
  beta : length M.beta ≡ G.design.p
  u : length M.u ≡ q_of G.design
  eta : length M.eta ≡ n_of G
  mu : length M.mu ≡ n_of G

abbrev EndingFits : Given → Ending → Type 0
EndingFits G (stopped M) = ModeFits G M
EndingFits G (failed e) = Unit {0}

abbrev ResultFits : Given → FitResult Fitted → Type 0
ResultFits G (result f) = ModeFits G f.mode
ResultFits G (no_result e) = Unit {0}

module _ (G : Given) (phi : Float) where
  stop_fits : (b : Bool) (M : Mode) (rest : State → Outcome) (s : State) → ModeFits G M → EndingFits G (rest s).ending → EndingFits G (after_stop b M rest s).ending
  unfolding after_stop
  stop_fits true M rest s k l = k
  stop_fits false M rest s k l = l

  mode_fits : (i : ℕ) (v : Solved) (m : Move) → SolvedFits G.design v → MoveFits (n_of G) m → ModeFits G (mode_of G i v m)
  unfolding mode_of mode_devs mode_sum mode_fit
  mode_fits i v m k l = record { beta = k.0; u = k.1; eta = l.0; mu = l.1 }

  search_fits : (x : Search) (v : Solved) (s : State) (rest : State → Outcome) → SearchFits (n_of G) x → SolvedFits G.design v → ((t : State) → EndingFits G (rest t).ending) → EndingFits G (after_search x G v s rest).ending
  unfolding after_search items_before failed_after
  search_fits (no_move is) v s rest k l all = tt
  search_fits (found_move m is) v s rest k l all =
      stop_fits (stops s.old m.pwrss) (mode_of G (s.done + 1) v m) rest (moved s m) (mode_fits (s.done + 1) v m l k) (all (moved s m))

  after_solve_lem : (x : Solve) (s : State) (rest : State → Outcome) → SolveFits G.design x → ((t : State) → EndingFits G (rest t).ending) → EndingFits G (after_solve x G s rest).ending
  unfolding after_solve failed_after tries_of trial_of
  after_solve_lem (unsolved e) s rest k all = tt
  after_solve_lem (solved v) s rest k all =
      let T = trial_of G v s.eta in
      search_fits (tries_of T) v s rest (tries_fit T (tries_cap (link_of T.link)) one_f) k all

  run_fits : (f : ℕ) (s : State) → EndingFits G (run_from G phi f s).ending
  unfolding run_from failed_after
  run_fits zero s = tt
  run_fits (suc f) s = after_solve_lem (solve_of G phi s.eta s.mu) s (run_from G phi f) (solve_fits G phi s.eta s.mu) (λ t. run_fits f t)

  inner_fits : (x : Ending) (wish : ℕ) (is : List Item) → EndingFits G x → ResultFits G (result_by (after_run x G wish phi is).ending)
  unfolding after_run with_points result_by
  inner_fits (failed e) wish is k = tt
  inner_fits (stopped M) wish is k = k

  at_fits : (mu : List Float) (wish L : ℕ) → ResultFits G (inner_at G mu wish L phi).outcome
  unfolding inner_at total_of inner_of inner_with run_of items_before
  at_fits mu wish L = inner_fits (run_from G phi L (start_at G mu)).ending wish _ (run_fits L (start_at G mu))

-- ---- the last of a fit
abbrev LastFits : Given → FitResult (Dispersed Fitted) → Type 0
LastFits G (result d) = ModeFits G d.last.mode
LastFits G (no_result e) = Unit {0}

module _ (G : Given) (count : Float) (inner : Float → Total Fitted) (fits : (phi : Float) → ResultFits G (inner phi).outcome) where
  flag_fits : (flag : Bool) (phi : Float) (x : FitResult Fitted) → ResultFits G x → LastFits G (with_flag flag phi x)
  unfolding with_flag
  flag_fits flag phi (result f) k = k
  flag_fits flag phi (no_result e) k = tt

  round_fits : (r : Option Float) (f : Fitted) (phi : Float) (is : List Item) (rest : Float → Total (Dispersed Fitted)) → ModeFits G f.mode → ((next : Float) → LastFits G (rest next).outcome) → LastFits G (after_round r f phi is rest).outcome
  unfolding after_round total_before
  round_fits None f phi is rest k all = k
  round_fits (Some next) f phi is rest k all = all next

  after_fit_lem : (x : FitResult Fitted) (phi : Float) (is : List Item) (rest : Float → Total (Dispersed Fitted)) → ResultFits G x → ((next : Float) → LastFits G (rest next).outcome) → LastFits G (after_fit count sum_of phi x is rest).outcome
  unfolding after_fit
  after_fit_lem (no_result e) phi is rest k all = tt
  after_fit_lem (result f) phi is rest k all = round_fits (round_of count phi (sum_of f)) f phi is rest k all

  loop_fits : (left : ℕ) (phi : Float) → LastFits G (dispersion_from count sum_of inner left phi).outcome
  unfolding dispersion_from last_fit
  loop_fits zero phi = flag_fits false phi (inner phi).outcome (fits phi)
  loop_fits (suc left) phi = after_fit_lem (inner phi).outcome phi (inner phi).items (dispersion_from count sum_of inner left) (fits phi) (λ next. loop_fits left next)

by_fits : (b : Bool) (G : Given) (mu : List Float) (wish L : ℕ) → LastFits G (fit_by b G mu wish L).outcome
unfolding fit_by dispersion_of fixed_of last_fit
by_fits true G mu wish L = loop_fits G (effective_n (n_of G) G.weights) (inner_at G mu wish L) (λ phi. at_fits G phi mu wish L) 240 one_f
by_fits false G mu wish L = flag_fits G (effective_n (n_of G) G.weights) (inner_at G mu wish L) (λ phi. at_fits G phi mu wish L) true one_f (inner_at G mu wish L one_f).outcome (at_fits G one_f mu wish L)

-- ---- the nine results
pub record ResultsFit (n p q : ℕ) (R : Results) : Type 0 where
  pub beta : length R.beta ≡ p
  pub se : length R.se ≡ p
  pub z : length R.z ≡ p
  pub u : length R.u ≡ q
  pub b : length R.b ≡ q
  pub mu : length R.mu ≡ n
  pub eta : length R.eta ≡ n
  pub residual : length R.residual ≡ n
  pub v : length R.v ≡ p * p

of_mode : (G : Given) (M : Mode) → ModeFits G M → ResultsFit (n_of G) G.design.p (q_of G.design) (results_of G M)
unfolding results_of results_from se_of z_values residuals_of v_from
of_mode G M k =
    record {
      beta = k.beta;
      se = build_length _ _;
      z = build_length _ _;
      u = k.u;
      b = build_length _ _;
      mu = k.mu;
      eta = k.eta;
      residual = build_length _ _;
      v = matrix_length _ _ _;
    }

end_some : (e : End) → end_number e ≡ 0 → ⊥
end_some SystemPivot e = absurd (omega arith)
end_some NormalPivot e = absurd (omega arith)
end_some NoStep e = absurd (omega arith)
end_some NoStop e = absurd (omega arith)

module _ (t : Settings) (s : Shape) (I : Inputs) (L : Lent) (z : (call_of t s I L).answer.number ≡ 0) where
  accepted_fits : (f : CarriedFamily) (l : CarriedLink) → table_of 1 t s I (lengths_of L) ≡ Ok (f, l) → ResultsFit t.n t.p t.rows (call_of t s I L).lent.results
  unfolding fit_of call_given
  accepted_fits f l e =
      by (asked_fit f l t s I).outcome refl
      (by_fits (uses_dispersion (call_given f l t s I).family) (call_given f l t s I) (call_means f l t s I) t.n_agq (limit_of t.limit t.link))
    where
      by : (x : FitResult (Dispersed Fitted)) → (asked_fit f l t s I).outcome ≡ x → LastFits (call_given f l t s I) x → ResultsFit t.n t.p t.rows (call_of t s I L).lent.results
      by (no_result end) q k = absurd (end_some end (rw (unfitted_answer_lem t s I L f l e end q) at z))
      by (result d) q k =
          rw (fitted_results t s I L f l e d q, ← (accepted_sound 1 t s I (lengths_of L) f l e).sized.effects) (of_mode (call_given f l t s I) d.last.mode k)

  -- number 0
  pub results_fit : ResultsFit t.n t.p t.rows (call_of t s I L).lent.results
  results_fit = by (table_of 1 t s I (lengths_of L)) refl
    where
      by : (x : Result (CarriedFamily × CarriedLink) Refusal) → table_of 1 t s I (lengths_of L) ≡ x → ResultsFit t.n t.p t.rows (call_of t s I L).lent.results
      by (Err r) e = absurd (refusal_some r (rw (refused_left t s I L r e) at z))
      by (Ok (f, l)) e = accepted_fits f l e
