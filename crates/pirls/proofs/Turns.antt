-- One turn of the run, and what each of its ends leaves. Assumes nothing.
use mathlib.Core.Path.{◌≡◌, refl, sym, ap, ◌∙◌}
use mathlib.Core.List.{List, [], ◌∷◌, ◌++◌}
use mathlib.Core.Bool.{Bool, true, false, not}
use mathlib.Core.Logic.{inl, inr}
use Prim.Native.Nat.{ℕ, suc, ◌+◌, ◌-◌, ◌*◌, ◌≤◌, ◌<◌}
use native.Mathlib.Omega.{arith}
use lib.ListN.{length}
use lib.Ieee.{Float}
use Rattle.base.specs.Number.{huge_f}
use Rattle.base.specs.Rows.{row, Apart, Only, Wrote}
use Rattle.base.proofs.Rows.{only_row, only_wide, only_trans, only_none}
use Rattle.layout.specs.Layout.{WorkRoom, MatricesLaid}
use Rattle.layout.specs.WorkRows.{mu_row, deviance_row, rows_length}
use Rattle.layout.specs.WorkMatrices.{system_place, root_inverse_place, u_place, beta_place, matrices_length}
use Rattle.layout.specs.WorkTerms.{terms_length}
use Rattle.layout.proofs.LaidOut.{laid_out}
use Rattle.model.specs.Account.{◌⊞◌, one_fit, one_solve, AtMost, SumFits}
use Rattle.model.specs.Items.{Item, a_fit, a_solve, tally}
use Rattle.model.specs.declared.counts.Account.{Account}
use Rattle.model.specs.declared.ends.End.{End}
use Rattle.model.specs.declared.ends.End.TheVariants.{NoStep, NoStop}
use Rattle.model.proofs.Accounts.{plus_assoc, plus_none}
use Rattle.model.proofs.Tallies.{tally_append, tally_none, tally_fit, tally_solve}
use Rattle.rule.specs.Given.{Given, n_of, q_of}
use Rattle.rule.specs.Solve.{Solved, solved, unsolved, solve_of}
use Rattle.rule.specs.Try.{Move, found_move, no_move, tries_of, trial_of}
use Rattle.rule.specs.Stop.{Mode, mode_of, mode_devs, mode_sum, mode_fit, stops}
use Rattle.rule.specs.Run.{stopped, failed, Outcome, State, items_before, failed_after, after_stop, moved, after_search, after_solve, run_from, start_eta, start_at, run_of}
use Rattle.working.specs.Met.{Met}
use Rattle.stages.specs.Held.{eta_row}
use Rattle.stages.specs.Stopped.{StopLeft}
use Rattle.stages.specs.declared.stops.AtStop.{AtStop}
use Rattle.iteration.specs.Iterated.{StuckAfter, MovedAfter, iteration_cap}
use Rattle.iteration.proofs.IterationMade.{eta_before}
use Rattle.iteration.proofs.MovedMeans.{moved_met}
use Rattle.pirls.specs.Inner.{turned, failed_fit, stopped_fit, InnerLeft}
use Rattle.pirls.specs.declared.run.Stopped.{Stopped}

-- the most that an inner fit has counted after k iterations
abbrev pub run_to : ℕ → Account
run_to k = record { fits = 1; solves = k; tries = 100 * k; points = 0; eta = 100 * k; mean = 100 * k; pwrss = 100 * k; ok = 100 * k }

-- before the first
one_few : AtMost (run_to 0) one_fit
one_few =
    record { fits = omega arith; solves = omega arith; tries = omega arith; points = omega arith; eta = omega arith; mean = omega arith; pwrss = omega arith; ok = omega arith }

-- one more
few_more : (k : ℕ) (a made : Account) → AtMost (run_to k) a → AtMost iteration_cap made → AtMost (run_to (k + 1)) (a ⊞ (one_solve ⊞ made))
unfolding ◌⊞◌
few_more k a made p q =
    record { fits = omega arith; solves = omega arith; tries = omega arith; points = omega arith; eta = omega arith; mean = omega arith; pwrss = omega arith; ok = omega arith }

-- up to a thousand of them can be counted
pub sum_fits : (k : ℕ) (a made : Account) → k ≤ 1000 → AtMost (run_to k) a → AtMost iteration_cap made → SumFits a (one_solve ⊞ made)
unfolding ◌⊞◌
sum_fits k a made l p q =
    record { fits = omega arith; solves = omega arith; tries = omega arith; points = omega arith; eta = omega arith; mean = omega arith; pwrss = omega arith; ok = omega arith }

-- and the solve to its tries
pub solve_fits : (a made : Account) → SumFits a (one_solve ⊞ made) → SumFits one_solve made
unfolding ◌⊞◌
solve_fits a made s =
    record { fits = omega arith; solves = omega arith; tries = omega arith; points = omega arith; eta = omega arith; mean = omega arith; pwrss = omega arith; ok = omega arith }

-- one more iteration changes the row
turned_more : (k : ℕ) → turned (k + 1) ≡ not (turned k)
unfolding turned
turned_more k = let e : k + 1 ≡ suc k = omega arith in rw e refl

-- a solve and its tries, by their items
solve_counts : (is : List Item) (made : Account) → tally is ≡ made → tally (a_solve ∷ is) ≡ one_solve ⊞ made
solve_counts is made e = tally_append (a_solve ∷ []) is ∙ rw (tally_solve, e) refl

module _ (G : Given) (phi : Float) (L : ℕ) (mu₀ : List Float) where
  abbrev n : ℕ
  n = n_of G

  abbrev p : ℕ
  p = G.design.p

  abbrev q : ℕ
  q = q_of G.design

  abbrev whole : Outcome
  whole = run_from G phi L (start_at G mu₀)

  -- the state after k iterations, as the rows hold it
  abbrev pub state_in : ℕ → Bool → List Float → Float → State
  state_in k second rows old = record { done = k; eta = row (eta_row n second) n rows; mu = row (mu_row n) n rows; old = old }

  -- what is left of the run
  abbrev pub rest_at : ℕ → Bool → List Float → Float → Outcome
  rest_at k second rows old = run_from G phi (L - k) (state_in k second rows old)

  -- after k iterations: the rest of the run ends as the whole does, the whole's items are those counted and the rest's, and after a move the means are the predictor's
  pub record Going (r₀ r m₀ m t₀ t : List Float) (old : Float) (second : Bool) (k : ℕ) (account : Account) : Type 0 where
    pub within : k ≤ L
    pub place : second ≡ turned k
    pub met : 0 < k → Met G.link n (row (eta_row n second) n r) (row (mu_row n) n r)
    pub few : AtMost (run_to k) account
    pub ending : whole.ending ≡ (rest_at k second r old).ending
    pub items : tally (a_fit ∷ whole.items) ≡ account ⊞ tally (rest_at k second r old).items
    pub rows_only : Only 0 (rows_length n) r₀ r
    pub matrices_only : Only 0 (matrices_length p q) m₀ m
    pub terms_only : Only 0 terms_length t₀ t

  -- before the first
  pub going_starts : (r₀ r m t : List Float) → WorkRoom n p q r₀ m t → row (mu_row n) n r₀ ≡ mu₀ → Wrote 0 n (start_eta G mu₀) r₀ r → Going r r m m t t huge_f false 0 one_fit
  unfolding eta_row start_at turned
  going_starts r₀ r m t lent e w =
      let l : rows_length n ≤ length r₀ = lent.rows_long in
      let mu : row (mu_row n) n r ≡ mu₀ = only_row (mu_row n) n 0 n (inr (omega arith)) (omega arith) w.only ∙ e in
      let same : state_in 0 false r huge_f ≡ start_at G mu₀ = rw (w.row', mu) refl in
      let z : L - 0 ≡ L = omega arith in
      let rest : rest_at 0 false r huge_f ≡ whole = rw z (ap (run_from G phi L) same) in
      record {
        within = omega arith;
        place = refl;
        met = λ l'. absurd (omega arith);
        few = one_few;
        ending = ap (λ (o : Outcome). o.ending) (sym rest);
        items = rw rest (tally_append (a_fit ∷ []) whole.items ∙ rw tally_fit refl);
        rows_only = only_none 0 (rows_length n) r;
        matrices_only = only_none 0 (matrices_length p q) m;
        terms_only = only_none 0 terms_length t;
      }

  -- ---- one turn
  fuel_turn : (k : ℕ) → k < L → L - k ≡ suc (L - (k + 1))
  fuel_turn k h = omega arith

  module _ (k : ℕ) (second : Bool) (rows : List Float) (old : Float) (lt : k < L) where
    abbrev s : State
    s = state_in k second rows old

    abbrev rest : State → Outcome
    rest = run_from G phi (L - (k + 1))

    turn : rest_at k second rows old ≡ after_solve (solve_of G phi s.eta s.mu) G s rest
    unfolding run_from
    turn = rw (fuel_turn k lt) refl

    turn_unsolved : (e : End) → solve_of G phi s.eta s.mu ≡ unsolved e → rest_at k second rows old ≡ failed_after [] e
    unfolding after_solve
    turn_unsolved e h = turn ∙ rw h refl

    turn_stuck : (v : Solved) (is : List Item) → solve_of G phi s.eta s.mu ≡ solved v → tries_of (trial_of G v s.eta) ≡ no_move is → rest_at k second rows old ≡ failed_after (a_solve ∷ is) NoStep
    unfolding after_solve after_search
    turn_stuck v is h e = turn ∙ rw (h, e) refl

    turn_moved : (v : Solved) (mv : Move) (is : List Item) → solve_of G phi s.eta s.mu ≡ solved v → tries_of (trial_of G v s.eta) ≡ found_move mv is
        → rest_at k second rows old ≡ items_before (a_solve ∷ is) (after_stop (stops old mv.pwrss) (mode_of G (k + 1) v mv) rest (moved s mv))
    unfolding after_solve after_search
    turn_moved v mv is h e = turn ∙ rw (h, e) refl

  -- ---- the whole, when the rest is known

  -- nothing more is done
  done_items : (account : Account) (e : End) (o : Outcome) → o ≡ failed_after [] e → account ⊞ tally o.items ≡ account
  unfolding failed_after
  done_items account e o h = rw (h, tally_none) (plus_none account)

  -- an end without a result
  fit_failed : (account : Account) (e : End) (r r' m m' t t' : List Float) → whole.ending ≡ failed e → tally (a_fit ∷ whole.items) ≡ account
      → Only 0 (rows_length n) r r' → Only 0 (matrices_length p q) m m' → Only 0 terms_length t t' → InnerLeft G phi L mu₀ r r' m m' t t' (failed_fit e account)
  unfolding run_of items_before
  fit_failed account e r r' m m' t t' he hi or om ot =
      record { told = rw he refl; counted = sym hi; rows_only = or; matrices_only = om; terms_only = ot }

  -- after the last iteration: end 13
  pub spent : (r₀ r r' m₀ m t₀ t : List Float) (old : Float) (second : Bool) (k : ℕ) (account : Account) → Going r' r m₀ m t₀ t old second k account → L ≤ k
      → Only 0 (rows_length n) r₀ r' → InnerLeft G phi L mu₀ r₀ r m₀ m t₀ t (failed_fit NoStop account)
  unfolding run_from failed_after
  spent r₀ r r' m₀ m t₀ t old second k account g l or =
      let f : L - k ≡ 0 = omega arith in
      let d : rest_at k second r old ≡ failed_after [] NoStop = rw f refl in
      fit_failed account NoStop r₀ r m₀ m t₀ t (g.ending ∙ rw d refl) (g.items ∙ done_items account NoStop (rest_at k second r old) d) (only_trans or g.rows_only) g.matrices_only g.terms_only

  -- ends 10 and 11
  pub unsolved_end : (r₀ r r' r'' m₀ m m' t₀ t t' : List Float) (old : Float) (second : Bool) (k : ℕ) (account : Account) (e : End) → Going r' r m₀ m t₀ t old second k account → k < L
      → solve_of G phi (row (eta_row n second) n r) (row (mu_row n) n r) ≡ unsolved e
      → Only 0 (rows_length n) r₀ r' → Only 0 (rows_length n) r r'' → Only 0 (matrices_length p q) m m' → Only 0 terms_length t t' → InnerLeft G phi L mu₀ r₀ r'' m₀ m' t₀ t' (failed_fit e account)
  unfolding failed_after
  unsolved_end r₀ r r' r'' m₀ m m' t₀ t t' old second k account e g l h or or' om ot =
      let d : rest_at k second r old ≡ failed_after [] e = turn_unsolved k second r old l e h in
      fit_failed account e r₀ r'' m₀ m' t₀ t' (g.ending ∙ rw d refl) (g.items ∙ done_items account e (rest_at k second r old) d) (only_trans (only_trans or g.rows_only) or') (only_trans g.matrices_only om) (only_trans g.terms_only ot)

  -- end 12
  pub stuck_end : (r₀ r r' r'' m₀ m m' t₀ t t' : List Float) (old : Float) (second : Bool) (k : ℕ) (account made : Account) → Going r' r m₀ m t₀ t old second k account → k < L
      → StuckAfter G phi (row (eta_row n second) n r) (row (mu_row n) n r) made
      → Only 0 (rows_length n) r₀ r' → Only 0 (rows_length n) r r'' → Only 0 (matrices_length p q) m m' → Only 0 terms_length t t' → InnerLeft G phi L mu₀ r₀ r'' m₀ m' t₀ t' (failed_fit NoStep (account ⊞ (one_solve ⊞ made)))
  unfolding failed_after
  stuck_end r₀ r r' r'' m₀ m m' t₀ t t' old second k account made g l x or or' om ot =
      let d : rest_at k second r old ≡ failed_after (a_solve ∷ x.items) NoStep = turn_stuck k second r old l x.v x.items x.solve x.tries in
      let c : tally (rest_at k second r old).items ≡ one_solve ⊞ made = rw d (solve_counts x.items made x.count) in
      fit_failed (account ⊞ (one_solve ⊞ made)) NoStep r₀ r'' m₀ m' t₀ t' (g.ending ∙ rw d refl) (g.items ∙ rw c refl) (only_trans (only_trans or g.rows_only) or') (only_trans g.matrices_only om) (only_trans g.terms_only ot)

  -- ---- a move
  module _ (r₀ r r' r'' m₀ m m' t₀ t t' : List Float) (old : Float) (second : Bool) (k : ℕ) (account made : Account) (pwrss : Float) (g : Going r' r m₀ m t₀ t old second k account) (l : k < L)
      (x : MovedAfter G phi (row (eta_row n second) n r) (row (mu_row n) n r) (eta_row n (not second)) r'' m' t' pwrss made) (or' : Only 0 (rows_length n) r r'') (om : Only 0 (matrices_length p q) m m')
      (ot : Only 0 terms_length t t') where
    abbrev mv : Move
    mv = record { eta = row (eta_row n (not second)) n r''; mu = row (mu_row n) n r''; pwrss = pwrss }

    abbrev mode : Mode
    mode = mode_of G (k + 1) x.v mv

    abbrev after : Bool → Outcome
    after b = after_stop b mode (run_from G phi (L - (k + 1))) (moved (state_in k second r old) mv)

    went : rest_at k second r old ≡ items_before (a_solve ∷ x.items) (after (stops old pwrss))
    went = turn_moved k second r old l x.v mv x.items x.solve x.tries

    -- the account after it
    abbrev more : Account
    more = account ⊞ (one_solve ⊞ made)

    went_items : (o : Outcome) → account ⊞ tally ((a_solve ∷ x.items) ++ o.items) ≡ more ⊞ tally o.items
    went_items o =
        rw (tally_append (a_solve ∷ x.items) o.items, solve_counts x.items made x.count) (sym (plus_assoc account (one_solve ⊞ made) (tally o.items)))

    -- the stop test fails: one more turn
    pub goes_on : AtMost iteration_cap made → stops old pwrss ≡ false → Going r' r'' m₀ m' t₀ t' pwrss (not second) (k + 1) more
    unfolding items_before after_stop moved
    goes_on few e =
        let o : rest_at k second r old ≡ items_before (a_solve ∷ x.items) (rest_at (k + 1) (not second) r'' pwrss) = went ∙ rw e refl in
        record {
          within = omega arith;
          place = ap not g.place ∙ sym (turned_more k);
          met = λ l'. moved_met G x.v (row (eta_row n second) n r) mv x.items x.tries;
          few = few_more k account made g.few few;
          ending = g.ending ∙ rw o refl;
          items = g.items ∙ rw o (went_items (rest_at (k + 1) (not second) r'' pwrss));
          rows_only = only_trans g.rows_only or';
          matrices_only = only_trans g.matrices_only om;
          terms_only = only_trans g.terms_only ot;
        }

    -- it passes: the mode
    module _ (r''' m''' : List Float) (at : AtStop) (lent : WorkRoom n p q r'' m' t') (sl : StopLeft G p q x.v (row (mu_row n) n r'') r'' r''' m' m''' at) (e : stops old pwrss ≡ true) where
      ended : rest_at k second r old ≡ items_before (a_solve ∷ x.items) (record { ending = stopped mode; items = [] })
      unfolding after_stop
      ended = went ∙ rw e refl

      eta_in : eta_row n (not second) + n ≤ mu_row n
      eta_in = eta_before n (not second)

      matrix_kept : (c w : ℕ) → Apart c w (root_inverse_place p q) (p * p) → c + w ≤ matrices_length p q → row c w m''' ≡ row c w m'
      matrix_kept c w a h = only_row c w (root_inverse_place p q) (p * p) a (omega (arith, lent.matrices_long)) sl.matrices_only

      pub fit_stopped : Only 0 (rows_length n) r₀ r'
          → InnerLeft G phi L mu₀ r₀ r''' m₀ m''' t₀ t' (stopped_fit at (k + 1) (not second) more)
      unfolding run_of items_before mode_of mode_devs mode_sum mode_fit
      fit_stopped or =
          let lr : rows_length n ≤ length r'' = lent.rows_long in
          let ml : MatricesLaid p q = (laid_out lent.sizes).matrices in
          let s : Stopped = record { iterations = k + 1; in_second = not second; deviance_sum = at.deviance_sum; fit = at.fit; laplace = at.laplace } in
          let i : tally (a_fit ∷ whole.items) ≡ more = g.items ∙ rw ended (went_items (record { ending = stopped mode; items = [] }) ∙ rw (tally_none) (plus_none more)) in
          record {
            told = rw (g.ending ∙ ap (λ (o : Outcome). o.ending) ended) (
              s,
              refl,
              record {
                iterations = refl;
                results =
                    record {
                      place = ap not g.place ∙ sym (turned_more k);
                      eta = only_row (eta_row n (not second)) n (deviance_row n) n (inl (omega (arith, eta_in))) (omega (arith, eta_in)) sl.rows_only;
                      mu = only_row (mu_row n) n (deviance_row n) n (inl (omega arith)) (omega arith) sl.rows_only;
                      inverse = sl.inverse;
                      beta = matrix_kept (beta_place p q) p (inr (omega arith)) (omega (arith, ml.beta, ml.beta_end_lem)) ∙ x.held.beta;
                      u = matrix_kept (u_place p q) q (inr (omega arith)) (omega (arith, ml.beta_end_lem)) ∙ x.held.u;
                    };
                deviances = sl.deviances;
                sum = sl.sum;
                fit_term_lem = sl.fit_term_lem;
                laplace_deviance = sl.laplace_deviance;
                system = matrix_kept system_place (q * q) (inl (omega arith)) (omega (arith, ml.beta_end_lem)) ∙ x.held.system;
              },
            );
            counted = sym i;
            rows_only = only_trans (only_trans (only_trans or g.rows_only) or') (only_wide (deviance_row n) n 0 (rows_length n) (omega arith) (omega arith) sl.rows_only);
            matrices_only = only_trans (only_trans g.matrices_only om) (only_wide (root_inverse_place p q) (p * p) 0 (matrices_length p q) (omega arith) (omega (arith, ml.beta_end_lem)) sl.matrices_only);
            terms_only = only_trans g.terms_only ot;
          }
