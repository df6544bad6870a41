-- The run's ending decides the answer: without a mode it is the run's, with one the quadrature's answer is added and the rows of the results stay. Assumes nothing.
use Rattle.std.specs.Prelude.{Result, Ok, Err}
use mathlib.Core.Path.{◌≡◌, refl, sym, ap, ◌∙◌}
use mathlib.Core.Bool.{true}
use mathlib.Core.List.{List, ◌++◌}
use mathlib.Core.Logic.{inl, inr, ⊎_elim}
use Prim.Native.Nat.{ℕ, ◌+◌, ◌*◌, ◌≤◌, ◌<◌}
use native.Mathlib.Omega.{arith}
use lib.ListN.{length, replicate}
use lib.Ieee.{Float}
use Rattle.base.specs.Rows.{row, Out, Apart, Only, OnlyTwo}
use Rattle.base.proofs.Rows.{only_trans}
use Rattle.base.proofs.TwoRows.{two_row}
use Rattle.family.specs.Carried.{link_of}
use Rattle.layout.specs.Layout.{WorkRoom, MatricesLaid}
use Rattle.layout.specs.WorkMatrices.{inverse_place, root_inverse_place, u_place, trial_u_place, beta_place, matrices_length}
use Rattle.layout.specs.WorkRows.{mu_row, xbeta_row, point_row, rows_length}
use Rattle.layout.proofs.LaidOut.{laid_out, lent_kept}
use Rattle.model.specs.Account.{◌⊞◌, points_of, AtMost, inner_cap, SumFits}
use Rattle.model.specs.Items.{a_point, tally}
use Rattle.model.specs.Shape.{effects_of, good_shape}
use Rattle.model.specs.declared.ends.End.{End}
use Rattle.model.specs.declared.sizes.Shape.{Shape}
use Rattle.model.proofs.Accounts.{caps_trans}
use Rattle.model.proofs.Caps.{inner_caps}
use Rattle.model.proofs.Shapes.{in_range_lem}
use Rattle.model.proofs.Tallies.{tally_append, tally_points}
use Rattle.rule.specs.Given.{Given, n_of, q_of}
use Rattle.rule.specs.Stop.{Mode}
use Rattle.rule.specs.Run.{Ending, stopped, failed, run_of}
use Rattle.rule.proofs.Caps.{run_capped}
use Rattle.stages.specs.Held.{eta_row}
use Rattle.iteration.specs.Iterated.{Asked}
use Rattle.iteration.proofs.IterationMade.{eta_before}
use Rattle.pirls.specs.Inner.{HoldsResults, HoldsMode, EndingTold, InnerLeft}
use Rattle.pirls.specs.declared.run.InnerFit.{InnerFit}
use Rattle.pirls.specs.declared.run.Stopped.{Stopped}
use Rattle.agq_rule.specs.Steps.{quadrature_of}
use Rattle.agq_rule.specs.Inner.{with_mode, without_mode, deviance_by, order_by, why_by, with_points, after_run, inner_with, inner_of}
use Rattle.sums.specs.Summed.{integrated_of}
use Rattle.inner.specs.Read.{Reads, QuadratureAt}
use Rattle.inner.specs.Answered.{failed_answer, stopped_answer, HoldsAnswer, AnswerLeft}
use Rattle.sums.specs.declared.answers.Quadrature.{Quadrature}
use Rattle.inner.specs.declared.answers.Answered.{Answered}
use Rattle.inner.specs.declared.answers.InnerAnswer.{InnerAnswer}

-- two changes within the first N places
two_within : (b n c k N : ℕ) {v w : List Float} → b + n ≤ N → c + k ≤ N → OnlyTwo b n c k v w → Only 0 N v w
two_within b n c k N h h' p =
    record { len = p.len; kept = λ j o. p.kept j (inr (beyond j o (b + n) h)) (inr (beyond j o (c + k) h')) }
  where
    beyond : (j : ℕ) → Out 0 N j → (e : ℕ) → e ≤ N → e ≤ j
    beyond j o e l = ⊎_elim (λ (z : j < 0). absurd (omega arith)) (λ (z : 0 + N ≤ j). omega arith) o

-- the slices after an inner fit have room still
module _ {n p q a b d : ℕ} {shape : Shape} {theta : List Float} {starts columns : List ℕ} {values offset x y r m t r' m' t' : List Float} (k : Asked n p q shape theta starts columns values offset x y r m t) where
  pub lent_after : Only 0 a r r' → Only 0 b m m' → Only 0 d t t' → WorkRoom n p (effects_of shape) r' m' t'
  lent_after er em et =
      let l : WorkRoom n p q r' m' t' = lent_kept k.lent er.len em.len et.len in
      rw k.ready.effects at l

module _ (G : Given) (wish : ℕ) (phi : Float) (L : ℕ) (mu r r1 m m1 t t1 : List Float) (fit : InnerFit) (x : InnerLeft G phi L mu r r1 m m1 t t1 fit) where
  abbrev n : ℕ
  n = n_of G

  abbrev p : ℕ
  p = G.design.p

  abbrev q : ℕ
  q = q_of G.design

  -- ---- the points can be added to the account
  pub sum_fits : good_shape G.design.shape ≡ true → L ≤ 1000 → (points : ℕ) → points ≤ 7000 → SumFits fit.account (points_of points)
  sum_fits g l points few =
      let run : AtMost inner_cap (tally (run_of G phi L mu).items) = caps_trans (inner_caps G.design.shape (link_of G.link) L (in_range_lem G.design.shape g) l) (run_capped G phi L mu) in
      let c : AtMost inner_cap fit.account = rw x.counted run in
      record {
        fits = omega (arith, c.fits);
        solves = omega (arith, c.solves);
        tries = omega (arith, c.tries);
        points = omega (arith, c.points);
        eta = omega (arith, c.eta);
        mean = omega (arith, c.mean);
        pwrss = omega (arith, c.pwrss);
        ok = omega (arith, c.ok);
      }

  -- ---- without a mode
  run_failed : (o : Ending) (e : End) → EndingTold o G r1 m1 fit → fit.outcome ≡ Err e → o ≡ failed e
  run_failed (failed e') e h d =
      let i : ◌≡◌ {A = Result Stopped End} (Err e') (Err e) = sym h ∙ d in
      let j : e' ≡ e = cc in
      ap failed j
  run_failed (stopped k) e h d =
      let i : ◌≡◌ {A = Result Stopped End} (Ok h.0) (Err e) = sym h.1 ∙ d in
      absurd (let z : ◌≡◌ {A = ℕ} 0 1 = cc in omega arith)

  failed_is : (e : End) → (run_of G phi L mu).ending ≡ failed e → inner_of G wish phi L mu ≡ record { ending = without_mode e; items = (run_of G phi L mu).items }
  unfolding inner_of inner_with after_run
  failed_is e h = rw h refl

  pub failed_left : (e : End) (a : InnerAnswer) → fit.outcome ≡ Err e → a ≡ failed_answer e fit.account → AnswerLeft G wish phi L mu r r1 m m1 t t1 a
  failed_left e a d ha =
      let i = failed_is e (run_failed (run_of G phi L mu).ending e x.told d) in
      rw ha
      (record { told = rw i refl; counted = rw i x.counted; rows_only = x.rows_only; matrices_only = x.matrices_only; terms_only = x.terms_only })

  -- ---- with one
  record Held (s : Stopped) : Type 0 where
    mode : Mode
    ending : (run_of G phi L mu).ending ≡ stopped mode
    holds : HoldsMode G mode r1 m1 s

  run_stopped : (s : Stopped) (o : Ending) → (run_of G phi L mu).ending ≡ o → EndingTold o G r1 m1 fit → fit.outcome ≡ Ok s → Held s
  run_stopped s (stopped k) e h d =
      let i : ◌≡◌ {A = Result Stopped End} (Ok h.0) (Ok s) = sym h.1 ∙ d in
      let j : h.0 ≡ s = cc in
      record { mode = k; ending = e; holds = rw j at h.2 }
  run_stopped s (failed f) e h d =
      let i : ◌≡◌ {A = Result Stopped End} (Err f) (Ok s) = sym h ∙ d in
      absurd (let z : ◌≡◌ {A = ℕ} 0 1 = cc in omega arith)

  reads : (s : Stopped) (k : Mode) → HoldsMode G k r1 m1 s → Reads G k s.fit r1 m1
  reads s k h = record { fit_term_lem = sym h.fit_term_lem; deviances = h.deviances; system = h.system; beta = h.results.beta; u = h.results.u }

  module _ (lent : WorkRoom n p q r1 m1 t1) (r2 m2 t2 : List Float) (st : Stopped) (a : Quadrature) (s : QuadratureAt G wish phi st.fit r1 r2 m1 m2 t1 t2 a) where
    laid : MatricesLaid p q
    laid = (laid_out lent.sizes).matrices

    row_kept : (c : ℕ) → c + n ≤ xbeta_row n → row c n r2 ≡ row c n r1
    row_kept c h =
        let l : rows_length n ≤ length r1 = lent.rows_long in
        two_row c n (xbeta_row n) n (point_row n) (n + n) (inl h) (inl (omega arith)) (omega arith) s.rows_only

    matrix_kept : (c w : ℕ) → Apart c w (inverse_place q) (q * q) → Apart c w (trial_u_place p q) (q + q + q) → c + w ≤ matrices_length p q → row c w m2 ≡ row c w m1
    matrix_kept c w h h' l = two_row c w (inverse_place q) (q * q) (trial_u_place p q) (q + q + q) h h' (omega (arith, lent.matrices_long)) s.matrices_only

    module _ (k : Mode) (e : (run_of G phi L mu).ending ≡ stopped k) (h : HoldsMode G k r1 m1 st) where
      integral : quadrature_of G wish k phi ≡ integrated_of a
      integral = s.told k (reads st k h)

      inner_is : inner_of G wish phi L mu ≡ record { ending = with_mode k a.answer; items = (run_of G phi L mu).items ++ replicate a.points a_point }
      unfolding inner_of inner_with after_run with_points integrated_of
      inner_is = rw (e, integral) refl

      results_kept : HoldsResults G k st.in_second r2 m2
      results_kept =
          let d = h.results in
          record {
            place = d.place;
            eta = row_kept (eta_row n st.in_second) (omega (arith, eta_before n st.in_second)) ∙ d.eta;
            mu = row_kept (mu_row n) (omega arith) ∙ d.mu;
            inverse = matrix_kept (root_inverse_place p q) (p * p) (inr (omega (arith, laid.inverse, laid.solved))) (inl (omega (arith, laid.root_inverse))) (omega (arith, laid.beta_end_lem)) ∙ d.inverse;
            beta = matrix_kept (beta_place p q) p (inr (omega arith)) (inr (omega arith)) (omega (arith, laid.beta_end_lem)) ∙ d.beta;
            u = matrix_kept (u_place p q) q (inr (omega arith)) (inl (omega arith)) (omega (arith, laid.beta_end_lem)) ∙ d.u;
          }

      abbrev answered : Answered
      answered =
          record {
            iterations = st.iterations;
            in_second = st.in_second;
            deviance_sum = st.deviance_sum;
            deviance = deviance_by a.answer st.laplace;
            order = order_by a.answer;
            why = why_by a.answer;
          }

      holds : HoldsAnswer G k a.answer r2 m2 answered
      holds =
          record {
            iterations = h.iterations;
            results = results_kept;
            sum = h.sum;
            deviance = ap (deviance_by a.answer) h.laplace_deviance;
            order = refl;
            why = refl;
          }

      counted : fit.account ⊞ points_of a.points ≡ tally ((run_of G phi L mu).items ++ replicate a.points a_point)
      counted = sym (tally_append (run_of G phi L mu).items (replicate a.points a_point) ∙ rw (← x.counted, tally_points a.points) refl)

      mode_left : (b : InnerAnswer) → b ≡ stopped_answer st fit.account a → AnswerLeft G wish phi L mu r r2 m m2 t t2 b
      mode_left b hb =
          let lr : rows_length n ≤ length r1 = lent.rows_long in
          rw hb
          (record {
            told = rw inner_is (answered, refl, holds);
            counted = rw inner_is counted;
            rows_only = only_trans x.rows_only (two_within (xbeta_row n) n (point_row n) (n + n) (rows_length n) (omega arith) (omega arith) s.rows_only);
            matrices_only = only_trans x.matrices_only (two_within (inverse_place q) (q * q) (trial_u_place p q) (q + q + q) (matrices_length p q) (omega (arith, laid.beta_end_lem)) (omega (arith, laid.beta_end_lem)) s.matrices_only);
            terms_only = only_trans x.terms_only s.terms_only;
          })

    pub stopped_left : (b : InnerAnswer) → fit.outcome ≡ Ok st → b ≡ stopped_answer st fit.account a → AnswerLeft G wish phi L mu r r2 m m2 t t2 b
    stopped_left b d hb =
        let h : Held st = run_stopped st (run_of G phi L mu).ending refl x.told d in
        mode_left h.mode h.ending h.holds b hb
