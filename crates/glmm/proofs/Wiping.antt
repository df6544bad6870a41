-- What an accepted call leaves: the answer of the fit, its results, and work slices that are as they were but for +0.0 in their named lengths. Assumes nothing.
use mathlib.Core.Path.{◌≡◌, ◌∙◌}
use mathlib.Core.List.{List}
use mathlib.Core.Bool.{Bool, cond}
use mathlib.Core.Logic.{inr}
use Prim.Native.Nat.{ℕ, ◌*◌, ◌≤◌}
use native.Mathlib.Omega.{arith}
use lib.ListN.{length}
use lib.Ieee.{Float}
use Rattle.base.specs.List.{zero_at, fill_to}
use Rattle.base.specs.Rows.{row, Only}
use Rattle.base.proofs.Fills.{length_fill, fill_past, fill_in, fill_is}
use Rattle.layout.specs.Layout.{WorkRoom}
use Rattle.layout.specs.WorkRows.{mu_row, rows_length}
use Rattle.layout.specs.WorkMatrices.{root_inverse_place, u_place, beta_place, matrices_length}
use Rattle.layout.specs.WorkTerms.{terms_length}
use Rattle.rule.specs.Given.{Given, n_of, q_of}
use Rattle.results.specs.Nine.{Results, results_from, results_of}
use Rattle.stages.specs.Held.{eta_row}
use Rattle.wipe.specs.Wiped.{Wiped}
use Rattle.dispersion.specs.Rounds.{Result, result, no_result, Total, Dispersed}
use Rattle.rounds.specs.Fitted.{FitTold, FitLeft}
use Rattle.rounds.specs.declared.totals.Fit.{Fit}
use Rattle.call.specs.Fit.{Fitted}
use Rattle.call.specs.Call.{left, results_after, fit_left}

-- +0.0 in the k first places of a slice that was changed there only
wiped_over : (k : ℕ) (v w : List Float) → k ≤ length v → Only 0 k v w → fill_to k zero_at w ≡ fill_to k zero_at v
wiped_over k v w h o =
    fill_is k zero_at v (fill_to k zero_at w) h (length_fill k zero_at w ∙ o.len) (λ i l. fill_in k zero_at w (omega (arith, o.len)) i l) (λ i l. fill_past k zero_at w i l ∙ o.kept i (inr (omega (arith, l))))

-- the results of what stands in the work slices
abbrev standing : Given → ℕ → Bool → (rows matrices : List Float) → Results
standing G q second r m =
    results_from (n_of G) G.design.p G.design.shape G.design.theta G.y (row (root_inverse_place G.design.p q) (G.design.p * G.design.p) m) (row (beta_place G.design.p q) G.design.p m)
    (row (u_place G.design.p q) q m) (row (mu_row (n_of G)) (n_of G) r) (row (eta_row (n_of G) second) (n_of G) r)

-- they are those of the fit, and where it has none they are as they were
results_by_lem : (G : Given) (r m : List Float) (f : Fit) (N N' : Results) (x : Result (Dispersed Fitted)) → FitTold x G r m f → N' ≡ cond f.fitted (standing G (q_of G.design) f.in_second r m) N → N' ≡ results_after x G N
unfolding results_after results_of
results_by_lem G r m f N N' (no_result e) h w = rw h.0 at w
results_by_lem G r m f N N' (result d) h w = rw (h.0, h.1.inverse, h.1.beta, h.1.u, h.1.mu, h.1.eta) at w

-- ---- the call
module _ (G : Given) (T : Total (Dispersed Fitted)) (q : ℕ) (eq : q ≡ q_of G.design) (r r' r'' m m' m'' t t' t'' : List Float) (N N' : Results) (f : Fit) where
  pub call_left : WorkRoom (n_of G) G.design.p q r m t → FitLeft G T r r' m m' t t' f → N' ≡ cond f.fitted (standing G q f.in_second r' m') N → Wiped (n_of G) G.design.p q r' r'' m' m'' t' t''
      → left f.answer (record { results = N'; rows = r''; matrices = m''; terms = t'' }) ≡ fit_left (n_of G) G.design.p q G T (record { results = N; rows = r; matrices = m; terms = t })
  unfolding fit_left
  call_left l h e w =
      let n = results_by_lem G r' m' f N N' T.outcome h.told (rw eq at e) in
      let a = w.rows ∙ wiped_over (rows_length (n_of G)) r r' l.rows_long h.rows_only in
      let b = w.matrices ∙ wiped_over (matrices_length G.design.p q) m m' l.matrices_long (rw eq h.matrices_only) in
      let c = w.terms ∙ wiped_over terms_length t t' l.terms_long h.terms_only in
      λ i. record { answer = h.answered i; lent = record { results = n i; rows = a i; matrices = b i; terms = c i } }
