-- The account of an accepted call by its limit, link and shape: what one inner fit may do, or with a dispersion 241 times that. The request, demand 3. Assumes nothing.
use Rattle.std.specs.Prelude.{Ok}
use mathlib.Core.Path.{◌≡◌}
use mathlib.Core.Bool.{Bool, true, false}
use mathlib.Core.List.{List}
use Prim.Native.Nat.{ℕ, ◌*◌, ◌≤◌}
use native.Mathlib.Omega.{arith}
use lib.Ieee.{Float}
use Rattle.base.specs.Number.{one_f}
use Rattle.model.specs.Account.{AtMost, times}
use Rattle.model.specs.Caps.{inner_cap_of}
use Rattle.model.specs.Items.{Item, is_fit, is_solve, is_try, is_point, is_eta, is_mean, is_pwrss, is_ok, count_of, tally}
use Rattle.model.specs.Names.{limit_of}
use Rattle.model.specs.declared.counts.Account.{Account}
use Rattle.model.specs.declared.sizes.Shape.{Shape}
use Rattle.model.specs.declared.sizes.Settings.{Settings}
use Rattle.family.specs.Carried.{link_of}
use Rattle.family.specs.Family.{uses_dispersion}
use Rattle.family.specs.declared.carried.CarriedFamily.{CarriedFamily}
use Rattle.family.specs.declared.carried.CarriedLink.{CarriedLink}
use Rattle.rule.specs.Given.{Given, n_of}
use Rattle.agq_rule.proofs.Caps.{inner_capped}
use Rattle.model.specs.Inputs.{Inputs}
use Rattle.table.specs.Table.{table_of}
use Rattle.dispersion.specs.Phi.{effective_n}
use Rattle.dispersion.specs.Rounds.{last_fit, dispersion_of, fixed_of}
use Rattle.dispersion.proofs.Capped.{loop_most}
use Rattle.call.specs.Fit.{sum_of, total_of, inner_at, fit_by, fit_of}
use Rattle.call.specs.Call.{Lent, lengths_of, call_given, call_means, call_of}
use Rattle.call.proofs.Leaves.{accepted_account}

-- ---- the fit
module _ (G : Given) (mu : List Float) (wish L : ℕ) where
  abbrev cap : Account
  cap = inner_cap_of G.design.shape (link_of G.link) L

  each_capped : (phi : Float) → AtMost cap (tally (inner_at G mu wish L phi).items)
  unfolding inner_at total_of
  each_capped phi = inner_capped G wish phi L mu

  pub one_capped_by : uses_dispersion G.family ≡ false → AtMost cap (tally (fit_of G mu wish L).items)
  unfolding fit_of fit_by fixed_of last_fit
  one_capped_by e = rw e (each_capped one_f)

  -- what no inner fit has more than c of, 241 of them have no more than 241·c of
  rounds_most : (t : Item → Bool) (c : ℕ) → ((phi : Float) → count_of t (inner_at G mu wish L phi).items ≤ c) → count_of t (fit_by true G mu wish L).items ≤ 241 * c
  unfolding fit_by dispersion_of
  rounds_most t c few = omega (arith, loop_most (effective_n (n_of G) G.weights) sum_of (inner_at G mu wish L) t c few 240 one_f)

  rounds_capped_by : AtMost (times 241 cap) (tally (fit_by true G mu wish L).items)
  unfolding tally
  rounds_capped_by =
      record {
        fits = rounds_most is_fit cap.fits (λ phi. (each_capped phi).fits);
        solves = rounds_most is_solve cap.solves (λ phi. (each_capped phi).solves);
        tries = rounds_most is_try cap.tries (λ phi. (each_capped phi).tries);
        points = rounds_most is_point cap.points (λ phi. (each_capped phi).points);
        eta = rounds_most is_eta cap.eta (λ phi. (each_capped phi).eta);
        mean = rounds_most is_mean cap.mean (λ phi. (each_capped phi).mean);
        pwrss = rounds_most is_pwrss cap.pwrss (λ phi. (each_capped phi).pwrss);
        ok = rounds_most is_ok cap.ok (λ phi. (each_capped phi).ok);
      }

  pub all_capped_by : uses_dispersion G.family ≡ true → AtMost (times 241 cap) (tally (fit_of G mu wish L).items)
  unfolding fit_of
  all_capped_by e = rw e rounds_capped_by

-- ---- an accepted call, with the limit L that was given or stands for it
module _ (t : Settings) (s : Shape) (I : Inputs) (A : Lent) (f : CarriedFamily) (l : CarriedLink) (e : table_of 1 t s I (lengths_of A) ≡ Ok (f, l)) where
  abbrev inner_cap_in : Account
  inner_cap_in = inner_cap_of s (link_of l) (limit_of t.limit t.link)

  pub call_one_capped : uses_dispersion f ≡ false → AtMost inner_cap_in (call_of t s I A).answer.account
  unfolding call_given
  call_one_capped d = rw (accepted_account t s I A f l e) (one_capped_by (call_given f l t s I) (call_means f l t s I) t.n_agq (limit_of t.limit t.link) d)

  pub call_all_capped : uses_dispersion f ≡ true → AtMost (times 241 inner_cap_in) (call_of t s I A).answer.account
  unfolding call_given
  call_all_capped d = rw (accepted_account t s I A f l e) (all_capped_by (call_given f l t s I) (call_means f l t s I) t.n_agq (limit_of t.limit t.link) d)
