-- A higher limit changes nothing in a call that did not end with 13, and no count shrinks. Assumes nothing.
use Rattle.std.specs.Prelude.{Option, Some, None, Result, Ok, Err}
use mathlib.Core.Path.{◌≡◌, refl, sym, ap, ◌∙◌}
use mathlib.Core.Bool.{Bool, true, false}
use mathlib.Core.List.{List}
use Prim.Native.Nat.{ℕ, ◌≤◌}
use native.Mathlib.Omega.{arith}
use lib.Ieee.{Float}
use borrow.Author.Tests.{le-leb}
use Rattle.base.specs.Number.{one_f}
use Rattle.model.specs.Account.{AtMost}
use Rattle.model.specs.Answer.{unfitted_answer}
use Rattle.model.specs.Items.{Item, is_fit, is_solve, is_try, is_point, is_eta, is_mean, is_pwrss, is_ok, count_of, tally}
use Rattle.model.specs.Names.{limit_of}
use Rattle.model.specs.Settings.{good_limit, good_sizes}
use Rattle.model.specs.declared.counts.Account.{Account}
use Rattle.model.specs.declared.ends.Refusal.{Refusal}
use Rattle.model.specs.declared.names.Link.{Link}
use Rattle.model.specs.declared.sizes.Shape.{Shape}
use Rattle.model.specs.declared.sizes.Settings.{Settings}
use Rattle.family.specs.Family.{uses_dispersion}
use Rattle.family.specs.declared.carried.CarriedFamily.{CarriedFamily}
use Rattle.family.specs.declared.carried.CarriedLink.{CarriedLink}
use Rattle.rule.specs.Given as goal
use Rattle.agq_rule.proofs.Limits.{inner_same, inner_grows}
use Rattle.table.specs.Tests.{good_inputs, good_results, good_work}
use Rattle.model.specs.Inputs.{Inputs}
use Rattle.table.specs.Table.{table_of}
use Rattle.table.specs.declared.verdicts.LentLengths.{LentLengths}
use Rattle.dispersion.specs.Phi.{effective_n}
use Rattle.dispersion.proofs.Higher.{Stopped, dispersion_same, dispersion_grows, fixed_same, fixed_grows}
use Rattle.call.specs.Fit.{sum_of, result_by, total_of, inner_at, fit_by, fit_of, result_answer, answer_of}
use Rattle.call.specs.Call.{Lent, lengths_of, call_given, call_means, fit_left, call_of}
use Rattle.call.proofs.Leaves.{refused_left, asked_fit, accepted_left, accepted_account}

-- ---- the fit with two limits
module _ (G : goal.Given) (mu : List Float) (wish L M : ℕ) (l : L ≤ M) where
  abbrev effective : Float
  effective = effective_n (goal.n_of G) G.weights

  inner_kept : (phi : Float) → Stopped (inner_at G mu wish L phi) → inner_at G mu wish M phi ≡ inner_at G mu wish L phi
  unfolding inner_at total_of result_by
  inner_kept phi h = ap total_of (inner_same G wish phi mu L M l (λ e. h (ap result_by e)))

  inner_more : (t : Item → Bool) (phi : Float) → count_of t (inner_at G mu wish L phi).items ≤ count_of t (inner_at G mu wish M phi).items
  unfolding inner_at total_of
  inner_more t phi = inner_grows G wish phi mu t L M l

  by_same : (b : Bool) → Stopped (fit_by b G mu wish L) → fit_by b G mu wish M ≡ fit_by b G mu wish L
  unfolding fit_by
  by_same true h = dispersion_same effective sum_of (inner_at G mu wish L) (inner_at G mu wish M) inner_kept h
  by_same false h = fixed_same effective sum_of (inner_at G mu wish L) (inner_at G mu wish M) inner_kept h

  by_grows : (b : Bool) (t : Item → Bool) → count_of t (fit_by b G mu wish L).items ≤ count_of t (fit_by b G mu wish M).items
  unfolding fit_by
  by_grows true t = dispersion_grows effective sum_of (inner_at G mu wish L) (inner_at G mu wish M) inner_kept t (inner_more t)
  by_grows false t = fixed_grows effective sum_of (inner_at G mu wish L) (inner_at G mu wish M) inner_kept t (inner_more t one_f)

  pub fit_same : Stopped (fit_of G mu wish L) → fit_of G mu wish M ≡ fit_of G mu wish L
  unfolding fit_of
  fit_same h = by_same (uses_dispersion G.family) h

  pub fit_account_grows : AtMost (tally (fit_of G mu wish M).items) (tally (fit_of G mu wish L).items)
  unfolding fit_of tally
  fit_account_grows =
      record {
        fits = by_grows (uses_dispersion G.family) is_fit;
        solves = by_grows (uses_dispersion G.family) is_solve;
        tries = by_grows (uses_dispersion G.family) is_try;
        points = by_grows (uses_dispersion G.family) is_point;
        eta = by_grows (uses_dispersion G.family) is_eta;
        mean = by_grows (uses_dispersion G.family) is_mean;
        pwrss = by_grows (uses_dispersion G.family) is_pwrss;
        ok = by_grows (uses_dispersion G.family) is_ok;
      }

-- ---- the call with another limit
no_more : (a : Account) → AtMost a a
no_more a =
    record { fits = omega arith; solves = omega arith; tries = omega arith; points = omega arith; eta = omega arith; mean = omega arith; pwrss = omega arith; ok = omega arith }

abbrev pub limited : ℕ → Settings → Settings
limited M t =
    record { family = t.family; link = t.link; n_agq = t.n_agq; limit = Some M; n = t.n; p = t.p; rows = t.rows; entries = t.entries; start = t.start }

-- a limit that is not above one of at most 1000 is in range
limit_good : (a : Option ℕ) (k : Link) (M : ℕ) → limit_of a k ≤ M → M ≤ 1000 → good_limit a ≡ true
unfolding limit_of good_limit
limit_good (Some L) k M h m = le-leb L 1000 (omega (arith, h, m))
limit_good None k M h m = refl

-- the table looks at the limit's range alone, for any number of responses
pub limited_table : (r M : ℕ) (t : Settings) (s : Shape) (I : Inputs) (L : LentLengths) → limit_of t.limit t.link ≤ M → M ≤ 1000 → table_of r (limited M t) s I L ≡ table_of r t s I L
unfolding table_of good_sizes good_limit good_inputs good_results good_work
limited_table r M t s I L h m = rw (le-leb M 1000 m, limit_good t.limit t.link M h m) refl

-- what is left of a call with another limit from L to 1000, whatever the call came to
module _ (t : Settings) (s : Shape) (I : Inputs) (L : Lent) (M : ℕ) (higher : limit_of t.limit t.link ≤ M) (few : M ≤ 1000) where
  again : table_of 1 (limited M t) s I (lengths_of L) ≡ table_of 1 t s I (lengths_of L)
  again = limited_table 1 M t s I (lengths_of L) higher few

  module _ (f : CarriedFamily) (l : CarriedLink) (e : table_of 1 t s I (lengths_of L) ≡ Ok (f, l)) where
    -- only end 13 is told under 13
    stopped : ((call_of t s I L).answer.number ≡ 13 → ⊥) → Stopped (asked_fit f l t s I)
    unfolding fit_left answer_of result_answer unfitted_answer
    stopped h q = h (rw (accepted_left t s I L f l e, q) refl)

    accepted_same : ((call_of t s I L).answer.number ≡ 13 → ⊥) → call_of (limited M t) s I L ≡ call_of t s I L
    unfolding limit_of call_given
    accepted_same h =
        let same : fit_of (call_given f l t s I) (call_means f l t s I) t.n_agq M ≡ asked_fit f l t s I = fit_same (call_given f l t s I) (call_means f l t s I) t.n_agq (limit_of t.limit t.link) M higher (stopped h) in
        accepted_left (limited M t) s I L f l (again ∙ e) ∙ (rw same refl ∙ sym (accepted_left t s I L f l e))

    accepted_grows : AtMost (call_of (limited M t) s I L).answer.account (call_of t s I L).answer.account
    unfolding limit_of call_given
    accepted_grows =
        rw (accepted_account (limited M t) s I L f l (again ∙ e), accepted_account t s I L f l e)
        (fit_account_grows (call_given f l t s I) (call_means f l t s I) t.n_agq (limit_of t.limit t.link) M higher)

  refused_same : (r : Refusal) → table_of 1 t s I (lengths_of L) ≡ Err r → call_of (limited M t) s I L ≡ call_of t s I L
  refused_same r e = refused_left (limited M t) s I L r (again ∙ e) ∙ sym (refused_left t s I L r e)

  pub call_same : ((call_of t s I L).answer.number ≡ 13 → ⊥) → call_of (limited M t) s I L ≡ call_of t s I L
  call_same h = by (table_of 1 t s I (lengths_of L)) refl
    where
      by : (x : Result (CarriedFamily × CarriedLink) Refusal) → table_of 1 t s I (lengths_of L) ≡ x → call_of (limited M t) s I L ≡ call_of t s I L
      by (Ok (f, l)) e = accepted_same f l e h
      by (Err r) e = refused_same r e

  pub call_account_grows : AtMost (call_of (limited M t) s I L).answer.account (call_of t s I L).answer.account
  call_account_grows = by (table_of 1 t s I (lengths_of L)) refl
    where
      by : (x : Result (CarriedFamily × CarriedLink) Refusal) → table_of 1 t s I (lengths_of L) ≡ x → AtMost (call_of (limited M t) s I L).answer.account (call_of t s I L).answer.account
      by (Ok (f, l)) e = accepted_grows f l e
      by (Err r) e = rw (refused_same r e) (no_more (call_of t s I L).answer.account)
