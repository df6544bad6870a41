-- The start with trial counts: with weights absent or all 1 it begins from the same means as the usual start, so the call is the same; a call that asks for it is refused with 27 exactly where it must be. Document 02, P10. Assumes nothing.
use Rattle.std.specs.Prelude.{Ok}
use mathlib.Core.Path.{◌≡◌, refl, sym, ap, ◌∙◌}
use mathlib.Core.Logic.{◌⊎◌}
use Prim.Native.Nat.{ℕ, ◌<◌}
use lib.Dec.{T}
use lib.Ieee.{Float, binary64, fits}
use Rattle.base.specs.Number.{one_f}
use Rattle.base.specs.Sum.{◌!◌}
use Rattle.base.proofs.Doubles.{ff}
use Rattle.base.proofs.Fills.{build_cong}
use Rattle.model.specs.Inputs.{Inputs}
use Rattle.model.specs.Settings.{good_sizes}
use Rattle.model.specs.declared.ends.Refusal.TheVariants.{StartFit}
use Rattle.model.specs.declared.names.Start.{Start}
use Rattle.model.specs.declared.names.Start.TheVariants.{Usual, Trials}
use Rattle.model.specs.declared.sizes.Shape.{Shape}
use Rattle.model.specs.declared.sizes.Settings.{Settings}
use Rattle.family.specs.Carried.{carried_family}
use Rattle.family.specs.Family.{initialize_mu, trials_mean}
use Rattle.family.specs.declared.carried.CarriedFamily.{CarriedFamily}
use Rattle.family.specs.declared.carried.CarriedFamily.TheVariants.{Binomial}
use Rattle.family.specs.declared.carried.CarriedLink.{CarriedLink}
use Rattle.family_lists.specs.Lists.{weight_at}
use Rattle.rule.specs.Given.{Given, n_of}
use Rattle.rule.specs.Run.{start_mean, start_mean_at, start_means}
use Rattle.spread.proofs.OneTimes.{one_times, one_and_one}
use Rattle.table.specs.Table.{table_of}
use Rattle.table.specs.Tests.{good_inputs, good_results, good_work}
use Rattle.table.specs.When.{GivenWhen}
use Rattle.table.proofs.Accepting.{usual_passes}
use Rattle.table.proofs.Meant.{is_trials}
use Rattle.table.proofs.When.{accepted_when}
use Rattle.table.proofs.Exactly.{SomeBelow, unfit_exactly}
use Rattle.call.specs.Call.{Lent, lengths_of, call_given, call_of}
use Rattle.call.proofs.Leaves.{accepted_left}
use Rattle.call.proofs.When.{refused_exactly}

-- ---- the means
one_trial_lem : (y : Float) → T (fits binary64 y) → trials_mean one_f y ≡ initialize_mu Binomial y
unfolding trials_mean initialize_mu
one_trial_lem y p = rw (one_times y p, one_and_one) refl

-- with weights absent or all 1
pub start_same : (G : Given) → G.family ≡ Binomial → ((i : ℕ) → i < n_of G → T (fits binary64 (G.y ! i))) → ((i : ℕ) → i < n_of G → weight_at G.weights i ≡ one_f)
    → start_means Trials G ≡ start_means Usual G
unfolding start_means start_mean_at start_mean
start_same G b doubles ones =
    build_cong (start_mean_at Trials G.family G.y G.weights) (start_mean_at Usual G.family G.y G.weights) (n_of G)
    (λ i l. rw (ones i l, b) (one_trial_lem (G.y ! i) (doubles i l)))

-- ---- the call
-- the settings with another start
abbrev pub started : Start → Settings → Settings
started start t =
    record {
      family = t.family;
      link = t.link;
      n_agq = t.n_agq;
      limit = t.limit;
      n = t.n;
      p = t.p;
      rows = t.rows;
      entries = t.entries;
      start = start;
    }

-- a call that is accepted with some start is accepted with the usual one
pub usual_accepted : (start : Start) (t : Settings) (s : Shape) (I : Inputs) (L : Lent) (f : CarriedFamily) (l : CarriedLink) → table_of 1 (started start t) s I (lengths_of L) ≡ Ok (f, l)
    → table_of 1 (started Usual t) s I (lengths_of L) ≡ Ok (f, l)
unfolding good_sizes good_inputs good_results good_work
usual_accepted start t s I L f l e =
    let a = (accepted_when 1 (started start t) s I (lengths_of L) f l).0 e in
    (accepted_when 1 (started Usual t) s I (lengths_of L) f l).1 ((a.0.0, usual_passes I.weights (carried_family t.family)), a.1)

pub call_start : (t : Settings) (s : Shape) (I : Inputs) (L : Lent) (l : CarriedLink) → table_of 1 (started Trials t) s I (lengths_of L) ≡ Ok (Binomial, l)
    → ((i : ℕ) → i < t.n → T (fits binary64 (I.y ! i))) → ((i : ℕ) → i < t.n → weight_at I.weights i ≡ one_f)
    → call_of (started Trials t) s I L ≡ call_of (started Usual t) s I L
unfolding call_given
call_start t s I L l e doubles ones =
    let same = start_same (call_given Binomial l t s I) refl doubles ones in
    accepted_left (started Trials t) s I L Binomial l e
    ∙ (rw same refl ∙ sym (accepted_left (started Usual t) s I L Binomial l (usual_accepted Trials t s I L Binomial l e)))

-- ---- 27: trial counts were asked for, and the family is not binomial or some weight is below 0
pub start_refused : (t : Settings) (s : Shape) (I : Inputs) (L : Lent) → (call_of t s I L).answer.number ≡ 27
    → (t.start ≡ Trials) × ((carried_family t.family ≡ Binomial → ⊥) ⊎ SomeBelow I.weights)
unfolding GivenWhen
start_refused t s I L e =
    let a = (refused_exactly t s I L StartFit).0 e in
    (unfit_exactly t.start I.weights (carried_family t.family)).0 a.1

-- the usual start is never refused with it
pub usual_never : (t : Settings) (s : Shape) (I : Inputs) (L : Lent) → t.start ≡ Usual → (call_of t s I L).answer.number ≡ 27 → ⊥
usual_never t s I L u e = ff (ap is_trials (sym u ∙ (start_refused t s I L e).0))
