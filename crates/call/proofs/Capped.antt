-- The account of a call keeps to its caps: at most 241 inner fits, 241,000 solves, 24,100,000 tries and 1,687,000 points; of the tries' parts those refused as the tries, those accepted as the solves. Assumes nothing.
use Rattle.family.specs.declared.carried.CarriedFamily.{CarriedFamily}
use Rattle.family.specs.declared.carried.CarriedLink.{CarriedLink}
use Rattle.model.specs.declared.ends.Refusal.{Refusal}
use Rattle.std.specs.Prelude.{Result, Ok, Err}
use mathlib.Core.Path.{◌≡◌, refl}
use mathlib.Core.Bool.{Bool, true, false}
use mathlib.Core.List.{List}
use Prim.Native.Nat.{ℕ, ◌≤◌}
use native.Mathlib.Omega.{arith}
use lib.Ieee.{Float}
use Rattle.base.specs.Number.{one_f}
use Rattle.model.specs.Account.{no_counts, AtMost, inner_cap, call_cap, Capped}
use Rattle.model.specs.Items.{tally}
use Rattle.model.specs.Names.{limit_of}
use Rattle.model.specs.Shape.{good_shape}
use Rattle.model.specs.declared.sizes.Shape.{Shape}
use Rattle.model.specs.declared.sizes.Settings.{Settings}
use Rattle.model.proofs.Accounts.{caps_trans}
use Rattle.model.proofs.Sized.{limit_few}
use Rattle.family.specs.Family.{uses_dispersion}
use Rattle.rule.specs.Given.{Given, n_of}
use Rattle.agq_rule.proofs.Caps.{inner_within}
use Rattle.model.specs.Inputs.{Inputs}
use Rattle.table.specs.Table.{table_of}
use Rattle.table.specs.Facts.{Sound}
use Rattle.table.proofs.Accepting.{accepted_sound}
use Rattle.dispersion.specs.Phi.{effective_n}
use Rattle.dispersion.proofs.Capped.{loop_capped, fixed_capped}
use Rattle.call.specs.Fit.{sum_of, total_of, inner_at, fit_by, fit_of}
use Rattle.call.specs.Call.{Lent, lengths_of, call_given, call_means, call_of}
use Rattle.call.proofs.Leaves.{refused_left, accepted_account}

-- the caps of an inner fit are within those of a call
pub one_fit_lem : AtMost call_cap inner_cap
one_fit_lem =
    record {
      fits = omega arith;
      solves = omega arith;
      tries = omega arith;
      points = omega arith;
      eta = omega arith;
      mean = omega arith;
      pwrss = omega arith;
      ok = omega arith;
    }

none_capped : Capped no_counts
none_capped =
    record {
      fits = omega arith;
      solves = omega arith;
      tries = omega arith;
      points = omega arith;
      eta = omega arith;
      mean = omega arith;
      pwrss = omega arith;
      ok = omega arith;
    }

-- ---- the fit of a good shape with at most 1000 iterations
module _ (G : Given) (mu : List Float) (wish L : ℕ) (good : good_shape G.design.shape ≡ true) (few : L ≤ 1000) where
  pub inner_at_capped : (phi : Float) → AtMost inner_cap (tally (inner_at G mu wish L phi).items)
  unfolding inner_at total_of
  inner_at_capped phi = inner_within G wish phi L mu good few

  by_capped : (b : Bool) → Capped (tally (fit_by b G mu wish L).items)
  unfolding fit_by
  by_capped true = loop_capped (effective_n (n_of G) G.weights) sum_of (inner_at G mu wish L) inner_at_capped
  by_capped false = caps_trans one_fit_lem (fixed_capped (effective_n (n_of G) G.weights) sum_of (inner_at G mu wish L) (inner_at_capped one_f))

  pub fit_capped : Capped (tally (fit_of G mu wish L).items)
  unfolding fit_of
  fit_capped = by_capped (uses_dispersion G.family)

-- ---- every call
pub call_capped : (t : Settings) (s : Shape) (I : Inputs) (L : Lent) → Capped (call_of t s I L).answer.account
unfolding call_given
call_capped t s I L = by_verdict (table_of 1 t s I (lengths_of L)) refl
  where
    by_verdict : (x : Result (CarriedFamily × CarriedLink) Refusal) → table_of 1 t s I (lengths_of L) ≡ x → Capped (call_of t s I L).answer.account
    by_verdict (Err r) e = rw (refused_left t s I L r e) none_capped
    by_verdict (Ok (f, l)) e =
        let a : Sound 1 t s I (lengths_of L) f l = accepted_sound 1 t s I (lengths_of L) f l e in
        rw (accepted_account t s I L f l e)
        (fit_capped (call_given f l t s I) (call_means f l t s I) t.n_agq (limit_of t.limit t.link) a.sized.shape (limit_few t.limit t.link a.sized.limit))
