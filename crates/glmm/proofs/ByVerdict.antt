-- What the table's verdict gives: of an accepted call the facts that the fit asks for, and what the call is by each verdict. Assumes nothing.
use Rattle.std.specs.Prelude.{Result, Ok, Err}
use mathlib.Core.Path.{◌≡◌, refl, sym, ◌∙◌}
use mathlib.Core.List.{List}
use Prim.Native.Nat.{ℕ, ◌*◌, ◌≤◌}
use native.Mathlib.Omega.{arith}
use lib.Ieee.{Float}
use Rattle.model.specs.Answer.{refused_answer}
use Rattle.model.specs.Names.{limit_of}
use Rattle.model.specs.declared.ends.Answer.{Answer}
use Rattle.model.specs.declared.ends.Refusal.{Refusal}
use Rattle.model.specs.declared.sizes.Shape.{Shape}
use Rattle.model.specs.declared.sizes.Settings.{Settings}
use Rattle.family.specs.declared.carried.CarriedFamily.{CarriedFamily}
use Rattle.family.specs.declared.carried.CarriedLink.{CarriedLink}
use Rattle.iteration.specs.Iterated.{Asked}
use Rattle.results.specs.Room.{Writable}
use Rattle.model.specs.Inputs.{Inputs, inputs}
use Rattle.table.specs.Table.{table_of}
use Rattle.table.proofs.Accepting.{accepted_sound}
use Rattle.call.specs.Fit.{fit_of}
use Rattle.call.specs.Call.{Lent, lent, lengths_of, left, call_given, call_means, fit_left, call_by, call_of}
use Rattle.glmm.proofs.Asking.{accepted_asked, accepted_limit}

module _ (t : Settings) (s : Shape) (theta y weights offset x : List Float) (starts columns : List ℕ) (values beta se z u b mu eta residual v r m w : List Float) where
  abbrev I : Inputs
  I = inputs theta y weights offset x starts columns values

  abbrev L : Lent
  L = lent beta se z u b mu eta residual v r m w

  -- ---- an accepted call
  module _ (verdict : Result (CarriedFamily × CarriedLink) Refusal) (f : CarriedFamily) (l : CarriedLink) (told : verdict ≡ table_of 1 t s I (lengths_of L)) (given : verdict ≡ Ok (f, l)) where
    table : table_of 1 t s I (lengths_of L) ≡ Ok (f, l)
    table = sym told ∙ given

    pub call_asked : Asked t.n t.p t.rows s theta starts columns values offset x y r m w
    unfolding lengths_of
    call_asked = accepted_asked t s theta y weights offset x starts columns values (lengths_of L) f l table r m w refl refl refl

    pub call_limit : (k : ℕ) → k ≡ limit_of t.limit t.link → k ≤ 1000
    call_limit k e = rw e (accepted_limit t s theta y weights offset x starts columns values (lengths_of L) f l table)

    pub call_writable : Writable t.n t.p t.rows beta se z u b mu eta residual v
    unfolding lengths_of
    call_writable =
        let a = (accepted_sound 1 t s I (lengths_of L) f l table).results_fit in
        let one : 1 * t.p ≡ t.p = omega arith in
        record {
          beta_long = omega (arith, a.beta);
          se_long = omega (arith, a.se);
          z_long = omega (arith, a.z);
          u_long = omega (arith, a.u);
          b_long = omega (arith, a.b);
          mu_long = omega (arith, a.mu);
          eta_long = omega (arith, a.eta);
          residual_long = omega (arith, a.residual);
          v_long = a.v ∙ rw one refl;
        }

    pub call_fitted : (k : ℕ) (answer : Answer) (L' : Lent) → k ≡ limit_of t.limit t.link
        → left answer L' ≡ fit_left t.n t.p t.rows (call_given f l t s I) (fit_of (call_given f l t s I) (call_means f l t s I) t.n_agq k) L → left answer L' ≡ call_of t s I L
    unfolding call_of call_by
    call_fitted k answer L' ek e = rw table (rw ek at e)

  -- ---- a refusal
  pub call_refused : (verdict : Result (CarriedFamily × CarriedLink) Refusal) (refusal : Refusal) (answer : Answer) → verdict ≡ table_of 1 t s I (lengths_of L) → verdict ≡ Err refusal → answer ≡ refused_answer refusal → left answer L ≡ call_of t s I L
  unfolding call_of call_by
  call_refused verdict refusal answer told given e =
      let table : table_of 1 t s I (lengths_of L) ≡ Err refusal = sym told ∙ given in
      rw (table, e) refl
