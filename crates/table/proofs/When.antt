-- Each refusal is given exactly when the table says, and a call is accepted exactly when every test is passed; no call is refused with 5. Assumes nothing.
use Rattle.std.specs.Prelude.{Result, Ok, Err}
use mathlib.Core.Path.{◌≡◌, refl, sym, ap, ◌∙◌}
use mathlib.Core.Logic.{◌↔◌, ◌⊎◌, inl, inr, ⊎_elim}
use mathlib.Core.Bool.{Bool, true, false, ◌&&◌}
use Prim.Native.Nat.{ℕ}
use Rattle.base.specs.Sparse.{good_rows}
use Rattle.base.proofs.Doubles.{ff}
use Rattle.model.specs.Answer.{refusal_number}
use Rattle.model.specs.Inputs.{Inputs}
use Rattle.model.specs.Settings.{good_sizes}
use Rattle.model.specs.declared.sizes.Shape.{Shape}
use Rattle.model.specs.declared.sizes.Settings.{Settings}
use Rattle.model.specs.declared.ends.Refusal.{Refusal}
use Rattle.model.specs.declared.ends.Refusal.TheVariants.{OutOfRange, Responses, Lengths, Work, SparseRows, NotFinite, LinkForFamily, ResponseRange, StartFit}
use Rattle.model.proofs.Answers.{no_five}
use Rattle.family.specs.Carried.{carried_family, carried_link, valid_for}
use Rattle.family.specs.declared.carried.CarriedFamily.{CarriedFamily}
use Rattle.family.specs.declared.carried.CarriedLink.{CarriedLink}
use Rattle.table.specs.Tests.{good_count, good_inputs, good_results, good_work, good_numbers, all_in_range, start_fits}
use Rattle.table.specs.Table.{refuse_unless, table_of}
use Rattle.table.specs.When.{PastCount, PastAll, GivenWhen, AcceptedWhen}
use Rattle.table.specs.declared.verdicts.LentLengths.{LentLengths}
use Rattle.table.proofs.Accepting.{is_accepted, one_pair}

-- the refusal of a refusing verdict, x of any other
abbrev refusal_in : Refusal → Result (CarriedFamily × CarriedLink) Refusal → Refusal
refusal_in x (Err y) = y
refusal_in x (Ok (f, l)) = x

-- by what a test says
by_said : {C : Type 0} (b : Bool) → (b ≡ true → C) → (b ≡ false → C) → C
by_said true f g = f refl
by_said false f g = g refl

module _ (r : ℕ) (t : Settings) (s : Shape) (I : Inputs) (L : LentLengths) where
  -- ---- when a line says so, the table gives it
  given : (x : Refusal) → GivenWhen r t s I L x → table_of r t s I L ≡ Err x
  unfolding GivenWhen table_of refuse_unless
  given OutOfRange a = rw a refl
  given Responses a = rw (a.0, a.1) refl
  given Lengths a = rw (a.0.0, a.0.1, a.1) refl
  given Work a = rw (a.0.0.0, a.0.0.1, a.0.1, a.1) refl
  given SparseRows a = rw (a.0.0.0.0, a.0.0.0.1, a.0.0.1, a.0.1, a.1) refl
  given NotFinite a = rw (a.0.0.0.0.0, a.0.0.0.0.1, a.0.0.0.1, a.0.0.1, a.0.1, a.1) refl
  given LinkForFamily a = rw (a.0.0.0.0.0.0, a.0.0.0.0.0.1, a.0.0.0.0.1, a.0.0.0.1, a.0.0.1, a.0.1, a.1) refl
  given ResponseRange a =
      let p = a.0.0 in
      rw (p.0.0.0.0.0, p.0.0.0.0.1, p.0.0.0.1, p.0.0.1, p.0.1, p.1, a.0.1, a.1) refl
  given StartFit a =
      let p = a.0.0.0 in
      rw (p.0.0.0.0.0, p.0.0.0.0.1, p.0.0.0.1, p.0.0.1, p.0.1, p.1, a.0.0.1, a.0.1, a.1) refl

  accepted : PastAll r t s I L → table_of r t s I L ≡ Ok ((carried_family t.family), (carried_link t.link))
  unfolding table_of refuse_unless
  accepted a =
      let p = a.0.0.0 in
      rw (p.0.0.0.0.0, p.0.0.0.0.1, p.0.0.0.1, p.0.0.1, p.0.1, p.1, a.0.0.1, a.0.1, a.1) refl

  -- ---- some line does, or all are passed
  abbrev pub Decided : Type 0
  Decided = ((x : Refusal) × GivenWhen r t s I L x) ⊎ PastAll r t s I L

  pub decided : Decided
  unfolding GivenWhen
  decided =
      by_said (good_sizes t s)
      (λ z. by_said (good_count r)
      (λ k. let a : PastCount r t s I L = (z, k) in by_said (good_inputs r t s I && good_results r t L)
      (λ b. by_said (good_work t L)
      (λ c. by_said (good_rows I.starts I.columns t.rows t.n)
      (λ d. by_said (good_numbers I)
      (λ g. by_said (valid_for t.link t.family)
      (λ h. by_said (all_in_range I.y (carried_family t.family))
      (λ o. by_said (start_fits t.start I.weights (carried_family t.family))
      (λ w. inr ((((((((a, b), c), d), g), h), o), w)))
      (λ x. inl (StartFit, (((((((a, b), c), d), g), h), o), x))))
      (λ x. inl (ResponseRange, ((((((a, b), c), d), g), h), x))))
      (λ x. inl (LinkForFamily, (((((a, b), c), d), g), x))))
      (λ x. inl (NotFinite, ((((a, b), c), d), x))))
      (λ x. inl (SparseRows, (((a, b), c), x))))
      (λ x. inl (Work, ((a, b), x))))
      (λ x. inl (Lengths, (a, x))))
      (λ x. inl (Responses, (z, x))))
      (λ x. inl (OutOfRange, x))

  -- ---- so exactly when
  pub refused_when : (x : Refusal) → (table_of r t s I L ≡ Err x) ↔ GivenWhen r t s I L x
  refused_when x = (
    λ e.
        ⊎_elim
        (λ (d : (y : Refusal) × GivenWhen r t s I L y). let q : d.0 ≡ x = ap (refusal_in x) (sym (given d.0 d.1) ∙ e) in rw q at d.1)
        (λ (d : PastAll r t s I L). absurd (ff (ap is_accepted (sym e ∙ accepted d))))
        decided,
    given x,
  )

  pub accepted_when : (f : CarriedFamily) (l : CarriedLink) → (table_of r t s I L ≡ Ok (f, l)) ↔ AcceptedWhen r t s I L f l
  accepted_when f l = (
    λ e.
        ⊎_elim
        (λ (d : (y : Refusal) × GivenWhen r t s I L y). absurd (ff (ap is_accepted (sym (given d.0 d.1) ∙ e))))
        (λ (d : PastAll r t s I L). (d, one_pair (carried_family t.family) f (carried_link t.link) l (sym (accepted d) ∙ e)))
        decided,
    λ a. accepted a.0 ∙ rw (a.1.0, a.1.1) refl,
  )

  -- ---- 5 occurs no longer (document 02, P8)
  pub never_five : (x : Refusal) → table_of r t s I L ≡ Err x → refusal_number x ≡ 5 → ⊥
  never_five x e n = no_five x n
