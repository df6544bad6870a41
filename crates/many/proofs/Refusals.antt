-- When a call of many responses is refused, and that it then leaves everything but its first counts as it was lent. Assumes nothing.
use Rattle.family.specs.declared.carried.CarriedFamily.{CarriedFamily}
use Rattle.family.specs.declared.carried.CarriedLink.{CarriedLink}
use Rattle.std.specs.Prelude.{Result, Ok, Err}
use mathlib.Core.Path.{◌≡◌, refl, sym, ap, ◌∙◌}
use mathlib.Core.Bool.{Bool, true, false}
use mathlib.Core.List.{List}
use mathlib.Core.Logic.{◌↔◌, ⊎_elim}
use Prim.Native.Nat.{ℕ, ◌≤◌, ◌<◌}
use lib.Dec.{leb}
use lib.Ieee.{Float}
use lib.ListN.{length, drop}
use Rattle.base.specs.Number.{finite}
use Rattle.base.specs.Sum.{◌!◌}
use Rattle.base.proofs.Doubles.{ff}
use Rattle.model.specs.Account.{no_counts}
use Rattle.model.specs.Answer.{refusal_number, blank_answer}
use Rattle.model.specs.Inputs.{Inputs}
use Rattle.model.specs.Settings.{Sized}
use Rattle.model.specs.declared.ends.Answer.{Answer}
use Rattle.model.specs.declared.ends.Refusal.{Refusal}
use Rattle.model.specs.declared.ends.Refusal.TheVariants.{Responses, NotFinite, ResponseRange}
use Rattle.model.specs.declared.sizes.Shape.{Shape}
use Rattle.model.specs.declared.sizes.Settings.{Settings}
use Rattle.model.proofs.Tests.{false_unless}
use Rattle.family.specs.Carried.{carried_family, carried_link}
use Rattle.family.specs.Family.{in_range}
use Rattle.table.specs.Table.{table_of}
use Rattle.table.specs.When.{PastRows, PastLink, PastAll, GivenWhen}
use Rattle.table.specs.declared.verdicts.LentLengths.{LentLengths}
use Rattle.table.proofs.Exactly.{sizes_exactly, count_exactly, numbers_exactly, outside_exactly}
use Rattle.table.proofs.When.{decided, refused_when, accepted_when}
use Rattle.call.proofs.When.{same_refusal}
use Rattle.job.specs.Lists.{laid}
use Rattle.job.specs.Job.{Read, faulty, sound, read_of}
use Rattle.jobfit.specs.Done.{inputs_of}
use Rattle.jobfit.proofs.Lent.{refusal_some}
use Rattle.jobcall.specs.Told.{Buffers, Told, counts_length, counts_of}
use Rattle.jobcall.proofs.Kept.{AsLent}
use Rattle.many.specs.Many.{lengths_for, verdict_for, refused_with, many_by, many_of, job_with_y, many_answered, fit_many_of}

-- ---- by the table
module _ (r : ℕ) (t : Settings) (s : Shape) (I : Inputs) (B : Buffers) where
  -- the lengths that the table is told
  abbrev pub asked : LentLengths
  asked = lengths_for r t (length B.rows) (length B.matrices) (length B.terms) (length B.results) (length B.counts)

  pub refused_many : (x : Refusal) → table_of r t s I asked ≡ Err x → many_of r t s I B ≡ refused_with (refusal_number x) 0 B
  unfolding many_of many_by verdict_for
  refused_many x e = rw e refl

  given_number : (x : Refusal) → GivenWhen r t s I asked x → (many_of r t s I B).returned ≡ refusal_number x
  unfolding refused_with
  given_number x g = ap (λ (z : Told). z.returned) (refused_many x ((refused_when r t s I asked x).1 g))

  accepted_number : PastAll r t s I asked → (many_of r t s I B).returned ≡ 0
  unfolding many_of many_by verdict_for
  accepted_number p = rw ((accepted_when r t s I asked (carried_family t.family) (carried_link t.link)).1 (p, (refl, refl))) refl

  -- every number of the table exactly when the table says
  pub refused_exactly : (x : Refusal) → ((many_of r t s I B).returned ≡ refusal_number x) ↔ GivenWhen r t s I asked x
  refused_exactly x = (
    λ e.
        ⊎_elim
        (λ (d : (y : Refusal) × GivenWhen r t s I asked y). let q : d.0 ≡ x = same_refusal d.0 x (sym (given_number d.0 d.1) ∙ e) in rw q at d.1)
        (λ (d : PastAll r t s I asked). absurd (refusal_some x (sym e ∙ accepted_number d)))
        (decided r t s I asked),
    given_number x,
  )

  -- 0 exactly where every test is passed
  pub accepted_exactly : ((many_of r t s I B).returned ≡ 0) ↔ PastAll r t s I asked
  accepted_exactly = (
    λ e.
        ⊎_elim (λ (d : (y : Refusal) × GivenWhen r t s I asked y). absurd (refusal_some d.0 (sym (given_number d.0 d.1) ∙ e))) (λ (d : PastAll r t s I asked). d)
        (decided r t s I asked),
    accepted_number,
  )

  -- 8 exactly where the sizes are in range and the count is outside 1 to 64, whatever else is given
  pub eight_exactly : ((many_of r t s I B).returned ≡ 8) ↔ (Sized t s × ((1 ≤ r) × (r ≤ 64) → ⊥))
  unfolding GivenWhen
  eight_exactly = (
    λ e.
        let g = (refused_exactly Responses).0 e in
        ((sizes_exactly t s).0 g.0, λ z. ff (sym g.1 ∙ (count_exactly r).1 z)),
    λ z. (refused_exactly Responses).1 ((sizes_exactly t s).1 z.0, sym (false_unless (λ q. z.1 ((count_exactly r).0 q)))),
  )

  -- one number that is not finite, in whichever response it stands, refuses the whole call with 3 where nothing before it does
  pub three_anywhere : PastRows r t s I asked → (k : ℕ) → k < length I.y → finite (I.y ! k) ≡ false → many_of r t s I B ≡ refused_with 3 0 B
  unfolding GivenWhen
  three_anywhere p k h q = refused_many NotFinite ((refused_when r t s I asked NotFinite).1 (p, sym (false_unless (λ z. ff (sym q ∙ ((numbers_exactly I).0 z).y k h)))))

  -- and one response out of its family's range with 9
  pub nine_anywhere : PastLink r t s I asked → (k : ℕ) → k < length I.y → in_range (carried_family t.family) (I.y ! k) ≡ false → many_of r t s I B ≡ refused_with 9 0 B
  unfolding GivenWhen
  nine_anywhere p k h q = refused_many ResponseRange ((refused_when r t s I asked ResponseRange).1 (p, (outside_exactly (carried_family t.family) I.y).1 (k, (h, q))))

-- ---- what a refusal leaves
-- all but the first counts
pub record Untouched (A B : Buffers) : Type 0 where
  pub lent : AsLent A B
  pub counts : drop counts_length B.counts ≡ drop counts_length A.counts

behind_told : (a : Answer) (byte : ℕ) (counts : List ℕ) → drop counts_length (laid (counts_of a byte) counts) ≡ drop counts_length counts
unfolding laid counts_of
behind_told a byte counts = refl

untouched : (number byte : ℕ) (B : Buffers) → Untouched B (refused_with number byte B).after
unfolding refused_with
untouched number byte B =
    record {
      lent = record { rows = refl; matrices = refl; terms = refl; results = refl };
      counts = behind_told (blank_answer number no_counts) byte B.counts;
    }

by_verdict : (v : Result (CarriedFamily × CarriedLink) Refusal) (r : ℕ) (t : Settings) (s : Shape) (I : Inputs) (B : Buffers) → ((many_by v r t s I B).returned ≡ 0 → ⊥) → Untouched B (many_by v r t s I B).after
unfolding many_by
by_verdict (Err x) r t s I B h = untouched (refusal_number x) 0 B
by_verdict (Ok (f, l)) r t s I B h = absurd (h refl)

by_reading : (x : Read) (r : ℕ) (ys : List Float) (B : Buffers) → ((many_answered x r ys B).returned ≡ 0 → ⊥) → Untouched B (many_answered x r ys B).after
unfolding many_answered many_of
by_reading (faulty k b) r ys B h = untouched k b B
by_reading (sound j) r ys B h = by_verdict (verdict_for r j.settings j.shape (inputs_of (job_with_y ys j)) B) r j.settings j.shape (inputs_of (job_with_y ys j)) B h

pub refused_left : (s : List ℕ) (ys : List Float) (r : ℕ) (B : Buffers) → ((fit_many_of s ys r B).returned ≡ 0 → ⊥) → Untouched B (fit_many_of s ys r B).after
unfolding fit_many_of
refused_left s ys r B h = by (leb counts_length (length B.counts)) refl
  where
    by : (b : Bool) → leb counts_length (length B.counts) ≡ b → Untouched B (fit_many_of s ys r B).after
    by true e = rw e (by_reading (read_of s) r ys B (λ (z : (many_answered (read_of s) r ys B).returned ≡ 0). h (rw e z)))
    by false e = rw e (record { lent = record { rows = refl; matrices = refl; terms = refl; results = refl }; counts = refl })
