-- What is told of a call of many responses: by the verdict, by the job's reading, and by the room for the counts. Assumes nothing.
use Rattle.std.specs.Prelude.{Result, Ok, Err}
use mathlib.Core.Path.{◌≡◌, refl, sym, ap, ◌∙◌}
use mathlib.Core.List.{List}
use Prim.Native.Nat.{ℕ, ◌-◌, ◌≤◌, ◌<◌}
use borrow.Author.Tests.{le-leb, lt-leb}
use lib.Ieee.{Float}
use lib.ListN.{length, take, drop}
use Rattle.model.specs.Account.{no_counts}
use Rattle.model.specs.Answer.{refusal_number, blank_answer}
use Rattle.model.specs.Inputs.{Inputs, inputs}
use Rattle.model.specs.declared.ends.Refusal.{Refusal}
use Rattle.model.specs.declared.sizes.Shape.{Shape}
use Rattle.model.specs.declared.sizes.Settings.{Settings}
use Rattle.table.specs.Table.{table_of}
use Rattle.table.specs.declared.verdicts.LentLengths.{LentLengths}
use Rattle.family.specs.declared.carried.CarriedFamily.{CarriedFamily}
use Rattle.family.specs.declared.carried.CarriedLink.{CarriedLink}
use Rattle.job.specs.Lists.{laid}
use Rattle.job.specs.Job.{faulty, job_of, read_of}
use Rattle.reader.specs.declared.whole.Found.{Found}
use Rattle.reader.specs.declared.whole.Header.{Header}
use Rattle.jobfit.specs.Done.{inputs_at}
use Rattle.jobfit.specs.Room.{Fronts, fronts_of}
use Rattle.jobfit.proofs.Lent.{front_is}
use Rattle.jobfit.proofs.Reading.{ReadJob}
use Rattle.jobcall.specs.Told.{Buffers, buffers, Told, told, counts_length, counts_of}
use Rattle.many.specs.Many.{with_y, after_to, lengths_for, verdict_for, refused_with, many_by, many_of, many_answered, fit_many_of}
use Rattle.many.specs.Room.{few_of, DesignFronts, many_fronts}
use Rattle.many.proofs.Asked.{few_verdict}

-- ---- by the verdict, which is asked with products of 64 responses at most
module _ (r : ℕ) (t : Settings) (s : Shape) (I : Inputs) (rows matrices terms results : List Float) (counts : List ℕ) (few : ℕ) (lent : LentLengths) (v : Result (CarriedFamily × CarriedLink) Refusal)
    (most : few ≡ few_of r) (asked : lent ≡ lengths_for few t (length rows) (length matrices) (length terms) (length results) (length counts)) (said : v ≡ table_of r t s I lent) where
  pub verdict_is : (w : Result (CarriedFamily × CarriedLink) Refusal) → v ≡ w → verdict_for r t s I (buffers rows matrices terms results counts) ≡ w
  unfolding verdict_for
  verdict_is w e =
      sym (few_verdict r t s I (length rows) (length matrices) (length terms) (length results) (length counts)) ∙ rw (← most, ← asked) (sym said ∙ e)

  pub refused_told : (x : Refusal) (number : ℕ) (after : List ℕ) → v ≡ Err x → number ≡ refusal_number x → after ≡ laid (counts_of (blank_answer number no_counts) 0) counts
      → told number (buffers rows matrices terms results after) ≡ many_of r t s I (buffers rows matrices terms results counts)
  unfolding many_of many_by refused_with
  refused_told x number after e k q = rw (verdict_is (Err x) e, q, k) refl

  pub fitted_told : (f : CarriedFamily) (l : CarriedLink) (after : Buffers) → v ≡ Ok (f, l) → after ≡ after_to t s I r (buffers rows matrices terms results counts)
      → told 0 after ≡ many_of r t s I (buffers rows matrices terms results counts)
  unfolding many_of many_by
  fitted_told f l after e q = rw (verdict_is (Ok (f, l)) e, q) refl

-- ---- by the reading
pub faulty_told : (s : List ℕ) (r : ℕ) (ys rows matrices terms results : List Float) (counts after : List ℕ) (k b : ℕ) → read_of s ≡ faulty k b
    → after ≡ laid (counts_of (blank_answer k no_counts) b) counts
    → told k (buffers rows matrices terms results after) ≡ many_answered (read_of s) r ys (buffers rows matrices terms results counts)
unfolding many_answered refused_with
faulty_told s r ys rows matrices terms results counts after k b e q = rw (e, q) refl

-- the lists of the design that was read stand in the fronts
pub design_fronts : (h : Header) (theta ys own y weights offset x : List Float) (starts columns : List ℕ) (values : List Float) → Fronts h (inputs own y weights offset x starts columns values)
    → DesignFronts h (inputs theta ys weights offset x starts columns values)
design_fronts h theta ys own y weights offset x starts columns values f =
    record {
      sizes = f.sizes;
      weights = f.weights;
      offset = f.offset;
      x = f.x;
      starts = f.starts;
      columns = f.columns;
      values = f.values;
    }

-- a job that was read is called with all responses; its theta is the front of the slice that it was read into
pub read_told : (s : List ℕ) (h : Header) (g : Found) (a : Inputs) → ReadJob s h g a → (r : ℕ) (ys : List Float) (B : Buffers) (x : Told)
    → x ≡ many_of r h.settings g.shape (many_fronts h (inputs (take (h.thetas - 0) (drop 0 a.theta)) ys a.weights a.offset a.x a.starts a.columns a.values)) B
    → x ≡ many_answered (read_of s) r ys B
unfolding many_answered fronts_of
read_told s h g a j r ys B x d =
    let theta = take (h.thetas - 0) (drop 0 a.theta) in
    let q : theta ≡ (job_of s).theta = front_is h.thetas a.theta ∙ j.own in
    let lists : many_fronts h (inputs theta ys a.weights a.offset a.x a.starts a.columns a.values) ≡ with_y ys (inputs_at (job_of s).theta (job_of s)) = ap (with_y ys) (j.at theta) ∙ rw q refl in
    d ∙ rw (j.read, lists, j.settings, j.shape) refl

-- ---- without room for the counts of one response, and with
pub short_told : (s : List ℕ) (ys : List Float) (r : ℕ) (B : Buffers) → length B.counts < counts_length → told 2 B ≡ fit_many_of s ys r B
unfolding fit_many_of
short_told s ys r B l = rw (lt-leb counts_length (length B.counts) l) refl

pub long_told : (s : List ℕ) (ys : List Float) (r : ℕ) (B : Buffers) (t : Told) → counts_length ≤ length B.counts → t ≡ many_answered (read_of s) r ys B → t ≡ fit_many_of s ys r B
unfolding fit_many_of
long_told s ys r B t l e = rw (le-leb counts_length (length B.counts) l) e
