-- The room of the lent lists as facts, and reading put together: what is refused leaves them as they were, a sound job is filled in. Assumes nothing.
use Prim.{tt}
use Rattle.std.specs.Prelude.{Result, Ok, Err}
use mathlib.Core.Path.{◌≡◌, sym, ap, ◌∙◌}
use mathlib.Core.Bool.{true, false}
use mathlib.Core.List.{List}
use Prim.Native.Nat.{ℕ, ◌+◌, ◌*◌, ◌≤◌}
use borrow.Author.Tests.{leb-true}
use lib.Dec.{leb}
use lib.Ieee.{Float}
use lib.ListN.{length}
use Rattle.base.specs.List.{build}
use Rattle.model.proofs.Tests.{both}
use Rattle.model.specs.declared.sizes.Shape.{Shape}
use Rattle.job.specs.declared.faults.Fault.{Fault}
use Rattle.job.specs.Lists.{counts, join_to, laid}
use Rattle.job.specs.Format.{weighted, shifted, obs, cols, rows_in, thetas, theta_at, y_at, weights_at, offset_at, x_at, number, start_of, shape_of}
use Rattle.job.specs.Faults.{fault, Checked, demand, first, is_sound, fault_of}
use Rattle.job.specs.declared.survey.Survey.{Survey}
use Rattle.job.specs.Survey.{survey_of, read_off}
use Rattle.job.proofs.SurveyLaws.{fault_in, survey_fault, survey_sound}
use Rattle.job.specs.Job.{columns_of, values_of, sparse_of, job_of}
use Rattle.reader.specs.declared.whole.Header.{Header}
use Rattle.reader.specs.declared.whole.Found.{Found}
use Rattle.reader.specs.Reading.{roomy, read_fault, header_of, found_by, filled, left_by, ReadDone}
use Rattle.model.specs.Inputs.{Inputs, inputs}

-- the lent lists hold any job
pub record Room (b : Inputs) : Type 0 where
  pub theta_room : 288 ≤ length b.theta
  pub y_room : 512 ≤ length b.y
  pub weights_room : 512 ≤ length b.weights
  pub offset_room : 512 ≤ length b.offset
  pub x_room : 8192 ≤ length b.x
  pub starts_room : 33 ≤ length b.starts
  pub columns_room : 8192 ≤ length b.columns
  pub values_room : 8192 ≤ length b.values

pub room_of : (b : Inputs) → roomy b ≡ true → Room b
unfolding roomy
room_of b e =
    let t : (leb 288 (length b.theta) ≡ true) × (_ ≡ true) = both e in
    let y : (leb 512 (length b.y) ≡ true) × (_ ≡ true) = both t.1 in
    let w : (leb 512 (length b.weights) ≡ true) × (_ ≡ true) = both y.1 in
    let o : (leb 512 (length b.offset) ≡ true) × (_ ≡ true) = both w.1 in
    let x : (leb 8192 (length b.x) ≡ true) × (_ ≡ true) = both o.1 in
    let s : (leb 33 (length b.starts) ≡ true) × (_ ≡ true) = both x.1 in
    let c : (leb 8192 (length b.columns) ≡ true) × (leb 8192 (length b.values) ≡ true) = both s.1 in
    record {
      theta_room = leb-true _ _ t.0;
      y_room = leb-true _ _ y.0;
      weights_room = leb-true _ _ w.0;
      offset_room = leb-true _ _ o.0;
      x_room = leb-true _ _ x.0;
      starts_room = leb-true _ _ s.0;
      columns_room = leb-true _ _ c.0;
      values_room = leb-true _ _ c.1;
    }

-- the eight lists of a sound job
pub filled_is : (s : List ℕ) (b : Inputs) (theta y weights offset x : List Float) (starts columns : List ℕ) (values : List Float)
    → theta ≡ laid (build (number s (theta_at s)) (thetas s)) b.theta
    → y ≡ laid (build (number s (y_at s)) (obs s)) b.y
    → weights ≡ laid (build (number s (weights_at s)) (weighted s * obs s)) b.weights
    → offset ≡ laid (build (number s (offset_at s)) (shifted s * obs s)) b.offset
    → x ≡ laid (build (number s (x_at s)) (obs s * cols s)) b.x
    → starts ≡ laid (counts (start_of s) (rows_in s + 1)) b.starts
    → columns ≡ laid (join_to (rows_in s) (columns_of s)) b.columns
    → values ≡ laid (join_to (rows_in s) (values_of s)) b.values
    → inputs theta y weights offset x starts columns values ≡ filled (job_of s) b
unfolding filled job_of sparse_of
filled_is s b theta y weights offset x starts columns values t u w o c r k v = rw (t, u, w, o, c, r, k, v)

-- ---- the fault of reading
pub no_room : (s : List ℕ) (b : Inputs) → roomy b ≡ false → read_fault s b ≡ Err (fault 2 0)
unfolding read_fault demand first
no_room s b e = rw e

pub with_room : (s : List ℕ) (b : Inputs) → roomy b ≡ true → read_fault s b ≡ fault_of s
unfolding read_fault demand first
with_room s b e = rw e

pub sound_is : (f : Checked) → f ≡ Ok tt → is_sound f ≡ true
unfolding is_sound
sound_is f e = rw e

-- what was found of a sound job
pub surveyed : (s : List ℕ) (r : Result Survey Fault) (v : Survey) → r ≡ survey_of s → r ≡ Ok v → (is_sound (fault_of s) ≡ true) × (v ≡ read_off s)
surveyed s r v e h =
    let k = sound_is (fault_of s) (sym (survey_fault s r e) ∙ ap fault_in h) in
    let f : r ≡ Ok (read_off s) = survey_sound s r e k in
    (k, cc)

-- the fault of a job for which there is room
pub surveyed_at : (s : List ℕ) (b : Inputs) (r : Result Survey Fault) (f : Checked) → roomy b ≡ true → r ≡ survey_of s → fault_in r ≡ f → read_fault s b ≡ f
surveyed_at s b r f k e h = with_room s b k ∙ (sym (survey_fault s r e) ∙ h)

pub refuses : (s : List ℕ) (b : Inputs) (e : Fault) (f : Result Found Fault) → f ≡ Err e → read_fault s b ≡ Err e → ReadDone s b f b
unfolding found_by left_by
refuses s b e f g h = record { says = rw h g; leaves = rw h }

pub accepts : (s : List ℕ) (b a : Inputs) (h : Header) (k : Shape) → read_fault s b ≡ Ok tt → h ≡ header_of (job_of s) → k ≡ shape_of s → a ≡ filled (job_of s) b
    → ReadDone s b (Ok (record { header = h; shape = k })) a
unfolding found_by left_by job_of
accepts s b a h k e g d l = record { says = rw (e, g, d); leaves = rw e l }
