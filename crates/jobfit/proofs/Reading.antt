-- What reading leaves in the fronts of the slices is the job, so that a call of those fronts is a call of the job. Assumes nothing.
use Prim.{tt}
use Rattle.std.specs.Prelude.{Result, Ok, Err}
use mathlib.Core.Path.{◌≡◌, refl, sym, ap, ◌∙◌}
use mathlib.Core.Bool.{true}
use mathlib.Core.List.{List}
use Prim.Native.Nat.{ℕ, ◌+◌, ◌*◌, ◌≤◌}
use native.Mathlib.Omega.{arith}
use lib.Ieee.{Float}
use lib.ListN.{length, take, replicate}
use lib.Seq.{take_at}
use Rattle.base.specs.Number.{zero_f}
use Rattle.base.proofs.Fills.{build_length}
use Rattle.job.specs.declared.faults.Fault.{Fault}
use Rattle.job.specs.Lists.{laid}
use Rattle.job.specs.Format.{obs, cols, rows_in, start_of}
use Rattle.job.specs.Faults.{Checked, fault_of}
use Rattle.job.specs.Job.{settings_of, sparse_of, job_of, faulty, sound, read_by, read_of}
use Rattle.job.proofs.ListLaws.{counts_length_lem, laid_length}
use Rattle.job.proofs.RowLaws.{Fits, sound_fits, row_starts, columns_before, values_before}
use Rattle.reader.specs.declared.whole.Header.{Header}
use Rattle.reader.specs.declared.whole.Found.{Found}
use Rattle.reader.specs.Reading.{roomy, header_of, found_by, filled, left_by, ReadDone}
use Rattle.model.specs.Inputs.{Inputs, inputs}
use Rattle.reader.proofs.Rooms.{Room, room_of, with_room, sound_is}
use Rattle.jobfit.specs.Done.{inputs_at}
use Rattle.jobfit.specs.Room.{Fronts, fronts_of}

-- a job that was refused, with room for any, had that fault
refused_fault : (s : List ℕ) (b a : Inputs) (e : Fault) (r : Result Found Fault) → roomy b ≡ true → r ≡ Err e → ReadDone s b r a → fault_of s ≡ Err e
unfolding found_by
refused_fault s b a e r room t d = by (fault_of s) refl (sym t ∙ (rw (with_room s b room) at d.says))
  where
    by : (f : Checked) → fault_of s ≡ f → Err e ≡ found_by f (job_of s) → fault_of s ≡ Err e
    by (Ok u) q p = let z : ◌≡◌ {A = ℕ} 0 1 = cc in absurd (omega arith)
    by (Err x) q p = cc

-- a job that was accepted is sound, and was told and laid
record ReadSound (s : List ℕ) (b : Inputs) (h : Header) (g : Found) (a : Inputs) : Type 0 where
  fault : fault_of s ≡ Ok tt
  header : h ≡ header_of (job_of s)
  shape : g.shape ≡ (job_of s).shape
  lists : a ≡ filled (job_of s) b

accepted_sound : (s : List ℕ) (b a : Inputs) (g : Found) (r : Result Found Fault) → roomy b ≡ true → r ≡ Ok g → ReadDone s b r a → ReadSound s b g.header g a
unfolding found_by left_by
accepted_sound s b a g r room t d = by (fault_of s) refl (sym t ∙ (rw (with_room s b room) at d.says)) (rw (with_room s b room) at d.leaves)
  where
    by : (f : Checked) → fault_of s ≡ f → Ok g ≡ found_by f (job_of s) → a ≡ left_by f (job_of s) b → ReadSound s b g.header g a
    by (Ok u) e p q =
        let found : g ≡ record { header = header_of (job_of s); shape = (job_of s).shape } = cc in
        record { fault = e; header = ap (λ (x : Found). x.header) found; shape = ap (λ (x : Found). x.shape) found; lists = q }
    by (Err x) e p q = let z : ◌≡◌ {A = ℕ} 0 1 = cc in absurd (omega arith)

-- the front of a list that was laid
laid_front : {A : Type 0} (n : ℕ) (xs b : List A) → length xs ≡ n → take n (laid xs b) ≡ xs
unfolding laid
laid_front n xs b e = take_at xs _ n e

-- at most 6,553 entries, ten bytes each
entries_few : (s : List ℕ) → Fits s → start_of s (rows_in s) ≤ 6553
entries_few s f = omega (arith, row_starts s (rows_in s), f.ends, f.fitting.0.0)

-- so many entries are there in a list over the front of which another was laid
laid_holds : {A : Type 0} (n : ℕ) (xs b : List A) → length xs ≤ length b → n ≤ length b → n ≤ length (laid xs b)
laid_holds n xs b h l = rw (laid_length xs b h) l

-- another theta in lent lists
abbrev pub beside : List Float → Inputs → Inputs
beside theta b = inputs theta b.y b.weights b.offset b.x b.starts b.columns b.values

-- the fronts are there
fronts_there : (s : List ℕ) (b : Inputs) (theta : List Float) → Room b → Fits s → Fronts (header_of (job_of s)) (beside theta (filled (job_of s) b))
unfolding header_of job_of settings_of sparse_of filled
fronts_there s b theta r f =
    let few = entries_few s f in
    let m = f.small in
    let y : length (job_of s).y ≤ length b.y = rw build_length (omega (arith, m.rows, r.y_room)) in
    let weights : length (job_of s).weights ≤ length b.weights = rw build_length (omega (arith, m.weighed, r.weights_room)) in
    let offset : length (job_of s).offset ≤ length b.offset = rw build_length (omega (arith, m.moved, r.offset_room)) in
    let x : length (job_of s).x ≤ length b.x = rw build_length (omega (arith, m.grid, r.x_room)) in
    let starts : length (job_of s).z.starts ≤ length b.starts = rw counts_length_lem (omega (arith, m.effects, r.starts_room)) in
    let columns : length (job_of s).z.columns ≤ length b.columns = rw (columns_before s (rows_in s)) (omega (arith, r.columns_room)) in
    let values : length (job_of s).z.values ≤ length b.values = rw (values_before s (rows_in s)) (omega (arith, r.values_room)) in
    record {
      sizes = record { n = m.rows; p = m.wide; q = m.effects };
      y = laid_holds (obs s) (job_of s).y b.y y (omega (arith, m.rows, r.y_room));
      weights = laid_holds (length (job_of s).weights) (job_of s).weights b.weights weights weights;
      offset = laid_holds (length (job_of s).offset) (job_of s).offset b.offset offset offset;
      x = laid_holds (obs s * cols s) (job_of s).x b.x x (omega (arith, m.grid, r.x_room));
      starts = laid_holds (rows_in s + 1) (job_of s).z.starts b.starts starts (omega (arith, m.effects, r.starts_room));
      columns = laid_holds (start_of s (rows_in s)) (job_of s).z.columns b.columns columns (omega (arith, r.columns_room));
      values = laid_holds (start_of s (rows_in s)) (job_of s).z.values b.values values (omega (arith, r.values_room));
    }

-- so is theta's
theta_there : (s : List ℕ) (b : Inputs) → Room b → Fits s → (header_of (job_of s)).thetas ≤ length (filled (job_of s) b).theta
unfolding header_of job_of filled
theta_there s b r f =
    let m = f.small in
    let theta : length (job_of s).theta ≤ length b.theta = rw build_length (omega (arith, m.packed, r.theta_room)) in
    laid_holds (length (job_of s).theta) (job_of s).theta b.theta theta theta

-- and they are the job's lists
fronts_are : (s : List ℕ) (b : Inputs) (theta : List Float)
    → fronts_of (header_of (job_of s)) (beside theta (filled (job_of s) b)) ≡ inputs_at theta (job_of s)
unfolding header_of job_of settings_of sparse_of filled fronts_of
fronts_are s b theta =
    rw (
      laid_front _ _ b.y (build_length _ _),
      laid_front _ _ b.weights refl,
      laid_front _ _ b.offset refl,
      laid_front _ _ b.x (build_length _ _),
      laid_front _ _ b.starts (counts_length_lem _ _),
      laid_front _ _ b.columns (columns_before s (rows_in s)),
      laid_front _ _ b.values (values_before s (rows_in s)),
    )

theta_is : (s : List ℕ) (b : Inputs) → take (header_of (job_of s)).thetas (filled (job_of s) b).theta ≡ (job_of s).theta
unfolding header_of filled
theta_is s b = laid_front _ _ b.theta refl

-- ---- after reading, with room for any job
-- what was read is a job; its settings, its blocks and its theta are there, and its lists with any theta
pub record ReadJob (s : List ℕ) (h : Header) (g : Found) (a : Inputs) : Type 0 where
  pub read : read_of s ≡ sound (job_of s)
  pub settings : h.settings ≡ (job_of s).settings
  pub shape : g.shape ≡ (job_of s).shape
  pub own : take h.thetas a.theta ≡ (job_of s).theta
  pub at : (theta : List Float) → fronts_of h (beside theta a) ≡ inputs_at theta (job_of s)

read_sound : (s : List ℕ) → fault_of s ≡ Ok tt → read_of s ≡ sound (job_of s)
unfolding read_of read_by
read_sound s e = rw e refl

read_faulty : (s : List ℕ) (x : Fault) → fault_of s ≡ Err x → read_of s ≡ faulty x.number x.byte
unfolding read_of read_by
read_faulty s x e = rw e refl

header_settings : (s : List ℕ) → (header_of (job_of s)).settings ≡ (job_of s).settings
unfolding header_of
header_settings s = refl

module _ (s : List ℕ) (b a : Inputs) (r : Result Found Fault) (room : roomy b ≡ true) (d : ReadDone s b r a) where
  pub read_refused : (e : Fault) → r ≡ Err e → read_of s ≡ faulty e.number e.byte
  read_refused e t = read_faulty s e (refused_fault s b a e r room t d)

  module _ (g : Found) (t : r ≡ Ok g) where
    accepted : ReadSound s b g.header g a
    accepted = accepted_sound s b a g r room t d

    pub fronts_fit : (theta : List Float) → Fronts g.header (beside theta a)
    fronts_fit theta = rw (accepted.header, accepted.lists) (fronts_there s b theta (room_of b room) (sound_fits s (sound_is _ accepted.fault)))

    pub theta_fits : g.header.thetas ≤ length a.theta
    theta_fits = rw (accepted.header, accepted.lists) (theta_there s b (room_of b room) (sound_fits s (sound_is _ accepted.fault)))

    pub read_job : ReadJob s g.header g a
    read_job =
        record {
          read = read_sound s accepted.fault;
          settings = rw accepted.header (header_settings s);
          shape = accepted.shape;
          own = rw (accepted.header, accepted.lists) (theta_is s b);
          at = λ (theta : List Float). rw (accepted.header, accepted.lists) (fronts_are s b theta);
        }

-- ---- there is room for any job in eight arrays
pub fresh_room : roomy (inputs (replicate 288 zero_f) (replicate 512 zero_f) (replicate 512 zero_f) (replicate 512 zero_f) (replicate 8192 zero_f) (replicate 33 0) (replicate 8192 0) (replicate 8192 zero_f)) ≡ true
unfolding roomy
fresh_room = refl
