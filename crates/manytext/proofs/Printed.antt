-- The pieces that the program prints, one behind another, are what is written: under its line each response has what `fitjob` prints for the job with that response. Assumes nothing.
use Rattle.std.specs.Prelude.{Result, Ok, Err}
use Prim.{tt}
use mathlib.Core.Path.{◌≡◌, refl, ap, ◌∙◌}
use mathlib.Core.Bool.{true}
use mathlib.Core.List.{List, ◌++◌}
use Prim.Native.Nat.{ℕ, zero, suc, ◌*◌, ◌/◌, ◌≤◌, ◌<◌}
use native.Mathlib.Nat.{le_refl, le_trans}
use native.Mathlib.Omega.{arith}
use borrow.Author.Tests.{le-leb, ne_eqb}
use lib.Dec.{leb}
use lib.Ieee.{Float}
use lib.ListN.{length, replicate, length-replicate}
use Rattle.model.specs.Answer.{refusal_number}
use Rattle.model.specs.Inputs.{Inputs}
use Rattle.model.specs.Settings.{Sizes}
use Rattle.model.specs.declared.ends.Refusal.{Refusal}
use Rattle.model.specs.declared.sizes.Settings.{Settings}
use Rattle.family.specs.declared.carried.CarriedFamily.{CarriedFamily}
use Rattle.family.specs.declared.carried.CarriedLink.{CarriedLink}
use Rattle.table.proofs.Accepting.{accepted_sound}
use Rattle.job.specs.Job.{Job, Read, faulty, sound, read_of}
use Rattle.job.specs.Lists.{join_to}
use Rattle.lines.specs.Lines.{response_line}
use Rattle.jobfit.specs.Done.{inputs_of, zeros, lent_for}
use Rattle.jobfit.specs.Room.{SizesFew}
use Rattle.jobfit.proofs.Lent.{beta_lent, refusal_some}
use Rattle.jobcall.specs.Told.{Buffers, counts_length}
use Rattle.many.specs.Many.{part_of, response_at, job_with_y, block_length, after_to, verdict_for, refused_with, many_by, many_of, many_answered, fit_many_of}
use Rattle.many.proofs.Parts.{part_length, block_fits}
use Rattle.many.proofs.Single.{zeros_length}
use Rattle.many.proofs.Alone.{RoomIn, lengths_to, block_alone, counts_alone}
use Rattle.output.specs.Output.{slices_for, output_by}
use Rattle.manytext.specs.Input.{job_in, rest_in, numbers_in}
use Rattle.manytext.specs.Text.{response_text}
use Rattle.manytext.specs.declared.pieces.Pieces.{Pieces}
use Rattle.manytext.specs.Pieces.{Fitted, fitted, pieces_by, fitted_by, fit_all_of, fit_read, fit_parts, fit_input_of, part_text, piece_text, joined, PiecesFit}
use Rattle.manytext.specs.Output.{many_lent, response_printed, printed_by, printed_of, many_printed, many_output_of}
use Rattle.manytext.proofs.Back.{single_text}
use Rattle.manytext.proofs.Written.{blocks_few}

-- ---- the program lends room for all responses
few_sizes : (t : Settings) → Sizes t.n t.p t.rows → SizesFew t
few_sizes t z = record { n = z.n_few; p = z.p_few; q = z.q_few }

results_long : length many_lent.results ≡ 121984
unfolding many_lent
results_long = zeros_length 121984

counts_long : length many_lent.counts ≡ 896
unfolding many_lent
counts_long = length-replicate {A = ℕ} 896 0

room_for : (r : ℕ) (t : Settings) → r ≤ 64 → SizesFew t → RoomIn r t many_lent
room_for r t few f =
    let blocks = blocks_few r (block_length t) t refl few f in
    record { results = omega (arith, results_long, blocks); counts = omega (arith, counts_long, few) }

-- ---- the slices of a response are those of a job's own call
lent_own : (t : Settings) (block : List Float) → length block ≡ block_length t → lent_for t (zeros 8192) (zeros 5696) (zeros 7000) block ≡ slices_for t
unfolding lent_for slices_for
lent_own t block e =
    let whole = beta_lent t (length block) (block_length t) refl (rw e (le_refl _)) in
    rw (← whole) refl

-- ---- one response
module _ (j : Job) (ys : List Float) (r : ℕ) where
  abbrev I : Inputs
  I = inputs_of (job_with_y ys j)

  abbrev after : Buffers
  after = after_to j.settings j.shape I r many_lent

  module _ (room : RoomIn r j.settings many_lent) where
    own_block : (i : ℕ) → i < r → length (part_of (i * block_length j.settings) (block_length j.settings) many_lent.results) ≡ block_length j.settings
    own_block i h =
        part_length (i * block_length j.settings) (block_length j.settings) many_lent.results
        (le_trans (block_fits i r (block_length j.settings) h) room.results)

    -- the text of response i is what `fitjob` prints for the job with it
    pub response_text_lem : (i : ℕ) → i < r → part_text i j.settings after.counts after.results ≡ response_printed j ys i
    unfolding part_text response_text response_printed output_by many_lent
    response_text_lem i h =
        let t = j.settings in
        let block = part_of (i * block_length t) (block_length t) many_lent.results in
        rw (counts_alone t j.shape I r many_lent room i h, block_alone t j.shape I r many_lent room i h)
        (ap (λ (text : List ℕ). response_line i ++ text)
        (single_text t j.shape (inputs_of (job_with_y (response_at t.n i ys) j)) (zeros 8192) (zeros 5696) (zeros 7000) block (part_of (i * counts_length) counts_length many_lent.counts)
        ∙ rw (lent_own t block (own_block i h)) refl))

-- ---- all responses
join_alike : (n : ℕ) (f g : ℕ → List ℕ) → ((i : ℕ) → i < n → f i ≡ g i) → join_to n f ≡ join_to n g
unfolding join_to
join_alike zero f g h = refl
join_alike (suc n) f g h = rw (join_alike n f g (λ i l. h i (omega arith)), h n (le_refl _)) refl

module _ (r : ℕ) (j : Job) (ys : List Float) where
  -- what the call leaves, as pieces
  abbrev left : Result (CarriedFamily × CarriedLink) Refusal → Fitted
  left v = fitted_by (many_by v r j.settings j.shape (inputs_of (job_with_y ys j)) many_lent) r j.settings

  refused_joined : (x : Refusal) → joined (left (Err x)) ≡ printed_by (Err x) r j ys
  unfolding many_by refused_with fitted_by pieces_by join_to piece_text printed_by
  refused_joined x = rw (ne_eqb (refusal_number x) 0 (refusal_some x)) refl

  accepted_joined : (f : CarriedFamily) (l : CarriedLink) → RoomIn r j.settings many_lent → joined (left (Ok (f, l))) ≡ printed_by (Ok (f, l)) r j ys
  unfolding many_by fitted_by pieces_by piece_text printed_by
  accepted_joined f l room = join_alike r _ (response_printed j ys) (λ i h. response_text_lem j ys r room i h)

  refused_fit : (x : Refusal) → PiecesFit (left (Err x)).pieces (left (Err x)).counts (left (Err x)).results
  unfolding many_by refused_with fitted_by pieces_by
  refused_fit x = rw (ne_eqb (refusal_number x) 0 (refusal_some x)) tt

  accepted_fit : (f : CarriedFamily) (l : CarriedLink) → r ≤ 64 → SizesFew j.settings → PiecesFit (left (Ok (f, l))).pieces (left (Ok (f, l))).counts (left (Ok (f, l))).results
  unfolding many_by fitted_by pieces_by
  accepted_fit f l few sizes =
      let room = room_for r j.settings few sizes in
      let same = lengths_to j.settings j.shape (inputs_of (job_with_y ys j)) r many_lent room r (le_refl _) in
      record { few = few; sizes = sizes; counts_long = rw same.counts room.counts; results_long = rw same.results room.results }

  abbrev verdict : Result (CarriedFamily × CarriedLink) Refusal
  verdict = verdict_for r j.settings j.shape (inputs_of (job_with_y ys j)) many_lent

  record Both : Type 0 where
    text : joined (left verdict) ≡ printed_of r j ys
    fits : PiecesFit (left verdict).pieces (left verdict).counts (left verdict).results

  both : Both
  unfolding printed_of verdict_for
  both = by verdict refl
    where
      by : (v : Result (CarriedFamily × CarriedLink) Refusal) → verdict ≡ v → Both
      by (Err x) e = record { text = rw e (refused_joined x); fits = rw e (refused_fit x) }
      by (Ok (f, l)) e =
          let known = accepted_sound r j.settings j.shape (inputs_of (job_with_y ys j)) _ f l e in
          let sizes = few_sizes j.settings known.sized.sizes in
          record { text = rw e (accepted_joined f l (room_for r j.settings known.responses.1 sizes)); fits = rw e (accepted_fit f l known.responses.1 sizes) }

-- ---- by the job
counts_room : leb counts_length (length many_lent.counts) ≡ true
counts_room = rw counts_long (le-leb counts_length 896 (omega arith))

called : (job : List ℕ) (j : Job) (ys : List Float) (r : ℕ) → read_of job ≡ sound j → fit_many_of job ys r many_lent ≡ many_by (verdict r j ys) r j.settings j.shape (inputs_of (job_with_y ys j)) many_lent
unfolding fit_many_of many_answered many_of
called job j ys r e = rw (counts_room, e) refl

module _ (job rest : List ℕ) where
  abbrev fit : Read → Fitted
  fit x = fit_read x job (length rest / 8) (numbers_in rest) (zeros 121984) (replicate 896 0)

  record Done (x : Read) : Type 0 where
    text : joined (fit x) ≡ many_printed x rest
    fits : PiecesFit (fit x).pieces (fit x).counts (fit x).results

  done : (x : Read) → read_of job ≡ x → Done x
  unfolding fit_read fit_all_of many_printed join_to piece_text many_lent
  done (faulty k b) e = record { text = refl; fits = tt }
  done (sound j) e =
      let r = length rest / 8 / j.settings.n in
      let b = both r j (numbers_in rest) in
      let same = called job j (numbers_in rest) r e in
      record { text = rw same b.text; fits = rw same b.fits }

-- ---- by the bytes that were read
module _ (s : List ℕ) where
  -- what the program's call leaves
  abbrev pub fitted_in : Fitted
  fitted_in = fit_input_of s (zeros 121984) (replicate 896 0)

  pub printed_is : joined fitted_in ≡ many_output_of s
  unfolding fit_input_of fit_parts many_output_of
  printed_is = (done (job_in s) (rest_in s) (read_of (job_in s)) refl).text

  pub pieces_fit : PiecesFit fitted_in.pieces fitted_in.counts fitted_in.results
  unfolding fit_input_of fit_parts
  pieces_fit = (done (job_in s) (rest_in s) (read_of (job_in s)) refl).fits

  -- so what the call leaves can be written piece by piece
  pub left_fit : (p : Pieces) (R : List Float) (C : List ℕ) → fitted p R C ≡ fitted_in → PiecesFit p C R
  left_fit p R C e = rw (ap (λ (x : Fitted). x.pieces) e, ap (λ (x : Fitted). x.counts) e, ap (λ (x : Fitted). x.results) e) pieces_fit
