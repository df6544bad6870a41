-- A call of many responses is the single calls one by one: what each response is told and given, what an accepted call leaves behind, and one response as `fit_job` fits it. Assumes nothing.
use Rattle.std.specs.Prelude.{Ok}
use mathlib.Core.Path.{◌≡◌, refl, ap, ◌∙◌}
use mathlib.Core.List.{List}
use Prim.Native.Nat.{ℕ, zero, suc, ◌*◌, ◌≤◌, ◌<◌}
use native.Mathlib.Nat.{le_refl, le_trans, le_of_suc-le}
use native.Mathlib.Omega.{arith}
use lib.Ieee.{Float}
use lib.ListN.{length, drop}
use Rattle.base.specs.List.{zero_at, fill_to}
use Rattle.base.proofs.Fills.{fill_over}
use Rattle.model.specs.Account.{AddsUp, Accepts, Capped}
use Rattle.model.specs.Inputs.{Inputs}
use Rattle.model.specs.declared.sizes.Shape.{Shape}
use Rattle.model.specs.declared.sizes.Settings.{Settings}
use Rattle.layout.specs.WorkRows.{rows_length}
use Rattle.layout.specs.WorkMatrices.{matrices_length}
use Rattle.layout.specs.WorkTerms.{terms_length}
use Rattle.family.specs.declared.carried.CarriedFamily.{CarriedFamily}
use Rattle.family.specs.declared.carried.CarriedLink.{CarriedLink}
use Rattle.table.specs.Table.{table_of}
use Rattle.call.specs.Call.{FitNumber, lengths_of}
use Rattle.call.proofs.Capped.{call_capped}
use Rattle.call.proofs.Parts.{call_parts, call_accepted}
use Rattle.call.proofs.When.{accepted_exactly}
use Rattle.table.proofs.When.{accepted_when}
use Rattle.jobfit.specs.Done.{lent_for, done_of, done_for}
use Rattle.jobcall.specs.Told.{Buffers, told, counts_length, told_by}
use Rattle.many.specs.Many.{part_of, block_length, lent_to, back_from, single_of, after_one, after_to, lengths_for, verdict_for, many_by, many_of}
use Rattle.many.proofs.Parts.{part_length, block_fits}
use Rattle.many.proofs.Single.{done_rows, done_matrices, done_terms, done_unfitted}
use Rattle.many.proofs.Alone.{SameLengths, RoomIn, lists_at, done_at, lengths_to, results_behind, counts_rest, block_alone, counts_alone}
use Rattle.many.proofs.Each.{all_sound, room_in, each_accepted}

-- ---- any response of any call: demand 3, and document 02's P9
module _ (t : Settings) (s : Shape) (I : Inputs) (B : Buffers) (i : ℕ) where
  pub many_capped : Capped (done_at t s I i B).answer.account
  unfolding done_for done_of
  many_capped = call_capped t s (lists_at t s I i) (lent_for t B.rows B.matrices B.terms (part_of (i * block_length t) (block_length t) B.results))

  pub many_parts : AddsUp (done_at t s I i B).answer.account × Accepts (done_at t s I i B).answer.account
  unfolding done_for done_of
  many_parts =
      let L = lent_for t B.rows B.matrices B.terms (part_of (i * block_length t) (block_length t) B.results) in
      (call_parts t s (lists_at t s I i) L, call_accepted t s (lists_at t s I i) L)

-- what an accepted call leaves in the work buffers: +0.0 in their named lengths, their rest as it was
pub record WorkWiped (t : Settings) (B A : Buffers) : Type 0 where
  pub rows : A.rows ≡ fill_to (rows_length t.n) zero_at B.rows
  pub matrices : A.matrices ≡ fill_to (matrices_length t.p t.rows) zero_at B.matrices
  pub terms : A.terms ≡ fill_to terms_length zero_at B.terms

-- ---- a call that is accepted
module _ (r : ℕ) (t : Settings) (s : Shape) (I : Inputs) (B : Buffers) (f : CarriedFamily) (l : CarriedLink) (e : verdict_for r t s I B ≡ Ok (f, l)) where
  -- it is the single calls, in order
  pub many_accepted : many_of r t s I B ≡ told 0 (after_to t s I r B)
  unfolding many_of many_by
  many_accepted = rw e refl

  room : RoomIn r t B
  room = room_in r t s I B f l e

  -- ---- response i
  module _ (i : ℕ) (h : i < r) where
    block_long : length (part_of (i * block_length t) (block_length t) B.results) ≡ block_length t
    block_long = part_length (i * block_length t) (block_length t) B.results (le_trans (block_fits i r (block_length t) h) room.results)

    -- its single call is accepted, with the buffers as they were lent
    pub response_accepted : table_of 1 t s (lists_at t s I i) (lengths_of (lent_for t B.rows B.matrices B.terms (part_of (i * block_length t) (block_length t) B.results))) ≡ Ok (f, l)
    response_accepted = each_accepted r t s I B f l e i h B.rows B.matrices B.terms (part_of (i * block_length t) (block_length t) B.results) refl refl refl block_long

    -- so its number is 0 or one of 10 to 13
    pub response_number : FitNumber (done_at t s I i B).answer.number
    unfolding done_for done_of
    response_number =
        let L = lent_for t B.rows B.matrices B.terms (part_of (i * block_length t) (block_length t) B.results) in
        (accepted_exactly t s (lists_at t s I i) L).1 ((accepted_when 1 t s (lists_at t s I i) (lengths_of L) f l).0 response_accepted).0

    -- the block and the counts are those of the single call with its own parts of the buffers
    pub response_results : (lent_to t i (after_to t s I r B)).results ≡ (single_of t s (lists_at t s I i) (lent_to t i B)).after.results
    unfolding lent_to told_by
    response_results = block_alone t s I r B room i h

    pub response_counts : (lent_to t i (after_to t s I r B)).counts ≡ (single_of t s (lists_at t s I i) (lent_to t i B)).after.counts
    unfolding lent_to told_by
    response_counts = counts_alone t s I r B room i h

    -- a response that ends with 10 to 13 touches no result
    pub unfitted_block : ((done_at t s I i B).answer.number ≡ 0 → ⊥) → (lent_to t i (after_to t s I r B)).results ≡ (lent_to t i B).results
    unfolding lent_to
    unfitted_block z = block_alone t s I r B room i h ∙ done_unfitted t s (lists_at t s I i) B.rows B.matrices B.terms (part_of (i * block_length t) (block_length t) B.results) z

  -- behind the blocks and the counts of all responses nothing is touched
  pub rest_results : drop (r * block_length t) (after_to t s I r B).results ≡ drop (r * block_length t) B.results
  rest_results = results_behind t s I r B room r (r * block_length t) (le_refl r) (le_refl _)

  pub rest_counts : drop (r * counts_length) (after_to t s I r B).counts ≡ drop (r * counts_length) B.counts
  rest_counts = counts_rest t s I r B room r (r * counts_length) (le_refl r) (le_refl _)

  -- ---- the work buffers
  module _ (j : ℕ) (h : j < r) where
    abbrev part_at : List Float
    part_at = part_of (j * block_length t) (block_length t) (after_to t s I j B).results

    kept : SameLengths (after_to t s I j B) B
    kept = lengths_to t s I r B room j (le_of_suc-le h)

    turn_accepted : table_of 1 t s (lists_at t s I j) (lengths_of (lent_for t (after_to t s I j B).rows (after_to t s I j B).matrices (after_to t s I j B).terms part_at)) ≡ Ok (f, l)
    turn_accepted =
        each_accepted r t s I B f l e j h (after_to t s I j B).rows (after_to t s I j B).matrices (after_to t s I j B).terms part_at kept.rows kept.matrices kept.terms
        (part_length (j * block_length t) (block_length t) (after_to t s I j B).results (rw kept.results (le_trans (block_fits j r (block_length t) h) room.results)))

    turn_rows : (after_to t s I (suc j) B).rows ≡ fill_to (rows_length t.n) zero_at (after_to t s I j B).rows
    unfolding after_to after_one back_from told_by lent_to
    turn_rows = done_rows t s (lists_at t s I j) (after_to t s I j B).rows (after_to t s I j B).matrices (after_to t s I j B).terms part_at f l turn_accepted

    turn_matrices : (after_to t s I (suc j) B).matrices ≡ fill_to (matrices_length t.p t.rows) zero_at (after_to t s I j B).matrices
    unfolding after_to after_one back_from told_by lent_to
    turn_matrices = done_matrices t s (lists_at t s I j) (after_to t s I j B).rows (after_to t s I j B).matrices (after_to t s I j B).terms part_at f l turn_accepted

    turn_terms : (after_to t s I (suc j) B).terms ≡ fill_to terms_length zero_at (after_to t s I j B).terms
    unfolding after_to after_one back_from told_by lent_to
    turn_terms = done_terms t s (lists_at t s I j) (after_to t s I j B).rows (after_to t s I j B).matrices (after_to t s I j B).terms part_at f l turn_accepted

  -- wiping twice is wiping once
  wiped_rows : (j : ℕ) → suc j ≤ r → (after_to t s I (suc j) B).rows ≡ fill_to (rows_length t.n) zero_at B.rows
  unfolding lengths_for after_to
  wiped_rows zero h = turn_rows zero h
  wiped_rows (suc j) h = turn_rows (suc j) h ∙ (ap (fill_to (rows_length t.n) zero_at) (wiped_rows j (le_of_suc-le h)) ∙ fill_over (rows_length t.n) zero_at zero_at B.rows (all_sound r t s I B f l e).work_fits.rows)

  wiped_matrices : (j : ℕ) → suc j ≤ r → (after_to t s I (suc j) B).matrices ≡ fill_to (matrices_length t.p t.rows) zero_at B.matrices
  unfolding lengths_for after_to
  wiped_matrices zero h = turn_matrices zero h
  wiped_matrices (suc j) h = turn_matrices (suc j) h ∙ (ap (fill_to (matrices_length t.p t.rows) zero_at) (wiped_matrices j (le_of_suc-le h)) ∙ fill_over (matrices_length t.p t.rows) zero_at zero_at B.matrices (all_sound r t s I B f l e).work_fits.matrices)

  wiped_terms : (j : ℕ) → suc j ≤ r → (after_to t s I (suc j) B).terms ≡ fill_to terms_length zero_at B.terms
  unfolding lengths_for after_to
  wiped_terms zero h = turn_terms zero h
  wiped_terms (suc j) h = turn_terms (suc j) h ∙ (ap (fill_to terms_length zero_at) (wiped_terms j (le_of_suc-le h)) ∙ fill_over terms_length zero_at zero_at B.terms (all_sound r t s I B f l e).work_fits.terms)

  pub many_work : WorkWiped t B (after_to t s I r B)
  many_work = by r refl
    where
      by : (k : ℕ) → r ≡ k → WorkWiped t B (after_to t s I r B)
      by zero q = absurd (omega (arith, (all_sound r t s I B f l e).responses.0))
      by (suc j) q = rw q (record { rows = wiped_rows j (rw q (le_refl _)); matrices = wiped_matrices j (rw q (le_refl _)); terms = wiped_terms j (rw q (le_refl _)) })
