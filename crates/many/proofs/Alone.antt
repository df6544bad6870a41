-- The calls of the responses do not disturb each other: each response's block and counts are those that its single call leaves, with the buffers as they were lent. Assumes nothing.
use mathlib.Core.Path.{◌≡◌, refl, sym, ap, ◌∙◌}
use mathlib.Core.List.{List}
use mathlib.Core.Logic.{⊎_elim}
use Prim.Native.Nat.{ℕ, zero, suc, ◌+◌, ◌*◌, ◌≤◌, ◌<◌}
use native.Mathlib.Nat.{not-suc-le-zero, le_refl, le_trans, le_of_suc-le, le-add_right, le-suc_iff, suc-mul}
use native.Mathlib.Omega.{arith}
use lib.ListN.{length, take, drop}
use Rattle.model.specs.Inputs.{Inputs}
use Rattle.model.specs.declared.sizes.Shape.{Shape}
use Rattle.model.specs.declared.sizes.Settings.{Settings}
use Rattle.job.specs.Lists.{laid}
use Rattle.job.proofs.ListLaws.{laid_length}
use Rattle.jobfit.specs.Done.{Done, done_for}
use Rattle.jobcall.specs.Told.{Buffers, buffers, counts_length, counts_of, told_by}
use Rattle.many.specs.Many.{part_of, placed_in, response_at, with_y, block_length, lent_to, back_from, after_one, after_to}
use Rattle.many.proofs.Parts.{part_length, placed_length, part_own, part_before, rest_kept, block_fits}
use Rattle.many.proofs.Single.{counts_length_lem, done_length, work_lengths, done_work_free}

-- every buffer is as long as it was
pub record SameLengths (A B : Buffers) : Type 0 where
  pub rows : length A.rows ≡ length B.rows
  pub matrices : length A.matrices ≡ length B.matrices
  pub terms : length A.terms ≡ length B.terms
  pub results : length A.results ≡ length B.results
  pub counts : length A.counts ≡ length B.counts

-- there is room for r responses
pub record RoomIn (r : ℕ) (t : Settings) (B : Buffers) : Type 0 where
  pub results : r * block_length t ≤ length B.results
  pub counts : r * counts_length ≤ length B.counts

module _ (t : Settings) (s : Shape) (I : Inputs) where
  -- the lists of response i
  abbrev pub lists_at : ℕ → Inputs
  lists_at i = with_y (response_at t.n i I.y) I

  -- its single call, with its own part of the buffers B
  abbrev pub done_at : ℕ → Buffers → Done
  done_at i B = done_for t s (lists_at i) B.rows B.matrices B.terms (part_of (i * block_length t) (block_length t) B.results)

  -- ---- after one response
  module _ (i : ℕ) (B : Buffers) (results : i * block_length t + block_length t ≤ length B.results) (counts : i * counts_length + counts_length ≤ length B.counts) where
    abbrev told_counts : List ℕ
    told_counts = laid (counts_of (done_at i B).answer 0) (part_of (i * counts_length) counts_length B.counts)

    one_is : after_one t s I i B ≡ buffers (done_at i B).rows (done_at i B).matrices (done_at i B).terms (placed_in (i * block_length t) (block_length t) (done_at i B).results B.results) (placed_in (i * counts_length) counts_length told_counts B.counts)
    unfolding after_one back_from told_by lent_to
    one_is = refl

    block_long : length (done_at i B).results ≡ block_length t
    block_long = done_length t s (lists_at i) B.rows B.matrices B.terms (part_of (i * block_length t) (block_length t) B.results) ∙ part_length (i * block_length t) (block_length t) B.results results

    told_long : length told_counts ≡ counts_length
    told_long =
        let room = part_length (i * counts_length) counts_length B.counts counts in
        laid_length (counts_of (done_at i B).answer 0) (part_of (i * counts_length) counts_length B.counts) (rw (counts_length_lem (done_at i B).answer 0, room) (omega arith)) ∙ room

    one_lengths : SameLengths (after_one t s I i B) B
    one_lengths =
        let work = work_lengths t s (lists_at i) B.rows B.matrices B.terms (part_of (i * block_length t) (block_length t) B.results) in
        rw one_is
        (record {
          rows = work.rows';
          matrices = work.matrices';
          terms = work.terms';
          results = placed_length (i * block_length t) (block_length t) (done_at i B).results B.results block_long results;
          counts = placed_length (i * counts_length) counts_length told_counts B.counts told_long counts;
        })

    -- its own parts
    own_block : part_of (i * block_length t) (block_length t) (after_one t s I i B).results ≡ (done_at i B).results
    own_block = rw one_is (part_own (i * block_length t) (block_length t) (done_at i B).results B.results block_long results)

    own_counts : part_of (i * counts_length) counts_length (after_one t s I i B).counts ≡ told_counts
    own_counts = rw one_is (part_own (i * counts_length) counts_length told_counts B.counts told_long counts)

    -- the parts before and behind
    block_before : (a m : ℕ) → a + m ≤ i * block_length t → part_of a m (after_one t s I i B).results ≡ part_of a m B.results
    block_before a m h = rw one_is (part_before (i * block_length t) (block_length t) (done_at i B).results B.results block_long results a m h)

    counts_before : (a m : ℕ) → a + m ≤ i * counts_length → part_of a m (after_one t s I i B).counts ≡ part_of a m B.counts
    counts_before a m h = rw one_is (part_before (i * counts_length) counts_length told_counts B.counts told_long counts a m h)

    block_behind : (a : ℕ) → i * block_length t + block_length t ≤ a → drop a (after_one t s I i B).results ≡ drop a B.results
    block_behind a h = rw one_is (rest_kept (i * block_length t) (block_length t) (done_at i B).results B.results block_long results a h)

    counts_behind : (a : ℕ) → i * counts_length + counts_length ≤ a → drop a (after_one t s I i B).counts ≡ drop a B.counts
    counts_behind a h = rw one_is (rest_kept (i * counts_length) counts_length told_counts B.counts told_long counts a h)

  -- ---- after the first responses of r
  module _ (r : ℕ) (B : Buffers) (room : RoomIn r t B) where
    -- a turn has room for its block and its counts
    turn_results : (j : ℕ) (A : Buffers) → j < r → SameLengths A B → j * block_length t + block_length t ≤ length A.results
    turn_results j A h k = rw k.results (le_trans (block_fits j r (block_length t) h) room.results)

    turn_counts : (j : ℕ) (A : Buffers) → j < r → SameLengths A B → j * counts_length + counts_length ≤ length A.counts
    turn_counts j A h k = rw k.counts (le_trans (block_fits j r counts_length h) room.counts)

    pub lengths_to : (j : ℕ) → j ≤ r → SameLengths (after_to t s I j B) B
    unfolding after_to
    lengths_to zero h = record { rows = refl; matrices = refl; terms = refl; results = refl; counts = refl }
    lengths_to (suc j) h =
        let A = after_to t s I j B in
        let k = lengths_to j (le_of_suc-le h) in
        let o = one_lengths j A (turn_results j A h k) (turn_counts j A h k) in
        record {
          rows = o.rows ∙ k.rows;
          matrices = o.matrices ∙ k.matrices;
          terms = o.terms ∙ k.terms;
          results = o.results ∙ k.results;
          counts = o.counts ∙ k.counts;
        }

    -- what stands behind the first j blocks is as it was
    pub results_behind : (j a : ℕ) → j ≤ r → j * block_length t ≤ a → drop a (after_to t s I j B).results ≡ drop a B.results
    unfolding after_to
    results_behind zero a h l = refl
    results_behind (suc j) a h l =
        let A = after_to t s I j B in
        let k = lengths_to j (le_of_suc-le h) in
        let m : j * block_length t + block_length t ≤ a = rw (suc-mul j (block_length t)) at l in
        block_behind j A (turn_results j A h k) (turn_counts j A h k) a m ∙ results_behind j a (le_of_suc-le h) (le_trans (le-add_right _ _) m)

    pub counts_rest : (j a : ℕ) → j ≤ r → j * counts_length ≤ a → drop a (after_to t s I j B).counts ≡ drop a B.counts
    unfolding after_to
    counts_rest zero a h l = refl
    counts_rest (suc j) a h l =
        let A = after_to t s I j B in
        let k = lengths_to j (le_of_suc-le h) in
        let m : j * counts_length + counts_length ≤ a = rw (suc-mul j counts_length) at l in
        counts_behind j A (turn_results j A h k) (turn_counts j A h k) a m ∙ counts_rest j a (le_of_suc-le h) (le_trans (le-add_right _ _) m)

    -- the block of response i stays through the turns behind its own
    block_stays : (i j : ℕ) → i < j → j ≤ r → part_of (i * block_length t) (block_length t) (after_to t s I j B).results ≡ part_of (i * block_length t) (block_length t) (after_to t s I (suc i) B).results
    unfolding after_to
    block_stays i zero l h = absurd (not-suc-le-zero l)
    block_stays i (suc j) l h =
        let A = after_to t s I j B in
        let k = lengths_to j (le_of_suc-le h) in
        ⊎_elim
        (λ (q : i < j). block_before j A (turn_results j A h k) (turn_counts j A h k) (i * block_length t) (block_length t) (block_fits i j (block_length t) q) ∙ block_stays i j q (le_of_suc-le h))
        (λ (q : suc i ≡ suc j). ap (λ (m : ℕ). part_of (i * block_length t) (block_length t) (after_to t s I m B).results) (sym q))
        (le-suc_iff.0 l)

    counts_stay : (i j : ℕ) → i < j → j ≤ r → part_of (i * counts_length) counts_length (after_to t s I j B).counts ≡ part_of (i * counts_length) counts_length (after_to t s I (suc i) B).counts
    unfolding after_to
    counts_stay i zero l h = absurd (not-suc-le-zero l)
    counts_stay i (suc j) l h =
        let A = after_to t s I j B in
        let k = lengths_to j (le_of_suc-le h) in
        ⊎_elim
        (λ (q : i < j). counts_before j A (turn_results j A h k) (turn_counts j A h k) (i * counts_length) counts_length (block_fits i j counts_length q) ∙ counts_stay i j q (le_of_suc-le h))
        (λ (q : suc i ≡ suc j). ap (λ (m : ℕ). part_of (i * counts_length) counts_length (after_to t s I m B).counts) (sym q))
        (le-suc_iff.0 l)

    -- at its turn response i finds its own parts as they were lent, so its call is the single one
    module _ (i : ℕ) (h : i < r) where
      abbrev turn : Buffers
      turn = after_to t s I i B

      kept : SameLengths turn B
      kept = lengths_to i (le_of_suc-le h)

      own_part : part_of (i * block_length t) (block_length t) turn.results ≡ part_of (i * block_length t) (block_length t) B.results
      unfolding part_of
      own_part = ap (take (block_length t)) (results_behind i (i * block_length t) (le_of_suc-le h) (le_refl _))

      own_told : part_of (i * counts_length) counts_length turn.counts ≡ part_of (i * counts_length) counts_length B.counts
      unfolding part_of
      own_told = ap (take counts_length) (counts_rest i (i * counts_length) (le_of_suc-le h) (le_refl _))

      pub free : ((done_at i turn).answer ≡ (done_at i B).answer) × ((done_at i turn).results ≡ (done_at i B).results)
      free =
          rw own_part
          (done_work_free t s (lists_at i) B.rows B.matrices B.terms turn.rows turn.matrices turn.terms (part_of (i * block_length t) (block_length t) B.results) kept.rows kept.matrices kept.terms)

      -- the block of response i: the results of its single call
      pub block_alone : part_of (i * block_length t) (block_length t) (after_to t s I r B).results ≡ (done_at i B).results
      unfolding after_to
      block_alone =
          block_stays i r h (le_refl r)
          ∙ own_block i turn (turn_results i turn h kept) (turn_counts i turn h kept)
          ∙ free.1

      -- its counts: those of its single call
      pub counts_alone : part_of (i * counts_length) counts_length (after_to t s I r B).counts ≡ laid (counts_of (done_at i B).answer 0) (part_of (i * counts_length) counts_length B.counts)
      unfolding after_to
      counts_alone =
          counts_stay i r h (le_refl r)
          ∙ own_counts i turn (turn_results i turn h kept) (turn_counts i turn h kept)
          ∙ rw (free.0, own_told) refl
