-- A higher limit changes nothing of a response whose number is not 13, whatever the others came to, and shrinks no count of its work. Document 02, P13. Assumes nothing.
use Prim.{tt}
use Rattle.family.specs.declared.carried.CarriedFamily.{CarriedFamily}
use Rattle.family.specs.declared.carried.CarriedLink.{CarriedLink}
use Rattle.std.specs.Prelude.{Result, Ok, Err}
use mathlib.Core.Path.{◌≡◌, refl, sym, ap, ◌∙◌}
use mathlib.Core.Bool.{Bool, true, false}
use mathlib.Core.List.{List}
use Prim.Native.Nat.{ℕ, zero, suc, ◌*◌, ◌≤◌, ◌<◌}
use native.Mathlib.Nat.{le_refl, le_of_suc-le}
use native.Mathlib.Omega.{arith}
use lib.Dec.{leb}
use lib.Ieee.{Float}
use lib.ListN.{length}
use Rattle.base.specs.Sum.{◌!!◌}
use Rattle.model.specs.Inputs.{Inputs}
use Rattle.model.specs.Names.{limit_of}
use Rattle.model.specs.declared.ends.Refusal.{Refusal}
use Rattle.model.specs.declared.sizes.Shape.{Shape}
use Rattle.model.specs.declared.sizes.Settings.{Settings}
use Rattle.job.specs.Faults.{fault_of}
use Rattle.job.specs.Lists.{laid}
use Rattle.job.specs.Job.{Job, sound, job_of, read_by, read_of}
use Rattle.job_back.proofs.Limits.{limited_bytes, limited_read}
use Rattle.call.proofs.Higher.{limited, limited_table}
use Rattle.jobfit.specs.Done.{inputs_of, Done}
use Rattle.jobcall.specs.Told.{Buffers, buffers, Told, told, counts_length, counts_of, told_by}
use Rattle.jobcall.proofs.Higher.{NoLower, as_before, done_same, done_grows, counts_grow}
use Rattle.many.specs.Many.{part_of, placed_in, block_length, lent_to, back_from, after_one, after_to, beta_for, lengths_for, verdict_for, many_by, many_of, job_with_y, many_answered, fit_many_of}
use Rattle.many.proofs.Alone.{RoomIn, lists_at, done_at, free, block_alone, counts_alone}
use Rattle.many.proofs.Each.{room_in}

-- the block of response i, and its counts, after a call
abbrev pub block_in : Settings → ℕ → Told → List Float
block_in t i x = part_of (i * block_length t) (block_length t) x.after.results

abbrev pub counts_in : ℕ → Told → List ℕ
counts_in i x = part_of (i * counts_length) counts_length x.after.counts

-- the number that response i is told
abbrev pub number_at : ℕ → Told → ℕ
number_at i x = counts_in i x !! 0

-- response i has the same block and the same counts after both
pub record SameFor (t : Settings) (i : ℕ) (a b : Told) : Type 0 where
  pub block : block_in t i a ≡ block_in t i b
  pub counts : counts_in i a ≡ counts_in i b

same_for : (t : Settings) (i : ℕ) (a b : Told) → a ≡ b → SameFor t i a b
same_for t i a b e = record { block = ap (block_in t i) e; counts = ap (counts_in i) e }

module _ (t : Settings) (s : Shape) (I : Inputs) (r : ℕ) (B : Buffers) (M : ℕ) (higher : limit_of t.limit t.link ≤ M) (few : M ≤ 1000) where
  -- ---- the single calls, one by one
  module _ (room : RoomIn r t B) where
    room_again : RoomIn r (limited M t) B
    room_again = record { results = room.results; counts = room.counts }

    module _ (i : ℕ) (h : i < r) where
      block_limited : ((done_at t s I i B).answer.number ≡ 13 → ⊥) → part_of (i * block_length t) (block_length t) (after_to (limited M t) s I r B).results ≡ part_of (i * block_length t) (block_length t) (after_to t s I r B).results
      block_limited n =
          block_alone (limited M t) s I r B room_again i h
          ∙ (ap (λ (d : Done). d.results) (done_same t s (lists_at t s I i) B.rows B.matrices B.terms (part_of (i * block_length t) (block_length t) B.results) M higher few n)
          ∙ sym (block_alone t s I r B room i h))

      counts_limited : ((done_at t s I i B).answer.number ≡ 13 → ⊥) → part_of (i * counts_length) counts_length (after_to (limited M t) s I r B).counts ≡ part_of (i * counts_length) counts_length (after_to t s I r B).counts
      counts_limited n =
          counts_alone (limited M t) s I r B room_again i h
          ∙ (ap (λ (d : Done). laid (counts_of d.answer 0) (part_of (i * counts_length) counts_length B.counts)) (done_same t s (lists_at t s I i) B.rows B.matrices B.terms (part_of (i * block_length t) (block_length t) B.results) M higher few n)
          ∙ sym (counts_alone t s I r B room i h))

      counts_more : NoLower (part_of (i * counts_length) counts_length (after_to t s I r B).counts) (part_of (i * counts_length) counts_length (after_to (limited M t) s I r B).counts)
      counts_more =
          rw (counts_alone t s I r B room i h, counts_alone (limited M t) s I r B room_again i h)
          (counts_grow _ _ _ _ (done_grows t s (lists_at t s I i) B.rows B.matrices B.terms (part_of (i * block_length t) (block_length t) B.results) M higher few))

      number_told : part_of (i * counts_length) counts_length (after_to t s I r B).counts !! 0 ≡ (done_at t s I i B).answer.number
      unfolding counts_of laid
      number_told = rw (counts_alone t s I r B room i h) refl

    one_limited : (j : ℕ) (A : Buffers) → ((done_at t s I j A).answer.number ≡ 13 → ⊥) → after_one (limited M t) s I j A ≡ after_one t s I j A
    unfolding after_one back_from told_by lent_to
    one_limited j A m =
        ap (λ (d : Done). buffers d.rows d.matrices d.terms (placed_in (j * block_length t) (block_length t) d.results A.results) (placed_in (j * counts_length) counts_length (laid (counts_of d.answer 0) (part_of (j * counts_length) counts_length A.counts)) A.counts))
        (done_same t s (lists_at t s I j) A.rows A.matrices A.terms (part_of (j * block_length t) (block_length t) A.results) M higher few m)

    -- where none of the first j ends with 13, the buffers after them are the same
    to_limited : (j : ℕ) → j ≤ r → ((i : ℕ) → i < j → (done_at t s I i B).answer.number ≡ 13 → ⊥) → after_to (limited M t) s I j B ≡ after_to t s I j B
    unfolding after_to
    to_limited zero h n = refl
    to_limited (suc j) h n =
        ap (after_one (limited M t) s I j) (to_limited j (le_of_suc-le h) (λ i l. n i (omega (arith, l))))
        ∙ one_limited j (after_to t s I j B) (rw (free t s I r B room j h).0 (n j (le_refl _)))

  -- ---- the call
  pub verdict_limited : verdict_for r (limited M t) s I B ≡ verdict_for r t s I B
  unfolding verdict_for lengths_for beta_for
  verdict_limited = limited_table r M t s I (lengths_for r t (length B.rows) (length B.matrices) (length B.terms) (length B.results) (length B.counts)) higher few

  refused_limited : (x : Refusal) → verdict_for r t s I B ≡ Err x → many_of r (limited M t) s I B ≡ many_of r t s I B
  unfolding many_of many_by
  refused_limited x e = rw (verdict_limited, e) refl

  many_response : (i : ℕ) → i < r → (number_at i (many_of r t s I B) ≡ 13 → ⊥) → SameFor t i (many_of r (limited M t) s I B) (many_of r t s I B)
  unfolding many_of many_by
  many_response i h n = by (verdict_for r t s I B) refl
    where
      by : (x : Result (CarriedFamily × CarriedLink) Refusal) → verdict_for r t s I B ≡ x → SameFor t i (many_of r (limited M t) s I B) (many_of r t s I B)
      by (Err x) e = same_for t i _ _ (refused_limited x e)
      by (Ok (f, l)) e =
          let room = room_in r t s I B f l e in
          let m : (done_at t s I i B).answer.number ≡ 13 → ⊥ = λ z. n (rw e (number_told room i h ∙ z)) in
          rw (verdict_limited, e) (record { block = block_limited room i h m; counts = counts_limited room i h m })

  many_more : (i : ℕ) → i < r → NoLower (counts_in i (many_of r t s I B)) (counts_in i (many_of r (limited M t) s I B))
  unfolding many_of many_by
  many_more i h = by (verdict_for r t s I B) refl
    where
      by : (x : Result (CarriedFamily × CarriedLink) Refusal) → verdict_for r t s I B ≡ x → NoLower (counts_in i (many_of r t s I B)) (counts_in i (many_of r (limited M t) s I B))
      by (Err x) e = rw (refused_limited x e) (as_before _)
      by (Ok (f, l)) e = rw (verdict_limited, e) (counts_more (room_in r t s I B f l e) i h)

  many_whole : ((i : ℕ) → i < r → number_at i (many_of r t s I B) ≡ 13 → ⊥) → many_of r (limited M t) s I B ≡ many_of r t s I B
  unfolding many_of many_by
  many_whole n = by (verdict_for r t s I B) refl
    where
      by : (x : Result (CarriedFamily × CarriedLink) Refusal) → verdict_for r t s I B ≡ x → many_of r (limited M t) s I B ≡ many_of r t s I B
      by (Err x) e = refused_limited x e
      by (Ok (f, l)) e =
          let room = room_in r t s I B f l e in
          rw (verdict_limited, e) (ap (told 0) (to_limited room r (le_refl r) (λ i h z. n i h (rw e (number_told room i h ∙ z)))))

-- ---- the bytes of a sound job with r responses beside it, and a limit from its own to 1000; one that is not given counts as 100, with the inverse link as 1000
module _ (s : List ℕ) (e : fault_of s ≡ Ok tt) (ys : List Float) (r : ℕ) (B : Buffers) (M : ℕ) (higher : limit_of (job_of s).settings.limit (job_of s).settings.link ≤ M) (few : M ≤ 1000) where
  abbrev asked : Job
  asked = job_of s

  abbrev lists_of : Inputs
  lists_of = inputs_of (job_with_y ys (job_of s))

  sound_read : read_of s ≡ sound (job_of s)
  unfolding read_of read_by
  sound_read = rw e refl

  -- response by response: nothing is asked of the others
  pub response_same : (i : ℕ) → i < r → (number_at i (fit_many_of s ys r B) ≡ 13 → ⊥) → SameFor (job_of s).settings i (fit_many_of (limited_bytes M s) ys r B) (fit_many_of s ys r B)
  unfolding fit_many_of many_answered
  response_same i h n = by (leb counts_length (length B.counts)) refl
    where
      by : (b : Bool) → leb counts_length (length B.counts) ≡ b → SameFor (job_of s).settings i (fit_many_of (limited_bytes M s) ys r B) (fit_many_of s ys r B)
      by true q = rw (q, limited_read s M e few, sound_read) (many_response asked.settings asked.shape lists_of r B M higher few i h (rw (q, sound_read) at n))
      by false q = rw q (same_for (job_of s).settings i (told 2 B) (told 2 B) refl)

  -- no count of the work of a response shrinks, whatever it came to
  pub response_grows : (i : ℕ) → i < r → NoLower (counts_in i (fit_many_of s ys r B)) (counts_in i (fit_many_of (limited_bytes M s) ys r B))
  unfolding fit_many_of many_answered
  response_grows i h = by (leb counts_length (length B.counts)) refl
    where
      by : (b : Bool) → leb counts_length (length B.counts) ≡ b → NoLower (counts_in i (fit_many_of s ys r B)) (counts_in i (fit_many_of (limited_bytes M s) ys r B))
      by true q = rw (q, limited_read s M e few, sound_read) (many_more asked.settings asked.shape lists_of r B M higher few i h)
      by false q = rw q (as_before _)

  -- the whole call, where no response is told 13
  pub many_same : ((i : ℕ) → i < r → number_at i (fit_many_of s ys r B) ≡ 13 → ⊥) → fit_many_of (limited_bytes M s) ys r B ≡ fit_many_of s ys r B
  unfolding fit_many_of many_answered
  many_same n = by (leb counts_length (length B.counts)) refl
    where
      by : (b : Bool) → leb counts_length (length B.counts) ≡ b → fit_many_of (limited_bytes M s) ys r B ≡ fit_many_of s ys r B
      by true q =
          rw (q, limited_read s M e few, sound_read)
          (many_whole asked.settings asked.shape lists_of r B M higher few (λ i h. rw (q, sound_read) at (n i h)))
      by false q = rw q refl
