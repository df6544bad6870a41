-- A call of one response is the single call: `fit_many` with a job's own y gives what `fit_job` gives, in every buffer. Assumes nothing.
use Rattle.std.specs.Prelude.{Result, Ok, Err}
use mathlib.Core.Path.{◌≡◌, refl, sym, ap, ◌∙◌}
use mathlib.Core.Bool.{Bool, true, false, cond, ◌&&◌}
use mathlib.Core.List.{List, ◌++◌, append_assoc}
use mathlib.Core.Logic.{⊎_elim}
use Prim.Native.Nat.{ℕ, ◌*◌, ◌≤◌}
use native.Mathlib.Nat.{le_refl, zero-add, zero-mul, one-mul}
use borrow.Author.Tests.{le-leb, eqb-true, ne_eqb, leb-true}
use lib.Dec.{leb, eqb}
use lib.Ieee.{Float}
use lib.ListN.{length, take, drop, take-append-drop}
use lib.Seq.{take_all, drop-append-le, length-take-le}
use Rattle.model.specs.Answer.{refusal_number}
use Rattle.model.specs.Inputs.{Inputs}
use Rattle.model.specs.declared.ends.Refusal.{Refusal}
use Rattle.model.specs.declared.sizes.Shape.{Shape}
use Rattle.model.specs.declared.sizes.Settings.{Settings}
use Rattle.model.proofs.Answers.{refusal_no_end}
use Rattle.model.proofs.Tests.{to_within}
use Rattle.family.specs.declared.carried.CarriedFamily.{CarriedFamily}
use Rattle.family.specs.declared.carried.CarriedLink.{CarriedLink}
use Rattle.table.specs.Table.{table_of}
use Rattle.table.proofs.When.{accepted_when}
use Rattle.job.specs.Faults.{Checked, fault_of}
use Rattle.job.specs.Lists.{laid}
use Rattle.job.specs.Job.{Job, sound, job_of, read_by, read_of}
use Rattle.call.specs.Call.{FitNumber, lengths_of, call_of}
use Rattle.call.proofs.Leaves.{refused_left}
use Rattle.call.proofs.When.{accepted_exactly}
use Rattle.jobfit.specs.Done.{inputs_of, numbers_of, zeros, beta_length, lent_for, Done, results_by, done_of, done_for}
use Rattle.jobfit.proofs.Lent.{refusal_some, beta_lent}
use Rattle.jobfit.proofs.Lengths.{results_fit}
use Rattle.jobcall.specs.Told.{Buffers, buffers, told, counts_length, counts_of, returned_by, told_by, answered, counted, fit_job_of}
use Rattle.many.specs.Many.{part_of, placed_in, response_at, with_y, block_length, lent_to, back_from, single_of, after_one, after_to, beta_for, lengths_for, verdict_for, refused_with, many_by, many_of, job_with_y, many_answered, fit_many_of}
use Rattle.many.proofs.Parts.{part_length, placed_same}
use Rattle.many.proofs.Single.{zeros_length, counts_length_lem, numbers_length_lem}
use Rattle.many.proofs.Each.{all_sound, room_in}
use Rattle.many.proofs.Calls.{many_accepted}

-- a list laid over the front of a front, and that put back, is laid over the whole
placed_laid : {A : Type 0} (k : ℕ) (xs b : List A) → length xs ≤ k → k ≤ length b → placed_in 0 k (laid xs (part_of 0 k b)) b ≡ laid xs b
unfolding placed_in part_of laid
placed_laid k xs b h l =
    let front : length (take k b) ≡ k = length-take-le k b l in
    append_assoc xs (drop (length xs) (take k b)) (drop k b)
    ∙ ap (λ w. xs ++ w) (sym (drop-append-le (length xs) (take k b) (drop k b) (rw front h)) ∙ ap (drop (length xs)) (take-append-drop k b))

end_returned : (k : ℕ) → FitNumber k → returned_by k ≡ 0
unfolding returned_by
end_returned k w = ⊎_elim (λ (z : k ≡ 0). rw z refl) (λ (z : (10 ≤ k) × (k ≤ 13)). rw (to_within {lo = 10} {hi = 13} {a = k} z.0 z.1) refl) w

module _ (t : Settings) (s : Shape) (I : Inputs) (B : Buffers) (counts : counts_length ≤ length B.counts) where
  -- the table is told the same lengths
  beta_one : beta_for 1 t (length B.results) (length B.counts) ≡ length (zeros (beta_length t (length B.results)))
  unfolding beta_for beta_length
  beta_one =
      let n : 1 * block_length t ≡ block_length t = one-mul (block_length t) in
      rw (n, one-mul t.p, le-leb counts_length (length B.counts) counts, zeros_length (beta_length t (length B.results))) (by (leb (block_length t) (length B.results)))
    where
      by : (b : Bool) → cond (b && true) t.p 0 ≡ cond b t.p 0
      by true = refl
      by false = refl

  lengths_one : lengths_for 1 t (length B.rows) (length B.matrices) (length B.terms) (length B.results) (length B.counts) ≡ lengths_of (lent_for t B.rows B.matrices B.terms B.results)
  unfolding lengths_for lengths_of lent_for
  lengths_one =
      rw (
        beta_one,
        one-mul t.p,
        one-mul t.rows,
        one-mul t.n,
        zeros_length t.p,
        zeros_length t.rows,
        zeros_length t.n,
        zeros_length (t.p * t.p),
      )
      refl

  refused_one : (x : Refusal) → verdict_for 1 t s I B ≡ Err x → many_of 1 t s I B ≡ single_of t s I B
  unfolding many_of many_by refused_with verdict_for told_by done_for done_of results_by lent_for returned_by
  refused_one x e =
      let q : table_of 1 t s I (lengths_of (lent_for t B.rows B.matrices B.terms B.results)) ≡ Err x = rw (← lengths_one) e in
      rw (e, refused_left t s I (lent_for t B.rows B.matrices B.terms B.results) x q, ne_eqb (refusal_number x) 0 (refusal_some x), refusal_no_end x) refl

  -- ---- accepted
  module _ (f : CarriedFamily) (l : CarriedLink) (e : verdict_for 1 t s I B ≡ Ok (f, l)) where
    abbrev block : List Float
    block = part_of 0 (block_length t) B.results

    long : block_length t ≤ length B.results
    long = rw (one-mul (block_length t)) at (room_in 1 t s I B f l e).results

    -- the one response is the whole of y
    own_y : with_y (response_at t.n 0 I.y) I ≡ I
    unfolding part_of
    own_y =
        let long-y : length I.y ≡ 1 * t.n = (all_sound 1 t s I B f l e).inputs_fit.y in
        let all : length I.y ≤ t.n = rw (long-y, one-mul t.n) (le_refl t.n) in
        let same : take t.n (drop (0 * t.n) I.y) ≡ I.y = rw (zero-mul t.n) (take_all t.n I.y all) in
        ap (λ (y : List Float). with_y y I) same

    -- its block lends what the whole results lend
    same_lent : lent_for t B.rows B.matrices B.terms block ≡ lent_for t B.rows B.matrices B.terms B.results
    unfolding lent_for
    same_lent =
        let part : length block ≡ block_length t = part_length 0 (block_length t) B.results (rw (zero-add (block_length t)) long) in
        let p : beta_length t (length block) ≡ beta_length t (length B.results) = sym (beta_lent t (length block) (block_length t) refl (rw part (le_refl _))) ∙ beta_lent t (length B.results) (block_length t) refl long in
        rw p refl

    abbrev done_in : List Float → Done
    done_in results = done_for t s I B.rows B.matrices B.terms results

    record SameWork (c d : Done) : Type 0 where
      answer : c.answer ≡ d.answer
      rows : c.rows ≡ d.rows
      matrices : c.matrices ≡ d.matrices
      terms : c.terms ≡ d.terms

    same_work : SameWork (done_in block) (done_in B.results)
    unfolding done_for done_of
    same_work = rw same_lent (record { answer = refl; rows = refl; matrices = refl; terms = refl })

    one_results : placed_in 0 (block_length t) (done_in block).results B.results ≡ (done_in B.results).results
    unfolding done_for done_of results_by
    one_results = rw same_lent (by (eqb (call_of t s I (lent_for t B.rows B.matrices B.terms B.results)).answer.number 0) refl)
      where
        by : (b : Bool) → eqb (call_of t s I (lent_for t B.rows B.matrices B.terms B.results)).answer.number 0 ≡ b
            → placed_in 0 (block_length t) (results_by (call_of t s I (lent_for t B.rows B.matrices B.terms B.results)) block) B.results ≡ results_by (call_of t s I (lent_for t B.rows B.matrices B.terms B.results)) B.results
        by true q =
            let L = lent_for t B.rows B.matrices B.terms B.results in
            let few : length (numbers_of (call_of t s I L).answer (call_of t s I L).lent.results) ≤ block_length t = rw (numbers_length_lem t.n t.p t.rows (call_of t s I L).answer (call_of t s I L).lent.results (results_fit t s I L (eqb-true _ _ q))) (le_refl _) in
            rw q (placed_laid (block_length t) (numbers_of (call_of t s I L).answer (call_of t s I L).lent.results) B.results few long)
        by false q = rw q (placed_same 0 (block_length t) B.results)

    placed_one : (J : Inputs) (m : ℕ) → J ≡ I → m ≡ 0 → let d = done_for t s J B.rows B.matrices B.terms (part_of m (block_length t) B.results) in buffers d.rows d.matrices d.terms (placed_in m (block_length t) d.results B.results) (placed_in 0 counts_length (laid (counts_of d.answer 0) (part_of 0 counts_length B.counts)) B.counts) ≡ (single_of t s I B).after
    unfolding told_by
    placed_one J m a b =
        let w = same_work in
        let told = placed_laid counts_length (counts_of (done_in B.results).answer 0) B.counts (rw (counts_length_lem (done_in B.results).answer 0) (le_refl counts_length)) counts in
        rw (a, b, one_results, w.answer, w.rows, w.matrices, w.terms, told) refl

    after_one_lem : after_to t s I 1 B ≡ (single_of t s I B).after
    unfolding after_to after_one back_from told_by lent_to
    after_one_lem = placed_one (with_y (response_at t.n 0 I.y) I) (0 * block_length t) own_y (zero-mul (block_length t))

    at_one : table_of 1 t s I (lengths_of (lent_for t B.rows B.matrices B.terms B.results)) ≡ Ok (f, l)
    unfolding verdict_for
    at_one = rw (← lengths_one) e

    single_number : FitNumber (done_in B.results).answer.number
    unfolding done_for done_of
    single_number =
        let L = lent_for t B.rows B.matrices B.terms B.results in
        (accepted_exactly t s I L).1 ((accepted_when 1 t s I (lengths_of L) f l).0 at_one).0

    accepted_one : many_of 1 t s I B ≡ single_of t s I B
    unfolding told_by
    accepted_one = many_accepted 1 t s I B f l e ∙ rw (end_returned (done_in B.results).answer.number single_number, after_one_lem) refl

  -- in any case
  pub one_single : many_of 1 t s I B ≡ single_of t s I B
  one_single = by (verdict_for 1 t s I B) refl
    where
      by : (v : Result (CarriedFamily × CarriedLink) Refusal) → verdict_for 1 t s I B ≡ v → many_of 1 t s I B ≡ single_of t s I B
      by (Err x) e = refused_one x e
      by (Ok (f, l)) e = accepted_one f l e

-- ---- a job
module _ (B : Buffers) where
  job_one : (f : Checked) (j : Job) → counts_length ≤ length B.counts → many_answered (read_by f j) 1 j.y B ≡ answered (read_by f j) B
  unfolding many_answered answered read_by refused_with
  job_one (Ok t) j h = one_single j.settings j.shape (inputs_of j) B h
  job_one (Err e) j h = refl

  pub one_by_one : (s : List ℕ) → fit_many_of s (job_of s).y 1 B ≡ fit_job_of s B
  unfolding fit_many_of fit_job_of counted read_of
  one_by_one s = by (leb counts_length (length B.counts)) refl
    where
      by : (b : Bool) → leb counts_length (length B.counts) ≡ b → cond b (many_answered (read_of s) 1 (job_of s).y B) (told 2 B) ≡ cond b (answered (read_of s) B) (told 2 B)
      by true e = job_one (fault_of s) (job_of s) (leb-true _ _ e)
      by false e = refl

  -- and with another response in place of its own
  pub one_response : (j : Job) (y : List Float) → counts_length ≤ length B.counts → many_answered (sound j) 1 y B ≡ answered (sound (job_with_y y j)) B
  unfolding many_answered answered
  one_response j y h = one_single j.settings j.shape (inputs_of (job_with_y y j)) B h
