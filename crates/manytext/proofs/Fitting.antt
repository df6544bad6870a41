-- What the program's functions leave is what is written: by what is told of the job, and by the number that the call returned. Assumes nothing.
use Rattle.job.specs.Faults.{fault}
use Rattle.std.specs.Prelude.{Result, Ok, Err}
use mathlib.Core.Path.{◌≡◌, refl, ◌∙◌}
use mathlib.Core.List.{List}
use Prim.Native.Nat.{ℕ, ◌+◌, ◌-◌, ◌/◌, ◌≤◌, min}
use native.Mathlib.Omega.{arith}
use borrow.Author.Tests.{eq-eqb, ne_eqb}
use lib.Ieee.{Float}
use lib.ListN.{length, take, drop}
use Rattle.base.specs.List.{build}
use Rattle.model.specs.declared.sizes.Settings.{Settings}
use Rattle.job.specs.Job.{Read, faulty, sound, read_of}
use Rattle.job.specs.Lists.{laid}
use Rattle.jobfit.specs.Done.{zeros}
use Rattle.reader.specs.declared.whole.Header.{Header}
use Rattle.job.specs.declared.faults.Fault.{Fault}
use Rattle.reader.specs.Reading.{header_of}
use Rattle.jobcall.specs.Told.{Buffers, Told, told}
use Rattle.manytext.specs.declared.pieces.Pieces.TheVariants.{Refusal, Responses}
use Rattle.manytext.specs.Input.{job_size, word_at, input_room, reading_of}
use Rattle.manytext.specs.Pieces.{Fitted, fitted, pieces_by, fitted_by, fit_all_of, fit_read, fit_parts, fit_input_of}
use Rattle.manytext.proofs.Parts.{job_part, rest_part, numbers_part}

-- ---- by the number that was returned
module _ (x : Told) (k r : ℕ) (t : Settings) (after : Buffers) (d : told k after ≡ x) where
  pub accepted_left : k ≡ 0 → fitted (Responses r t) after.results after.counts ≡ fitted_by x r t
  unfolding fitted_by pieces_by
  accepted_left e = rw (← d, eq-eqb k 0 e) refl

  pub refused_left : (k ≡ 0 → ⊥) → fitted (Refusal k 0) after.results after.counts ≡ fitted_by x r t
  unfolding fitted_by pieces_by
  refused_left e = rw (← d, ne_eqb k 0 e) refl

-- ---- by what is told of the job
module _ (job : List ℕ) (words : ℕ) (ys results : List Float) (counts : List ℕ) (g : Result Header Fault) where
  pub refused_read : (x : Read) (e : Fault) → g ≡ reading_of x → g ≡ Err e → fitted (Refusal e.number e.byte) results counts ≡ fit_read x job words ys results counts
  unfolding reading_of fit_read
  refused_read (faulty r c) e d h =
      let is : e ≡ fault r c = cc in
      rw is refl
  refused_read (sound j) e d h = let z : ◌≡◌ {A = ℕ} 0 1 = cc in absurd (omega arith)

  pub accepted_read : (x : Read) (h : Header) (f : Fitted) (r : ℕ) → g ≡ reading_of x → g ≡ Ok h → r ≡ words / h.settings.n → f ≡ fit_all_of job h.settings r ys results counts
      → f ≡ fit_read x job words ys results counts
  unfolding reading_of fit_read header_of
  accepted_read (faulty r c) h f n d e q p = let z : ◌≡◌ {A = ℕ} 0 1 = cc in absurd (omega arith)
  accepted_read (sound j) h f n d e q p =
      let head : h ≡ header_of j = cc in
      p ∙ rw (q, head) refl

-- ---- by the parts of the bytes
pub parts_fit : (job rest : List ℕ) (f : Fitted) (ys results : List Float) (n : ℕ) (counts : List ℕ) → ys ≡ laid (build (word_at rest) (length rest / 8)) (zeros 41473) → n ≡ (length rest + 7) / 8
    → length rest ≤ input_room → f ≡ fit_read (read_of job) job (length rest / 8) (take (n - 0) (drop 0 ys)) results counts → f ≡ fit_parts job rest results counts
unfolding fit_parts
parts_fit job rest f ys results n counts e q h d = d ∙ rw (e, numbers_part rest n 41473 q (omega arith)) refl

pub input_fit : (s : List ℕ) (from size left held to : ℕ) → from ≡ min 3 (length s) → size ≡ job_size s → left ≡ length s - from → held ≡ min size left → to ≡ from + held
    → (f : Fitted) (results : List Float) (counts : List ℕ) → f ≡ fit_parts (take (to - from) (drop from s)) (take (length s - to) (drop to s)) results counts → f ≡ fit_input_of s results counts
unfolding fit_input_of
input_fit s from size left held to ef es el eh et f results counts d =
    let most : held ≡ min (job_size s) left = rw es at eh in
    d ∙ rw (job_part s from left held to ef el most et, rest_part s from left held to ef el most et) refl
