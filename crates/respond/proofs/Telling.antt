-- What is told of a job by its reading, and by the room of the lent bytes. Assumes nothing.
use mathlib.Core.Path.{◌≡◌, refl, ap, ◌∙◌}
use mathlib.Core.Bool.{Bool, true, false, cond}
use mathlib.Core.List.{List, []}
use Prim.Native.Nat.{ℕ, ◌-◌, ◌≤◌, ◌<◌}
use native.Mathlib.Omega.{arith}
use borrow.Author.Tests.{le-leb, lt-leb}
use lib.Dec.{leb}
use lib.Ieee.{Float}
use lib.ListN.{length, take, drop, replicate, length-append, length-replicate}
use Rattle.job.specs.Lists.{laid}
use Rattle.job.specs.Job.{Read, faulty, sound, job_of, read_of}
use Rattle.lines.specs.Lines.{refused_line, Written}
use Rattle.reader.specs.declared.whole.Found.{Found}
use Rattle.reader.specs.declared.whole.Header.{Header}
use Rattle.model.specs.Inputs.{Inputs}
use Rattle.call.specs.Call.{call_of}
use Rattle.report.specs.Report.{out_room}
use Rattle.jobfit.specs.Room.{fronts_of}
use Rattle.jobfit.proofs.Lent.{front_is}
use Rattle.jobfit.proofs.Reading.{beside, ReadJob}
use Rattle.output.specs.Output.{slices_with, call_with, left_text, Response, response, response_of, left_response, response_by, respond_of, RespondLong}
use Rattle.output.proofs.Long.{long_read}

-- ---- by the reading
pub refused_response : (s : List ℕ) (r c : ℕ) (terms : List Float) (out w : List ℕ) (k : ℕ) → read_of s ≡ faulty r c → Written (refused_line r c) out k w
    → response k terms w ≡ response_by (read_of s) terms out
unfolding response_by
refused_response s r c terms out w k e h = rw (e, h.0, h.1) refl

-- the theta that is called is the front of the list into which it was read
pub called_response : (s : List ℕ) (h : Header) (g : Found) (a : Inputs) → ReadJob s h g a → (terms : List Float) (out : List ℕ) (x : Response)
    → x ≡ left_response (call_of h.settings g.shape (fronts_of h (beside (take (h.thetas - 0) (drop 0 a.theta)) a)) (slices_with terms h.settings)) out
    → x ≡ response_by (read_of s) terms out
unfolding response_by
called_response s h g a j terms out x d =
    d ∙ rw (front_is h.thetas a.theta, j.own, j.at (job_of s).theta, j.settings, j.shape, j.read) refl

-- ---- by the room
module _ (job : List ℕ) (terms : List Float) (out : List ℕ) where
  pub short_response : length out < out_room → response 0 terms out ≡ respond_of job terms out
  unfolding respond_of
  short_response l = rw (lt-leb out_room (length out) l) refl

  pub room_response : (x : Response) → out_room ≤ length out → x ≡ response_by (read_of job) terms out → x ≡ respond_of job terms out
  unfolding respond_of
  room_response x l e = rw (le-leb out_room (length out) l) e

-- the refusal of a long job answers all of them
pub short_long : (out : List ℕ) → length out < out_room → RespondLong out 0 out
short_long out l job terms long = short_response job terms out l

pub long_response : (out w : List ℕ) (k : ℕ) → out_room ≤ length out → Written (refused_line 25 65536) out k w → RespondLong out k w
long_response out w k l h job terms long = room_response job terms out (response k terms w) l (refused_response job 25 65536 terms out w k (long_read job long) h)

-- ---- what is told is within the bytes
text_within : (text : List ℕ) (terms : List Float) (out : List ℕ) → (response_of text terms out).told ≤ length (response_of text terms out).out
unfolding laid
text_within text terms out = omega (arith, length-append text (drop (length text) out))

by_within : (r : Read) (terms : List Float) (out : List ℕ) → (response_by r terms out).told ≤ length (response_by r terms out).out
unfolding response_by
by_within (faulty r b) terms out = text_within (refused_line r b) terms out
by_within (sound j) terms out = text_within (left_text (call_with terms j)) (call_with terms j).lent.terms out

pub respond_within : (job : List ℕ) (terms x : List Float) (out w : List ℕ) (r : ℕ) → response r x w ≡ respond_of job terms out → r ≤ length w
unfolding respond_of
respond_within job terms x out w r e = by (leb out_room (length out)) e
  where
    by : (t : Bool) → response r x w ≡ cond t (response_by (read_of job) terms out) (response 0 terms out) → r ≤ length w
    by true q = rw (ap (λ (z : Response). z.told) q, ap (λ (z : Response). z.out) q) (by_within (read_of job) terms out)
    by false q = let z : r ≡ 0 = ap (λ (z : Response). z.told) q in omega arith

-- so is the answer to long jobs, of which there are some
long_of : (n : ℕ) → 65536 < n → (out w : List ℕ) (r : ℕ) → RespondLong out r w → r ≤ length w
long_of n l out w r h = respond_within (replicate n 0) [] [] out w r (h (replicate n 0) [] (rw (length-replicate {A = ℕ} n 0) l))

pub long_within : (out w : List ℕ) (r : ℕ) → RespondLong out r w → r ≤ length w
long_within out w r h = long_of 65537 (omega arith) out w r h
