-- What the program prints, as one function of the bytes of a job. Document 01, "The job and the program". Assumes nothing.
use Rattle.std.specs.Prelude.{◌≡◌, cond, List, ℕ, ◌*◌, ◌<◌, leb, Float, length}
use Rattle.model.specs.declared.sizes.Settings.{Settings}
use Rattle.job.specs.Lists.{laid}
use Rattle.job.specs.Job.{Job, Read, faulty, sound, read_of}
use Rattle.lines.specs.Lines.{refused_line}
use Rattle.call.specs.Call.{Lent, lent, Left, call_of}
use Rattle.report.specs.Report.{answer_text, out_room}
use Rattle.jobfit.specs.Done.{inputs_of, zeros}

-- what is lent beside the terms: the nine results exactly as long as the sizes ask, and work slices that are long enough for every size
abbrev pub slices_with : List Float → Settings → Lent
slices_with terms t =
    lent (zeros t.p) (zeros t.p) (zeros t.p) (zeros t.rows) (zeros t.rows) (zeros t.n) (zeros t.n) (zeros t.n) (zeros (t.p * t.p)) (zeros 8192)
    (zeros 5696)
    terms

-- what the program lends
unfoldable pub slices_for : Settings → Lent
slices_for t = slices_with (zeros 7000) t

-- the call that a job asks for
abbrev pub call_for : Job → Left
call_for j = call_of j.settings j.shape (inputs_of j) (slices_for j.settings)

-- what is printed of a call
abbrev pub left_text : Left → List ℕ
left_text l = answer_text l.answer l.lent.results

-- a job that cannot be read is refused at its byte, any other is called
unfoldable pub output_by : Read → List ℕ
output_by (faulty r b) = refused_line r b
output_by (sound j) = left_text (call_for j)

-- the program
unfoldable pub output_of : List ℕ → List ℕ
output_of s = output_by (read_of s)

-- ---- in lent buffers

-- what is told, and the lent terms and bytes after it
pub record Response : Type 0 where
  pub told : ℕ
  pub terms : List Float
  pub out : List ℕ

-- the three together
abbrev pub response : ℕ → List Float → List ℕ → Response
response told terms out = record { told = told; terms = terms; out = out }

-- the call that a job asks for, with these terms
abbrev pub call_with : List Float → Job → Left
call_with terms j = call_of j.settings j.shape (inputs_of j) (slices_with terms j.settings)

-- the text stands in the front of the bytes, nothing else in them has changed, and its length is told
abbrev pub response_of : List ℕ → List Float → List ℕ → Response
response_of text terms out = response (length text) terms (laid text out)

-- what is told of a call
abbrev pub left_response : Left → List ℕ → Response
left_response l out = response_of (left_text l) l.lent.terms out

-- a job that cannot be read is refused at its byte, any other is called
unfoldable pub response_by : Read → List Float → List ℕ → Response
response_by (faulty r b) terms out = response_of (refused_line r b) terms out
response_by (sound j) terms out = left_response (call_with terms j) out

-- bytes without room for the longest output: nothing is looked at, 0 is told, all is as lent
unfoldable pub respond_of : List ℕ → List Float → List ℕ → Response
respond_of job terms out = cond (leb out_room (length out)) (response_by (read_of job) terms out) (response 0 terms out)

-- the one answer to all jobs of more than 65,536 bytes, whatever terms are lent
abbrev pub RespondLong : List ℕ → ℕ → List ℕ → Type 0
RespondLong before r after = (job : List ℕ) (terms : List Float) → 65536 < length job → response r terms after ≡ respond_of job terms before
