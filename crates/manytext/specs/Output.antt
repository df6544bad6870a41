-- What the program prints of many responses, as one function of the bytes that it reads. Document 02, P1. Assumes nothing.
use Rattle.family.specs.declared.carried.CarriedFamily.{CarriedFamily}
use Rattle.family.specs.declared.carried.CarriedLink.{CarriedLink}
use Rattle.model.specs.declared.ends.Refusal.{Refusal}
use Rattle.std.specs.Prelude.{Result, Ok, Err}
use Rattle.std.specs.Prelude.{List, ◌++◌, ℕ, ◌/◌, Float, length, replicate}
use Rattle.model.specs.Answer.{refusal_number}
use Rattle.job.specs.Job.{Job, Read, faulty, sound, read_of}
use Rattle.job.specs.Lists.{join_to}
use Rattle.lines.specs.Lines.{refused_line, response_line}
use Rattle.jobfit.specs.Done.{inputs_of, zeros}
use Rattle.jobcall.specs.Told.{Buffers}
use Rattle.many.specs.Many.{response_at, job_with_y, verdict_for}
use Rattle.output.specs.Output.{output_by}
use Rattle.manytext.specs.Input.{job_in, rest_in, numbers_in}
use Rattle.manytext.specs.Pieces.{work_with}

-- what the program lends: work buffers, and results and counts for 64 responses, all of them long enough for every size
unfoldable pub many_lent : Buffers
many_lent = work_with (zeros 121984) (replicate 896 0)

-- "for each response a line `response I` (from 0) and then exactly what `fitjob` prints for the job with y replaced"
unfoldable pub response_printed : Job → List Float → ℕ → List ℕ
response_printed j ys i = response_line i ++ output_by (sound (job_with_y (response_at j.settings.n i ys) j))

-- "it prints `refused R at B`", where the table refuses the responses as a whole; else r of these
unfoldable pub printed_by : Result (CarriedFamily × CarriedLink) Refusal → ℕ → Job → List Float → List ℕ
printed_by (Err x) r j ys = refused_line (refusal_number x) 0
printed_by (Ok (f, l)) r j ys = join_to r (response_printed j ys)

-- r responses of a job
unfoldable pub printed_of : ℕ → Job → List Float → List ℕ
printed_of r j ys = printed_by (verdict_for r j.settings j.shape (inputs_of (job_with_y ys j)) many_lent) r j ys

-- by the job: one that cannot be read is refused at its byte; any other is called with as many whole responses as there are
unfoldable pub many_printed : Read → List ℕ → List ℕ
many_printed (faulty k b) rest = refused_line k b
many_printed (sound j) rest = printed_of (length rest / 8 / j.settings.n) j (numbers_in rest)

-- the program
unfoldable pub many_output_of : List ℕ → List ℕ
many_output_of s = many_printed (read_of (job_in s)) (rest_in s)
