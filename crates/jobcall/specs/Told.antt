-- What a call with the bytes of a job returns, and what it leaves in every lent buffer. Document 01, "Numbers of an answer" and "The job and the program"; document 02, P5, P9 and P10. Assumes nothing.
use Rattle.std.specs.Prelude.{Bool, cond, List, [], ◌∷◌, ℕ, leb, Float, length}
use Rattle.model.specs.Account.{no_counts}
use Rattle.model.specs.Answer.{is_end, blank_answer}
use Rattle.model.specs.declared.ends.Answer.{Answer}
use Rattle.job.specs.Lists.{laid}
use Rattle.job.specs.Job.{Read, faulty, sound, read_of}
use Rattle.jobfit.specs.Done.{inputs_of, Done, done_for}

-- the buffers that a caller lends: three for work, one for the results, one for the counts
pub record Buffers : Type 0 where
  pub rows : List Float
  pub matrices : List Float
  pub terms : List Float
  pub results : List Float
  pub counts : List ℕ

-- five lists as buffers
abbrev pub buffers : (rows matrices terms results : List Float) → List ℕ → Buffers
buffers rows matrices terms results counts = record { rows = rows; matrices = matrices; terms = terms; results = results; counts = counts }

-- the number that is returned, and the buffers after the call
pub record Told : Type 0 where
  pub returned : ℕ
  pub after : Buffers

-- a number and buffers together
abbrev pub told : ℕ → Buffers → Told
told r B = record { returned = r; after = B }

-- ---- what is written

-- how many counts there are
abbrev pub counts_length : ℕ
counts_length = 14

-- the counts: the number, the order, the flag, the iterations, the account's first four, the byte at which a job was refused, why, and the parts of the tries; requests append to this list
unfoldable pub counts_of : Answer → ℕ → List ℕ
counts_of a byte =
    a.number ∷ a.order ∷ cond a.converged 1 0 ∷ a.iterations ∷ a.account.fits ∷ a.account.solves ∷ a.account.tries ∷ a.account.points ∷ byte
    ∷ a.why ∷ a.account.eta ∷ a.account.mean ∷ a.account.pwrss ∷ a.account.ok ∷ []

-- ---- the call

-- an accepted call returns 0, whatever it came to; any other number is a refusal's, and returned
unfoldable pub returned_by : ℕ → ℕ
returned_by k = cond (is_end k) 0 k

-- what is told of a call that is done
unfoldable pub told_by : Done → List ℕ → Told
told_by d counts = told (returned_by d.answer.number) (buffers d.rows d.matrices d.terms d.results (laid (counts_of d.answer 0) counts))

-- ---- the job

-- a job that cannot be read is refused at its byte, and all but the counts is as lent; any other is called
unfoldable pub answered : Read → Buffers → Told
answered (faulty r b) B = told r (buffers B.rows B.matrices B.terms B.results (laid (counts_of (blank_answer r no_counts) b) B.counts))
answered (sound j) B = told_by (done_for j.settings j.shape (inputs_of j) B.rows B.matrices B.terms B.results) B.counts

-- without room for the counts nothing is looked at, and all is as lent
unfoldable pub counted : Read → Buffers → Told
counted r B = cond (leb counts_length (length B.counts)) (answered r B) (told 2 B)

-- another theta in a job that can be read
unfoldable pub with_theta : List Float → Read → Read
with_theta theta (faulty r b) = faulty r b
with_theta theta (sound j) =
    sound (record { settings = j.settings; shape = j.shape; theta = theta; y = j.y; weights = j.weights; offset = j.offset; x = j.x; z = j.z })

-- the job with its own theta, or with the one beside it
abbrev pub theta_by : Bool → List Float → Read → Read
theta_by own theta r = cond own r (with_theta theta r)

-- the fit of a job
unfoldable pub fit_job_of : List ℕ → Buffers → Told
fit_job_of s B = counted (read_of s) B

-- the fit of a job at a theta beside it
unfoldable pub fit_job_theta_of : List ℕ → List Float → Buffers → Told
fit_job_theta_of s theta B = counted (with_theta theta (read_of s)) B
