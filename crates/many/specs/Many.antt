-- Many responses on one design: what a call with the bytes of a job and 1 to 64 responses returns, and what it leaves in every lent buffer. Document 02, P1. Assumes nothing.
use Rattle.family.specs.declared.carried.CarriedFamily.{CarriedFamily}
use Rattle.family.specs.declared.carried.CarriedLink.{CarriedLink}
use Rattle.model.specs.declared.ends.Refusal.{Refusal}
use Rattle.std.specs.Prelude.{Result, Ok, Err}
use Rattle.std.specs.Prelude.{cond, ◌&&◌, List, ◌++◌, ℕ, zero, suc, ◌*◌, leb, Float, length, take, drop}
use Rattle.model.specs.Account.{no_counts}
use Rattle.model.specs.Answer.{refusal_number, blank_answer}
use Rattle.model.specs.Inputs.{Inputs, inputs}
use Rattle.model.specs.declared.sizes.Shape.{Shape}
use Rattle.model.specs.declared.sizes.Settings.{Settings}
use Rattle.table.specs.Table.{table_of}
use Rattle.table.specs.declared.verdicts.LentLengths.{LentLengths}
use Rattle.job.specs.Lists.{laid}
use Rattle.job.specs.Job.{Job, Read, faulty, sound, read_of}
use Rattle.jobfit.specs.Done.{inputs_of, results_length, done_for}
use Rattle.jobcall.specs.Told.{Buffers, buffers, Told, told, counts_length, counts_of, told_by}

-- ---- the parts of one response

-- the k entries of v from at on
unfoldable pub part_of : {A : Type 0} → ℕ → ℕ → List A → List A
part_of at k v = take k (drop at v)

-- v with xs in place of its k entries from at on
unfoldable pub placed_in : {A : Type 0} → ℕ → ℕ → List A → List A → List A
placed_in at k xs v = take at v ++ (xs ++ drop k (drop at v))

-- "responses of n numbers each": number i of them, from 0 on
abbrev pub response_at : ℕ → ℕ → List Float → List Float
response_at n i ys = part_of (i * n) n ys

-- "one design and theta": the same lists with other responses
abbrev pub with_y : List Float → Inputs → Inputs
with_y y I = inputs I.theta y I.weights I.offset I.x I.starts I.columns I.values

-- the block of a response is as long as the results of a single call
abbrev pub block_length : Settings → ℕ
block_length t = results_length t.n t.p t.rows

-- what is lent to response i: the work buffers, its block of the results, its counts
unfoldable pub lent_to : Settings → ℕ → Buffers → Buffers
lent_to t i B =
    buffers B.rows B.matrices B.terms (part_of (i * block_length t) (block_length t) B.results) (part_of (i * counts_length) counts_length B.counts)

-- the buffers, with those of response i back in their places
unfoldable pub back_from : Settings → ℕ → Buffers → Buffers → Buffers
back_from t i after B =
    buffers after.rows after.matrices after.terms (placed_in (i * block_length t) (block_length t) after.results B.results)
    (placed_in (i * counts_length) counts_length after.counts B.counts)

-- ---- "the single calls made one by one, in order"

-- a single call with these lists and buffers, as `answered` of jobcall has it for a job
abbrev pub single_of : Settings → Shape → Inputs → Buffers → Told
single_of t s I B = told_by (done_for t s I B.rows B.matrices B.terms B.results) B.counts

-- the buffers after the call of response i
unfoldable pub after_one : Settings → Shape → Inputs → ℕ → Buffers → Buffers
after_one t s I i B = back_from t i (single_of t s (with_y (response_at t.n i I.y) I) (lent_to t i B)).after B

-- the buffers after the calls of the first i responses
unfoldable pub after_to : Settings → Shape → Inputs → ℕ → Buffers → Buffers
after_to t s I zero B = B
after_to t s I (suc i) B = after_one t s I i (after_to t s I i B)

-- ---- the verdict on all responses

-- r times p; none where the results or the counts have no room for r responses, so that the table refuses it with 2 in its order
unfoldable pub beta_for : ℕ → Settings → (results counts : ℕ) → ℕ
beta_for r t results counts = cond (leb (r * block_length t) results && leb (r * counts_length) counts) (r * t.p) 0

-- the lengths that the table is told: those of the results of r single calls, and those of the work buffers
unfoldable pub lengths_for : ℕ → Settings → (rows matrices terms results counts : ℕ) → LentLengths
lengths_for r t rows matrices terms results counts =
    record {
      beta = beta_for r t results counts;
      se = r * t.p;
      z = r * t.p;
      u = r * t.rows;
      b = r * t.rows;
      mu = r * t.n;
      eta = r * t.n;
      residual = r * t.n;
      v = r * t.p * t.p;
      rows = rows;
      matrices = matrices;
      terms = terms;
    }

-- the table's verdict on r responses, which stand one behind another in y
unfoldable pub verdict_for : ℕ → Settings → Shape → Inputs → Buffers → Result (CarriedFamily × CarriedLink) Refusal
verdict_for r t s I B =
    table_of r t s I (lengths_for r t (length B.rows) (length B.matrices) (length B.terms) (length B.results) (length B.counts))

-- ---- the call

-- a refusal at a byte of the job: its number, and all but the first counts as lent
unfoldable pub refused_with : (number byte : ℕ) → Buffers → Told
refused_with number byte B =
    told number (buffers B.rows B.matrices B.terms B.results (laid (counts_of (blank_answer number no_counts) byte) B.counts))

-- by the verdict: refused as a whole, or the single calls one by one
unfoldable pub many_by : Result (CarriedFamily × CarriedLink) Refusal → ℕ → Settings → Shape → Inputs → Buffers → Told
many_by (Err x) r t s I B = refused_with (refusal_number x) 0 B
many_by (Ok (f, l)) r t s I B = told 0 (after_to t s I r B)

-- the call of r responses on one design
unfoldable pub many_of : ℕ → Settings → Shape → Inputs → Buffers → Told
many_of r t s I B = many_by (verdict_for r t s I B) r t s I B

-- ---- the job

-- a job with other responses; its own are not looked at
abbrev pub job_with_y : List Float → Job → Job
job_with_y y j =
    record { settings = j.settings; shape = j.shape; theta = j.theta; y = y; weights = j.weights; offset = j.offset; x = j.x; z = j.z }

-- a job that cannot be read is refused at its byte, any other is called
unfoldable pub many_answered : Read → ℕ → List Float → Buffers → Told
many_answered (faulty k b) r ys B = refused_with k b B
many_answered (sound j) r ys B = many_of r j.settings j.shape (inputs_of (job_with_y ys j)) B

-- without room for the counts of one response nothing is looked at, and all is as lent
unfoldable pub fit_many_of : List ℕ → List Float → ℕ → Buffers → Told
fit_many_of s ys r B = cond (leb counts_length (length B.counts)) (many_answered (read_of s) r ys B) (told 2 B)
