-- What is printed as pieces: what the call leaves, how many pieces there are, and the text of each. Document 02, P1. Assumes nothing.
use Prim.{Unit}
use Rattle.std.specs.Prelude.{cond, List, ℕ, ◌*◌, ◌/◌, ◌≤◌, eqb, Float, length}
use Rattle.model.specs.declared.sizes.Settings.{Settings}
use Rattle.job.specs.Job.{Read, faulty, sound, read_of}
use Rattle.job.specs.Lists.{join_to}
use Rattle.lines.specs.Lines.{refused_line}
use Rattle.jobfit.specs.Done.{zeros}
use Rattle.jobfit.specs.Room.{SizesFew}
use Rattle.jobcall.specs.Told.{Buffers, buffers, Told, counts_length}
use Rattle.many.specs.Many.{part_of, block_length, fit_many_of}
use Rattle.manytext.specs.declared.pieces.Pieces.{Pieces}
use Rattle.manytext.specs.declared.pieces.Pieces.TheVariants.{Refusal, Responses}
use Rattle.manytext.specs.Text.{response_text}
use Rattle.manytext.specs.Input.{job_in, rest_in, numbers_in}

-- ---- the call

-- the pieces, and what the call leaves in the lent results and counts
pub record Fitted : Type 0 where
  pub pieces : Pieces
  pub results : List Float
  pub counts : List ℕ

-- the three together
abbrev pub fitted : Pieces → List Float → List ℕ → Fitted
fitted pieces results counts = record { pieces = pieces; results = results; counts = counts }

-- work buffers that are long enough for every size, beside lent results and counts
abbrev pub work_with : List Float → List ℕ → Buffers
work_with results counts = buffers (zeros 8192) (zeros 5696) (zeros 7000) results counts

-- by the number that a call of r responses returned: 0 where it was accepted, else a refusal's
unfoldable pub pieces_by : ℕ → ℕ → Settings → Pieces
pieces_by k r t = cond (eqb k 0) (Responses r t) (Refusal k 0)

-- what it leaves
unfoldable pub fitted_by : Told → ℕ → Settings → Fitted
fitted_by told r t = fitted (pieces_by told.returned r t) told.after.results told.after.counts

-- the call of r responses
unfoldable pub fit_all_of : List ℕ → Settings → ℕ → List Float → List Float → List ℕ → Fitted
fit_all_of job t r ys results counts = fitted_by (fit_many_of job ys r (work_with results counts)) r t

-- a job that cannot be read is refused at its byte; any other is called with the whole responses that are there
unfoldable pub fit_read : Read → List ℕ → ℕ → List Float → List Float → List ℕ → Fitted
fit_read (faulty k b) job words ys results counts = fitted (Refusal k b) results counts
fit_read (sound j) job words ys results counts = fit_all_of job j.settings (words / j.settings.n) ys results counts

-- a job, and the bytes behind it
unfoldable pub fit_parts : List ℕ → List ℕ → List Float → List ℕ → Fitted
fit_parts job rest results counts = fit_read (read_of job) job (length rest / 8) (numbers_in rest) results counts

-- the bytes that were read
unfoldable pub fit_input_of : List ℕ → List Float → List ℕ → Fitted
fit_input_of s results counts = fit_parts (job_in s) (rest_in s) results counts

-- ---- the text

-- how many pieces there are
abbrev pub pieces_of : Pieces → ℕ
pieces_of (Refusal k b) = 1
pieces_of (Responses r t) = r

-- the text of response i, from its parts of the buffers
unfoldable pub part_text : ℕ → Settings → List ℕ → List Float → List ℕ
part_text i t counts results = response_text i t (part_of (i * counts_length) counts_length counts) (part_of (i * block_length t) (block_length t) results)

-- the text of piece i
unfoldable pub piece_text : Pieces → List ℕ → List Float → ℕ → List ℕ
piece_text (Refusal k b) counts results i = refused_line k b
piece_text (Responses r t) counts results i = part_text i t counts results

-- all pieces, one behind another
abbrev pub joined : Fitted → List ℕ
joined f = join_to (pieces_of f.pieces) (piece_text f.pieces f.counts f.results)

-- ---- what the writers ask

-- the parts of r responses are there, and they are few
pub record PartsFit (r : ℕ) (t : Settings) (counts : List ℕ) (results : List Float) : Type 0 where
  pub few : r ≤ 64
  pub sizes : SizesFew t
  pub counts_long : r * counts_length ≤ length counts
  pub results_long : r * block_length t ≤ length results

-- whatever is printed
abbrev pub PiecesFit : Pieces → List ℕ → List Float → Type 0
PiecesFit (Refusal k b) counts results = Unit {0}
PiecesFit (Responses r t) counts results = PartsFit r t counts results
