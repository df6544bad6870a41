-- One answer, one content: `ReadDone` leaves one answer and one content of each lent list, and what it leaves in front is the job. Assumes nothing.
use Rattle.std.specs.Prelude.{Result}
use mathlib.Core.Path.{◌≡◌, refl}
use mathlib.Core.List.{List}
use Prim.Native.Nat.{ℕ}
use lib.ListN.{length, take, drop}
use lib.Seq.{take_at}
use Rattle.base.proofs.Unique.{one_value}
use Rattle.job.specs.declared.faults.Fault.{Fault}
use Rattle.job.specs.Lists.{laid}
use Rattle.reader.specs.declared.whole.Found.{Found}
use Rattle.reader.specs.Reading.{ReadDone}
use Rattle.model.specs.Inputs.{Inputs}

-- `read_job`
pub read_unique : (s : List ℕ) (before a b : Inputs) (r t : Result Found Fault) → ReadDone s before r a → ReadDone s before t b → (r ≡ t) × (a ≡ b)
read_unique s before a b r t p q = (one_value p.says q.says, one_value p.leaves q.leaves)

-- the front of a list that another was laid over is that other
pub front_read : {A : Type 0} (xs b : List A) → take (length xs) (laid xs b) ≡ xs
unfolding laid
front_read xs b = take_at xs (drop (length xs) b) (length xs) refl
