-- What stands in the bytes that the program read: the job's length, the doubles, and what is told of the job. Assumes nothing.
use Rattle.reader.specs.declared.whole.Header.{Header}
use Rattle.std.specs.Prelude.{Result, Ok, Err}
use mathlib.Core.Path.{◌≡◌, refl, sym, ap, ◌∙◌}
use mathlib.Core.Bool.{true}
use mathlib.Core.List.{List}
use Prim.Native.Nat.{ℕ, ◌+◌, ◌*◌, ◌/◌}
use native.Mathlib.Nat.{div-zero}
use Rattle.bits.specs.Bits.{bits_of}
use Rattle.bits.proofs.ByteLaws.{split}
use Rattle.model.specs.Inputs.{Inputs}
use Rattle.job.specs.declared.faults.Fault.{Fault}
use Rattle.job.specs.Faults.{Checked, fault_of}
use Rattle.job.specs.Job.{Job, job_of, read_by, read_of}
use Rattle.reader.specs.declared.whole.Found.{Found}
use Rattle.reader.specs.Reading.{roomy, found_by, ReadDone}
use Rattle.reader.proofs.Rooms.{with_room}
use Rattle.manytext.specs.Input.{job_size, reading_of}

-- ---- three bytes
pub size_is : (s : List ℕ) (high low : ℕ) → high ≡ bits_of s 0 16 → low ≡ bits_of s 16 8 → high * 256 + low ≡ job_size s
size_is s high low a b = rw (a, b) (sym (split s 0 16 8))

-- ---- no responses of no numbers
pub none_in : (words n : ℕ) → n ≡ 0 → 0 ≡ words / n
none_in words n e = rw e (sym (div-zero words))

-- ---- what is told of a job
-- the header of what is found, or the fault
abbrev pub header_in : Result Found Fault → Result Header Fault
header_in (Ok g) = Ok g.header
header_in (Err e) = Err e

by_fault : (f : Checked) (j : Job) → header_in (found_by f j) ≡ reading_of (read_by f j)
unfolding found_by reading_of read_by
by_fault (Ok t) j = refl
by_fault (Err e) j = refl

pub reading_is : (s : List ℕ) (b a : Inputs) (r : Result Found Fault) → roomy b ≡ true → ReadDone s b r a → header_in r ≡ reading_of (read_of s)
unfolding read_of
reading_is s b a r room d = ap header_in (rw (with_room s b room) at d.says) ∙ by_fault (fault_of s) (job_of s)

module _ (s : List ℕ) (b a : Inputs) (r : Result Found Fault) (room : roomy b ≡ true) (d : ReadDone s b r a) where
  pub found_reading : (g : Found) → r ≡ Ok g → Ok g.header ≡ reading_of (read_of s)
  found_reading g e = sym (ap header_in e) ∙ reading_is s b a r room d

  pub fault_reading : (e : Fault) → r ≡ Err e → Err e ≡ reading_of (read_of s)
  fault_reading e h = sym (ap header_in h) ∙ reading_is s b a r room d
