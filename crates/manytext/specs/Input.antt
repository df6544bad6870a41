-- The bytes that the program reads: the job's length in three bytes, the job, then responses as doubles; high byte first in all of them. Document 02, P1. Assumes nothing.
use Rattle.std.specs.Prelude.{List, ◌++◌, ℕ, ◌+◌, ◌-◌, ◌*◌, ◌/◌, Float, length, take, drop, Result, Ok, Err}
use Rattle.base.specs.List.{build}
use Rattle.bits.specs.Bits.{bits_of, double_of}
use Rattle.job.specs.declared.faults.Fault.{Fault}
use Rattle.job.specs.Faults.{fault}
use Rattle.job.specs.Job.{Read, faulty, sound}
use Rattle.jobfit.specs.Done.{zeros}
use Rattle.reader.specs.Reading.{header_of}
use Rattle.reader.specs.declared.whole.Header.{Header}

-- "the job's length in three bytes (high byte first)"; a byte that is not there counts as 0
abbrev pub job_size : List ℕ → ℕ
job_size s = bits_of s 0 24

-- "the job": as much of it as there is
unfoldable pub job_in : List ℕ → List ℕ
job_in s = take (job_size s) (drop 3 s)

-- what stands behind it
unfoldable pub rest_in : List ℕ → List ℕ
rest_in s = drop (job_size s) (drop 3 s)

-- "doubles, high byte first": the one in the eight bytes from 8i on
abbrev pub word_at : List ℕ → ℕ → Float
word_at bytes i = double_of bytes (8 * i)

-- "then the responses as doubles": those of the whole words; bytes left over count as one number more, which nothing looks at
unfoldable pub numbers_in : List ℕ → List Float
numbers_in bytes = build (word_at bytes) (length bytes / 8) ++ zeros ((length bytes + 7) / 8 - length bytes / 8)

-- the bytes that the program has room for: the three, the longest job, and 65 responses of 512 numbers, which are one more than a call may have
abbrev pub input_room : ℕ
input_room = 331779

-- what a caller is told of a job that was read
unfoldable pub reading_of : Read → Result Header Fault
reading_of (faulty k b) = Err (fault k b)
reading_of (sound j) = Ok (header_of j)
