-- A job of more than 65,536 bytes is refused whatever they are. Assumes nothing.
use mathlib.Core.Path.{◌≡◌, refl}
use mathlib.Core.List.{List}
use Prim.Native.Nat.{ℕ, ◌<◌}
use borrow.Author.Tests.{lt-leb}
use lib.ListN.{length}
use Rattle.job.specs.Faults.{demand, first, fault_of}
use Rattle.job.specs.Job.{faulty, read_by, read_of}
use Rattle.lines.specs.Lines.{refused_line}
use Rattle.output.specs.Output.{output_by, output_of}

pub long_read : (s : List ℕ) → 65536 < length s → read_of s ≡ faulty 25 65536
unfolding read_of read_by fault_of demand first
long_read s l = rw (lt-leb (length s) 65536 l)

pub long_output : (s : List ℕ) → 65536 < length s → refused_line 25 65536 ≡ output_of s
unfolding output_of output_by
long_output s l = rw (long_read s l) refl
