-- What one read of an input leads to. Document 01, "The job and the program": one job from standard input into an array of 65,536 bytes. Assumes nothing.
use Rattle.std.specs.Prelude.{◌≡◌, cond, ℕ, ◌+◌, ◌≤◌, eqb, leb, ℤ, pos, negsuc, Result, Ok, Err}
use Rattle.std.specs.declared.ops.ControlFlow.{ControlFlow}
use Rattle.std.specs.declared.ops.ControlFlow.TheVariants.{Continue, Break}
use Rattle.intake.specs.declared.InputError.{InputError}
use Rattle.intake.specs.declared.InputError.TheVariants.{TooLong, Failed}

-- so many bytes are there and the input may go on, or reading has ended
abbrev pub Step : Type 0
Step = ControlFlow (Result ℕ InputError) ℕ

-- n bytes more: none are the end of the input, and one that the space has no room for is one too many
unfoldable pub after_bytes : (room held n : ℕ) → Step
after_bytes room held n = cond (eqb n 0) (Break (Ok held)) (cond (leb (held + n) room) (Continue (held + n)) (Break (Err TooLong)))

-- what a read answers: less than 0 where it failed, else how many bytes it brought
unfoldable pub after_read : (room held : ℕ) → ℤ → Step
after_read room held (negsuc k) = Break (Err Failed)
after_read room held (pos n) = after_bytes room held n

-- of a read into a space of so many bytes: -1, or no more bytes than these
abbrev pub Brought : (room : ℕ) → ℤ → Type 0
Brought room (pos n) = n ≤ room
Brought room (negsuc k) = k ≡ 0
