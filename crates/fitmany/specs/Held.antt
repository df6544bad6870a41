-- What the program holds of its input. Assumes nothing.
use Rattle.intake.specs.declared.InputError.{InputError}
use Rattle.intake.specs.declared.InputError.TheVariants.{Failed}
use Rattle.intake.specs.declared.InputError.TheVariants.{TooLong}
use Rattle.std.specs.Prelude.{Result, Ok, Err}
use Rattle.std.specs.Prelude.{ℕ}

-- how many bytes the space holds: none where the input could not be read
abbrev pub held_of : Result ℕ InputError → ℕ
held_of (Ok n) = n
held_of (Err TooLong) = 0
held_of (Err Failed) = 0
