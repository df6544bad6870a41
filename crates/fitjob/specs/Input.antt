-- What the program prints of an input. Document 01, "The job and the program". Assumes nothing.
use Rattle.intake.specs.declared.InputError.{InputError}
use Rattle.intake.specs.declared.InputError.TheVariants.{Failed}
use Rattle.intake.specs.declared.InputError.TheVariants.{TooLong}
use Rattle.std.specs.Prelude.{Result, Ok, Err}
use Rattle.std.specs.Prelude.{◌≡◌, List, ℕ, Float, take}
use Rattle.output.specs.Output.{response, respond_of, RespondLong}

-- how many bytes of a job the space holds: none where the input is too long or could not be read
abbrev pub held_of : Result ℕ InputError → ℕ
held_of (Ok n) = n
held_of (Err TooLong) = 0
held_of (Err Failed) = 0

-- nothing of an input that could not be read, the one answer to all longer jobs, else the answer to the bytes that are held
unfoldable pub Printed : Result ℕ InputError → (space : List ℕ) (terms : List Float) (out : List ℕ) → ℕ → List Float → List ℕ → Type 0
Printed (Err Failed) space terms out r after w = response r after w ≡ response 0 terms out
Printed (Err TooLong) space terms out r after w = (after ≡ terms) × RespondLong out r w
Printed (Ok n) space terms out r after w = response r after w ≡ respond_of (take n space) terms out
