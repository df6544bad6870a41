-- What was read is within the space, and so is what is printed. Assumes nothing.
use Rattle.intake.specs.declared.InputError.{InputError}
use Rattle.intake.specs.declared.InputError.TheVariants.{Failed}
use Rattle.intake.specs.declared.InputError.TheVariants.{TooLong}
use Rattle.std.specs.Prelude.{Result, Ok, Err}
use mathlib.Core.Path.{◌≡◌, sym, ◌∙◌}
use Prim.Native.Nat.{ℕ, ◌≤◌, ◌<◌}
use native.Mathlib.Omega.{arith}
use lib.IntN.{ℤ}
use Rattle.std.specs.declared.ops.ControlFlow.TheVariants.{Continue, Break}
use Rattle.intake.specs.Intake.{Step, after_read}
use Rattle.intake.proofs.Steps.{more_within, held_is}
use Rattle.fitmany.specs.Held.{held_of}

-- what is held when reading ends is what was there
pub ended_within : (room held : ℕ) (got : ℤ) (s : Step) (input : Result ℕ InputError) → s ≡ after_read room held got → s ≡ Break input → held ≤ room → held_of input ≤ room
ended_within room held got s (Err Failed) d e l = omega arith
ended_within room held got s (Err TooLong) d e l = omega arith
ended_within room held got s (Ok n) d e l = let same : n ≡ held = held_is room held n got (sym d ∙ e) in omega arith

-- bytes that move on are more than there were, and within the space
pub more_of : (room held n : ℕ) (got : ℤ) (s : Step) → s ≡ after_read room held got → s ≡ Continue n → (held < n) × (n ≤ room)
more_of room held n got s d e = more_within room held n got (sym d ∙ e)

pub held_within : (input : Result ℕ InputError) (n most : ℕ) → input ≡ Ok n → held_of input ≤ most → n ≤ most
held_within input n most e h = rw e at h
