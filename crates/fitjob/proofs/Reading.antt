-- What was read is within the space, and so is what is printed. Assumes nothing.
use Rattle.intake.specs.declared.InputError.{InputError}
use Rattle.intake.specs.declared.InputError.TheVariants.{Failed}
use Rattle.intake.specs.declared.InputError.TheVariants.{TooLong}
use Rattle.std.specs.Prelude.{Result, Ok, Err}
use mathlib.Core.Path.{◌≡◌, refl, sym, ap, ◌∙◌}
use mathlib.Core.List.{List}
use Prim.Native.Nat.{ℕ, ◌-◌, ◌≤◌, ◌<◌}
use native.Mathlib.Omega.{arith}
use lib.Ieee.{Float}
use lib.IntN.{ℤ}
use lib.ListN.{length, take, drop}
use Rattle.std.specs.declared.ops.ControlFlow.TheVariants.{Continue, Break}
use Rattle.intake.specs.Intake.{Step, after_read}
use Rattle.intake.proofs.Steps.{more_within, held_is}
use Rattle.respond.proofs.Telling.{respond_within, long_within}
use Rattle.output.specs.Output.{Response, response, respond_of, RespondLong}
use Rattle.fitjob.specs.Input.{held_of, Printed}

-- what is held when reading ends is what was there
pub ended_within : (room held : ℕ) (got : ℤ) (s : Step) (input : Result ℕ InputError) → s ≡ after_read room held got → s ≡ Break input → held ≤ room → held_of input ≤ room
ended_within room held got s (Err Failed) d e l = omega arith
ended_within room held got s (Err TooLong) d e l = omega arith
ended_within room held got s (Ok n) d e l = let same : n ≡ held = held_is room held n got (sym d ∙ e) in omega arith

-- bytes that move on are more than there were, and within the space
pub more_of : (room held n : ℕ) (got : ℤ) (s : Step) → s ≡ after_read room held got → s ≡ Continue n → (held < n) × (n ≤ room)
more_of room held n got s d e = more_within room held n got (sym d ∙ e)

pub held_within : (input : Result ℕ InputError) (n most : ℕ) → input ≡ Ok n → held_of input ≤ most → n ≤ most
held_within input n most e h = rw e at h

-- ---- what is to be printed, by the input
pub failed_printed : (input : Result ℕ InputError) (e : InputError) (space : List ℕ) (terms : List Float) (out : List ℕ) → input ≡ Err e → e ≡ Failed → Printed input space terms out 0 terms out
unfolding Printed
failed_printed input e space terms out d h = rw (d, h) refl

pub long_printed : (input : Result ℕ InputError) (e : InputError) (space : List ℕ) (terms : List Float) (out w : List ℕ) (r : ℕ) → input ≡ Err e → e ≡ TooLong → RespondLong out r w → Printed input space terms out r terms w
unfolding Printed
long_printed input e space terms out w r d t h = rw (d, t) (refl, h)

-- the bytes that are held are lent as a part from 0
pub held_printed : (input : Result ℕ InputError) (n : ℕ) (space : List ℕ) (terms after : List Float) (out w : List ℕ) (r : ℕ) → input ≡ Ok n
    → response r after w ≡ respond_of (take (n - 0) (drop 0 space)) terms out
    → Printed input space terms out r after w
unfolding Printed
held_printed input n space terms after out w r e h =
    let whole : n - 0 ≡ n = omega arith in
    rw e (rw whole at h)

-- it is within the bytes
pub printed_within : (input : Result ℕ InputError) (space : List ℕ) (terms : List Float) (out : List ℕ) (r : ℕ) (after : List Float) (w : List ℕ) → Printed input space terms out r after w → r ≤ length w
unfolding Printed
printed_within (Err Failed) space terms out r after w p = let none : r ≡ 0 = ap (λ (z : Response). z.told) p in omega arith
printed_within (Err TooLong) space terms out r after w p = long_within out w r p.1
printed_within (Ok n) space terms out r after w p = respond_within _ terms after out w r p
