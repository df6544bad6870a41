-- `elementary::log::ln_main` meets its contract: the pattern is taken apart as in the definition, and the pattern of z is no NaN's.
use Rattle.std.proofs.Common.{◌≡◌, ℕ, ◌+◌, ◌%◌, false, arith}
use lib.Ieee.{binary64, nan_bits}
use Rattle.base.proofs.Doubles.{no_nan_pattern}
use Rattle.elementary.proofs.log.ln_main.Goals as goal

z_number : (t : ℕ) → nan_bits binary64 (0x3fe6_0000_0000_0000 + t % 0x0010_0000_0000_0000) ≡ false
z_number t = no_nan_pattern (0x3fe6_0000_0000_0000 + t % 0x0010_0000_0000_0000) (omega arith)

pub float_from_bits-z : goal.float_from_bits-z
float_from_bits-z c = rw z_number tt
