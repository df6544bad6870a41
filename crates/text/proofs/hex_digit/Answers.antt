-- `text::hex_digit` meets its contract: the sixteen bytes, one after another, are the digits of the definition.
use mathlib.Core.Path.{◌≡◌}
use mathlib.Core.List.{map}
use Prim.Native.Nat.{ℕ, ◌<◌}
use native.Mathlib.Omega.{arith}
use lib.ListN.{get_or}
use Rattle.std.specs.List.{range_with_len}
use Rattle.std.proofs.lemmas.List.FromFn.{get_or-map-range_with_len}
use Rattle.text.specs.Hex.{hex_digit}
use Rattle.text.proofs.hex_digit.Goals as goal

digit : (d : ℕ) → d < 16 → get_or (map hex_digit (range_with_len 0 16)) d 0 ≡ hex_digit d
digit d h = get_or-map-range_with_len hex_digit 0 16 d d 0 h (omega arith)

pub returns : goal.returns
unfolding hex_digit
returns c = digit c.args.d c.requires
