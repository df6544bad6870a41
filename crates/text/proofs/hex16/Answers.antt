-- `text::hex16` meets its contract: the digits of what is left, and behind them those already stored, are always the whole.
use lib.ListN.{length-set}
use Rattle.text.proofs.Digits.{digit_stored}
use mathlib.Core.Path.{◌≡◌}
use native.Mathlib.Omega.{arith}
use Rattle.text.specs.Hex.{hex_digits}
use Rattle.text.proofs.hex16.Goals as goal

pub loop-i-preserved : goal.loop-i-preserved
loop-i-preserved c = (omega arith, simp length-set (omega arith), rw c.hex_digit.ensures (digit_stored _ _ _ _ c.loop-i-test.true (omega arith) c.loop-i.invariant.2))

pub returns : goal.returns
unfolding hex_digits
returns c = let z : c.loop-i.i ≡ 0 = omega arith in rw z at c.loop-i.invariant.2
