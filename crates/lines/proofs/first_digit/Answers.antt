-- `lines::first_digit` meets its contract: what was passed are zeros, so that leaving them out changes nothing of what is trimmed. Assumes nothing.
use mathlib.Core.Path.{◌≡◌}
use native.Mathlib.Omega.{arith}
use Rattle.lines.proofs.DigitLaws.{zero_goes, digit_stays, last_stays}
use Rattle.lines.proofs.first_digit.Goals as goal

pub returns-then-digits-i-ne48 : goal.returns-then-digits-i-ne48
returns-then-digits-i-ne48 c = (omega arith, digit_stays c.args.digits.now _ c.loop-i.i (omega arith) c.if-digits-i-ne48.true c.loop-i.invariant)

pub loop-i-preserved : goal.loop-i-preserved
loop-i-preserved c = zero_goes c.args.digits.now _ c.loop-i.i (omega arith) c.if-digits-i-ne48.false c.loop-i.invariant

pub returns : goal.returns
returns c =
    let last : c.loop-i.i ≡ 19 = omega arith in
    (omega arith, last_stays c.args.digits.now _ 19 (omega arith) (rw last at c.loop-i.invariant))
