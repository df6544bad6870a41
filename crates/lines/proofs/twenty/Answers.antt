-- `lines::twenty` meets its contract: the digits of what is left, and behind them those already stored, are always the whole. Assumes nothing.
use mathlib.Core.Path.{◌≡◌}
use native.Mathlib.Omega.{arith}
use lib.ListN.{length-set}
use Rattle.lines.specs.Decimals.{decimals}
use Rattle.lines.proofs.DigitLaws.{digit_stored}
use Rattle.lines.proofs.twenty.Goals as goal

pub loop-i-preserved : goal.loop-i-preserved
loop-i-preserved c = (simp length-set (omega arith), digit_stored _ _ _ _ (omega arith) (omega arith) c.loop-i.invariant.1)

pub returns : goal.returns
unfolding decimals
returns c = let z : c.loop-i.i ≡ 0 = omega arith in rw z at c.loop-i.invariant.1
