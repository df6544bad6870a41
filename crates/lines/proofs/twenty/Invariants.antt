-- `lines::twenty` meets its contract: the digits of what is left, and behind them those already stored, are always the whole. Assumes nothing.
use mathlib.Core.Path.{◌≡◌}
use mathlib.Core.List.{◌++◌}
use lib.ListN.{length, drop}
use Rattle.lines.specs.Decimals.{decimals}
use Rattle.lines.proofs.twenty.Given as goal

abbrev pub invariant-loop-i : goal.invariant-loop-i
invariant-loop-i l = (length l.out ≡ 20) × (decimals l.i l.rest ++ drop l.i l.out ≡ decimals 20 l.n)
