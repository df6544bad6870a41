-- `lines::first_digit` meets its contract: what was passed are zeros, so that leaving them out changes nothing of what is trimmed. Assumes nothing.
use mathlib.Core.Path.{◌≡◌}
use lib.ListN.{drop}
use Rattle.lines.specs.Decimals.{trimmed}
use Rattle.lines.proofs.first_digit.Given as goal

abbrev pub invariant-loop-i : goal.invariant-loop-i
invariant-loop-i l = (trimmed (drop l.i l.digits) ≡ trimmed l.digits)
