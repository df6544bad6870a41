-- `factor::transpose` meets its contract: before turn i the leading i by i square is turned over.
use mathlib.Core.Path.{◌≡◌}
use lib.ListN.{length}
use Rattle.factor.specs.Transpose.{square_turned}
use Rattle.factor.proofs.inverses.transpose.Given as goal

abbrev pub invariant-loop-i : goal.invariant-loop-i
invariant-loop-i l = (length l.x ≡ length l.initial.x) × (l.x ≡ square_turned l.s l.i l.initial.x)
