-- `tries::pwrss` meets its contract: before turn i the sum is u·u with the first i squares added.
use mathlib.Core.Path.{◌≡◌}
use Rattle.base.specs.Sum.{dot_of}
use Rattle.rule.specs.Try.{square_at, add_to}
use Rattle.tries.proofs.passes.pwrss.Given as goal

abbrev pub invariant-loop-i : goal.invariant-loop-i
invariant-loop-i l = (l.sum ≡ add_to l.i (dot_of l.q l.u l.u) (square_at l.w l.z l.c))
