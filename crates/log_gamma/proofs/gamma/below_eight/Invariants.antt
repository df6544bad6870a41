-- `log_gamma::gamma::below_eight` meets its contract: the steps that are left, from v and z, give what all five give from x and 1.
use Rattle.std.proofs.Common.{◌≡◌, ◌-◌}
use Rattle.base.specs.Number.{one_f}
use Rattle.log_gamma.specs.LogGamma.{lowered_of}
use Rattle.log_gamma.proofs.gamma.below_eight.Given as goal

abbrev pub invariant-loop-i : goal.invariant-loop-i
invariant-loop-i l = lowered_of (5 - l.i) l.v l.z ≡ lowered_of 5 l.x one_f
