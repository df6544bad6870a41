-- `sums::power` meets its contract: before turn i the power is size^i, which no later one falls below.
use native.Mathlib.Omega.{arith}
use Rattle.sums.proofs.Fronts.{power_fits}
use Rattle.sums.proofs.answers.power.Goals as goal

pub overflow_mul-power : goal.overflow_mul-power
overflow_mul-power c =
    omega (
      arith,
      power_fits c.args.size c.loop-i.i c.args.k c.loop-i.power c.requires.0
          c.loop-i-test.true c.loop-i.invariant c.requires.1,
    )
