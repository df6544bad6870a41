-- `pirls::with_solve` meets its contract: the solve is added to its tries, and both to what was counted.
use Rattle.pirls.proofs.Turns.{solve_fits}
use Rattle.pirls.proofs.run.with_solve.Goals as goal

pub plus-requires : goal.plus-requires
plus-requires c = rw c.one_solve.ensures (solve_fits _ _ c.requires)
