-- `solve::solve_side` meets its contract: the part is lent to `side`, then to the solver.
use mathlib.Core.Path.{refl}
use native.Mathlib.Omega.{arith}
use Rattle.solve.proofs.Steps.{solved_made}
use Rattle.solve.proofs.sides.solve_side.Goals as goal

pub returns : goal.returns
returns c = solved_made c.args.n c.args.q c.args.wy _ c.args.shape c.args.theta.now _ _ _ _ c.side.new.out c.ldl_solve.new.x c.requires.ready.effects refl (omega (arith, c.requires.n_in_bounds)) c.side.auto.out c.side.ensures c.ldl_solve.auto.x c.ldl_solve.ensures
