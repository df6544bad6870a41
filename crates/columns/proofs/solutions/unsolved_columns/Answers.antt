-- `columns::unsolved_columns` meets its contract: before turn a the first a columns stand one behind the other.
use mathlib.Core.Path.{refl}
use Rattle.base.proofs.Fills.{build_at, grid_none}
use Rattle.factor.proofs.Columns.{grid_part}
use Rattle.columns.specs.Pieces.{unsolved_at}
use native.Mathlib.Omega.{arith}
use Rattle.columns.proofs.solutions.unsolved_columns.Goals as goal

pub loop-a-init : goal.loop-a-init
loop-a-init c = grid_none _ _ _

pub loop-a-preserved : goal.loop-a-preserved
loop-a-preserved c =
    let args = c.args in
    let loop = c.loop-a in
    grid_part loop.a args.q (unsolved_at args.shape args.theta.now args.s.now args.p args.q) args.out.now loop.out _ _ _ _ loop.invariant c.offset-o.ensures.0 refl (omega (arith, c.offset-o.ensures.1, c.requires.p_in_bounds.1, loop.auto.out)) c.unsolved_column.auto.out c.unsolved_column.ensures (λ i l. build_at _ _ i l)
