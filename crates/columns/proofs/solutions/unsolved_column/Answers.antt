-- `columns::unsolved_column` meets its contract: the column is gathered, then Λ' over it in place.
use Rattle.columns.proofs.Laws.{unsolved_made}
use Rattle.columns.proofs.solutions.unsolved_column.Goals as goal

pub returns : goal.returns
returns c =
    let args = c.args in
    unsolved_made args.shape args.theta.now args.s.now args.p args.q args.a args.out.now _ _ c.requires.p_in_bounds.2 c.gather.ensures
    c.lambda_transposed.ensures
