-- `columns::solved_copies` meets its contract: the columns are copied, and each is solved in place.
use Rattle.columns.proofs.Laws.{solved_made}
use Rattle.columns.proofs.solutions.solved_copies.Goals as goal

pub returns : goal.returns
returns c =
    let args = c.args in
    solved_made args.p args.q args.l.now args.v.now args.out.now _ _ c.requires.0 c.requires.2 c.copy.ensures
    c.ldl_solve_columns.ensures
