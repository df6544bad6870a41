-- `factor::v_at` meets its contract: it is the product of rows a and b.
use Rattle.factor.specs.Inverse.{v_at}
use borrow.Author.Rules.{rules}
use Rattle.factor.proofs.inverses.v_at.Goals as goal

pub returns : goal.returns
unfolding v_at
returns c = search rules
