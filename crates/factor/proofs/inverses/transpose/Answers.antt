-- `factor::transpose` meets its contract: before turn i the leading i by i square is turned over.
use native.Mathlib.Omega.{arith}
use Rattle.factor.proofs.Transposed.{square_none, square_step, square_end}
use borrow.Author.Rules.{rules}
use Rattle.factor.proofs.inverses.transpose.Goals as goal

pub loop-i-init : goal.loop-i-init
loop-i-init c = search (rules, square_none)

pub loop-i-preserved : goal.loop-i-preserved
loop-i-preserved c = (search rules, square_step _ _ _ _ _ c.loop-i.invariant.1 c.turn_row.ensures)

pub returns : goal.returns
returns c = square_end _ _ _ _ (omega arith) (omega arith) (omega arith) c.loop-i.invariant.1
