-- `factor::turn_row` meets its contract: before turn j the first j entries have changed places.
use native.Mathlib.Omega.{arith}
use lib.ListN.{length-set}
use Rattle.factor.proofs.Transposed.{turn_none, turn_step}
use borrow.Author.Rules.{rules}
use Rattle.factor.proofs.inverses.turn_row.Goals as goal

pub loop-j-init : goal.loop-j-init
loop-j-init c = search (rules, turn_none)

pub loop-j-preserved : goal.loop-j-preserved
loop-j-preserved c = (simp length-set (omega arith), turn_step _ _ _ _ _ _ _ c.offset-io.ensures.0 c.offset-jo.ensures.0 c.loop-j.invariant.1)
