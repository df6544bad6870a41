-- `lines::Writer::account` meets its contract: its pieces stand behind one another. Assumes nothing.
use native.Mathlib.Omega.{arith}
use Rattle.lines.specs.Lines.{account_pairs, pairs_text}
use Rattle.lines.proofs.Pieces.{pair_and}
use Rattle.lines.proofs.Writer.account.Goals as goal

pub returns-clause-appended : goal.returns-clause-appended
unfolding account_pairs pairs_text
returns-clause-appended c =
    pair_and c.pair.ensures.paired (pair_and c.pair-2.ensures.paired (pair_and c.pair-3.ensures.paired (pair_and c.pair-4.ensures.paired c.tail.ensures.appended (omega arith)) (omega arith)) (omega arith)) (omega arith)
