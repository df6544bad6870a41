-- `lines::Writer::pair` meets its contract: its three pieces stand behind one another. Assumes nothing.
use native.Mathlib.Omega.{arith}
use Rattle.lines.specs.Lines.{pair_text}
use Rattle.lines.proofs.Pieces.{appended_both, paired}
use Rattle.lines.proofs.Writer.pair.Goals as goal

pub put-requires-2 : goal.put-requires-2
put-requires-2 c = omega (arith, c.put.ensures.appended.ends)

pub decimal-requires : goal.decimal-requires
decimal-requires c = omega (arith, c.put.ensures.appended.ends, c.put-2.ensures.appended.ends)

pub returns-clause-paired : goal.returns-clause-paired
unfolding pair_text
returns-clause-paired c =
    let a = c.put.ensures.appended in
    let b = c.put-2.ensures.appended in
    paired _ _ _ _ _ _ (appended_both a (appended_both b c.decimal.ensures.appended (omega (arith, a.ends))) (omega arith))
