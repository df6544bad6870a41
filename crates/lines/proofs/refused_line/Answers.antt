-- `lines::refused_line` meets its contract: its pieces stand behind one another from the front on. Assumes nothing.
use native.Mathlib.Omega.{arith}
use borrow.Author.Rules.{rules}
use Rattle.lines.specs.Lines.{pairs_text, line_of, refused_line, Written}
use Rattle.lines.proofs.Pieces.{pair_and, from_front}
use Rattle.lines.proofs.refused_line.Goals as goal

pub returns : goal.returns
unfolding pairs_text line_of refused_line
returns c =
    let w : Written (refused_line c.args.fault.number c.args.fault.byte) c.args.out.now c.put.new.self.at c.put.new.self.out.now =
    from_front (pair_and c.pair.ensures.paired (pair_and c.pair-2.ensures.paired c.put.ensures.appended (omega arith)) (omega arith)) in
    search (rules, w.0, w.1)
