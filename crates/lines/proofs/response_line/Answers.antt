-- `lines::response_line` meets its contract: its pieces stand behind one another from the front on. Assumes nothing.
use native.Mathlib.Omega.{arith}
use borrow.Author.Rules.{rules}
use Rattle.lines.specs.Lines.{pairs_text, line_of, response_line, Written}
use Rattle.lines.proofs.Pieces.{pair_and, from_front}
use Rattle.lines.proofs.response_line.Goals as goal

pub returns : goal.returns
unfolding pairs_text line_of response_line
returns c =
    let w : Written (response_line c.args.i) c.args.out.now c.put.new.self.at c.put.new.self.out.now =
    from_front (pair_and c.pair.ensures.paired c.put.ensures.appended (omega arith)) in
    search (rules, w.0, w.1)
