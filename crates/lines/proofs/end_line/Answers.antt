-- `lines::end_line` meets its contract: its pieces stand behind one another from the front on. Assumes nothing.
use native.Mathlib.Omega.{arith}
use borrow.Author.Rules.{rules}
use Rattle.lines.specs.Lines.{pairs_text, line_of, end_pairs, end_line, Written}
use Rattle.lines.proofs.Pieces.{told_flag, pair_and, from_front}
use Rattle.lines.proofs.end_line.Goals as goal

pub returns : goal.returns
unfolding pairs_text line_of end_pairs end_line
returns c =
    let w : Written (end_line c.args.answer) c.args.out.now c.account.new.self.at c.account.new.self.out.now =
    from_front (pair_and c.pair.ensures.paired (pair_and c.pair-2.ensures.paired (pair_and (rw (told_flag _ _ c.from.ensures) at c.pair-3.ensures.paired) (pair_and c.pair-4.ensures.paired c.account.ensures.appended (omega arith)) (omega arith)) (omega arith)) (omega arith)) in
    search (rules, w.0, w.1)
