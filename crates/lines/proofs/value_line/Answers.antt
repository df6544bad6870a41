-- `lines::value_line` meets its contract: its pieces stand behind one another from the front on. Assumes nothing.
use native.Mathlib.Omega.{arith}
use borrow.Author.Rules.{rules}
use Rattle.lines.specs.Lines.{value_line, Written}
use Rattle.lines.proofs.Pieces.{appended_both, pair_and, from_front}
use Rattle.lines.proofs.value_line.Goals as goal

pub returns : goal.returns
unfolding value_line
returns c =
    let digits = appended_both c.put-2.ensures.appended c.put-3.ensures.appended (omega arith) in
    let w : Written (value_line c.args.name.now c.args.index c.args.x) c.args.out.now c.put-3.new.self.at c.put-3.new.self.out.now =
    from_front (pair_and c.pair.ensures.paired (appended_both c.put.ensures.appended (rw (c.hex16.ensures, c.pattern.ensures) at digits) (omega arith)) (omega arith)) in
    search (rules, w.0, w.1)
