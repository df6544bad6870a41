-- `root::nearest::with_digit` meets its contract: the square of q + b - 1/2 is compared with the number, both cut to whole multiples of 2 ^ 52.
use Rattle.root.proofs.Squares.{digit_taken, digit_left}
use Rattle.root.proofs.nearest.with_digit.Goals as goal

pub returns-then-p-s : goal.returns-then-p-s
returns-then-p-s c = digit_taken _ c.args.q c.args.b c.requires.0 (rw c.pronic-p.ensures at c.if-p-s.true)

pub returns : goal.returns
returns c = digit_left _ c.args.q c.args.b c.requires.0 (rw c.pronic-p.ensures at c.if-p-s.false)
