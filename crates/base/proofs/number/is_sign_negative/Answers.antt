-- `base::is_sign_negative` meets its contract: the highest bit of a pattern is the sign.
use lib.Dec.{T}
use lib.Ieee.{fits, binary64}
use borrow.Author.Rules.{rules}
use Rattle.base.proofs.Doubles.{sign_bit}
use Rattle.base.proofs.number.is_sign_negative.Goals as goal

pub returns : goal.returns
returns c =
    let f : T (fits binary64 c.args.x) = search rules in
    rw c.pattern.ensures (sign_bit c.args.x f)
