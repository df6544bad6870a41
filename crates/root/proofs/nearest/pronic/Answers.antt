-- `root::nearest::pronic` meets its contract: the three products of the digits make up the square, and each fits in 64 bits.
use Rattle.root.proofs.Squares.{pronic_is}
use Rattle.root.proofs.nearest.pronic.Goals.{Start}
use Rattle.root.proofs.nearest.pronic.Goals as goal

pub returns : goal.returns
returns c = pronic_is c.args.q
