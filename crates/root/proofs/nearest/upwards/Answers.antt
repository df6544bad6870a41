-- `root::nearest::upwards` meets its contract: the first number whose half more is past the root is nearest to it, since the one before was not; the loop makes at most four turns.
use Rattle.std.proofs.Common.{◌+◌, ◌<◌, arith}
use Rattle.root.proofs.Squares.{near_next, near_is, near_one_lem}
use Rattle.root.proofs.nearest.upwards.Goals.{In-loop-k}
use Rattle.root.proofs.nearest.upwards.Goals as goal

-- at most four turns: they count from 0, and each of them is one of the first four
pub turns_few : (c : In-loop-k) → c.loop-k.k < 4
turns_few c = c.loop-k-test.true

pub returns-then-s-pronic : goal.returns-then-s-pronic
returns-then-s-pronic c =
    near_one_lem (near_next c.args.s (c.args.q + c.loop-k.k) c.loop-k.invariant.missed (rw c.pronic.ensures at c.if-s-pronic.true)) (near_is _ (omega arith) (omega arith))
