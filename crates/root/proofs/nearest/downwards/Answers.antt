-- `root::nearest::downwards` meets its contract: the last number whose half more is past the root is nearest to it, since the one before it is not; the loop makes at most four turns.
use Rattle.std.proofs.Common.{◌-◌, ◌<◌, arith}
use Rattle.root.proofs.Squares.{near_found, near_is, near_one_lem}
use Rattle.root.proofs.nearest.downwards.Goals.{In-loop-k}
use Rattle.root.proofs.nearest.downwards.Goals as goal

-- at most four turns: they count from 0, and each of them is one of the first four
pub turns_few : (c : In-loop-k) → c.loop-k.k < 4
turns_few c = c.loop-k-test.true

pub returns-then-pronic-s : goal.returns-then-pronic-s
returns-then-pronic-s c =
    let l = c.loop-k in
    near_one_lem (near_found c.args.s (c.args.q - l.k) (omega (arith, l.invariant.digits)) l.invariant.reached (rw c.pronic.ensures at c.if-pronic-s.true)) (near_is _ (omega arith) (omega arith))
