-- `root::nearest::by_digits` meets its contract: each turn finds the next digit, as the definition does, and after 53 turns none is left.
use Rattle.std.proofs.Common.{◌+◌, ◌-◌, ◌*◌, ◌/◌, ◌^◌, ◌<◌, sym, ◌∙◌, arith, pow_pos}
use Rattle.root.specs.Sqrt.{half_below}
use Rattle.root.proofs.Squares.{digit_at, digit_twice, digit_turn, digit_room, digits_done}
use Rattle.root.proofs.nearest.by_digits.Goals.{In-loop-k}
use Rattle.root.proofs.nearest.by_digits.Goals as goal

-- at most 53 turns: they count from 0, and each of them is one of the first 53
pub turns_few : (c : In-loop-k) → c.loop-k.k < 53
turns_few c = c.loop-k-test.true

pub with_digit-q-requires : goal.with_digit-q-requires
with_digit-q-requires c =
    let k = c.loop-k.k in
    let e = digit_at k c.loop-k-test.true in
    (omega (arith, e, pow_pos (53 - (k + 1))), omega (arith, e, digit_twice k c.loop-k-test.true, c.loop-k.invariant.0))

pub loop-k-preserved : goal.loop-k-preserved
loop-k-preserved c =
    let l = c.loop-k in
    let y = c.args.s * 0x10_0000_0000_0000 in
    let b = 0x10_0000_0000_0000 / 2 ^ l.k in
    let e = digit_at l.k c.loop-k-test.true in
    (rw c.with_digit-q.ensures (omega (arith, e, digit_twice l.k c.loop-k-test.true, l.invariant.0, digit_room (half_below (l.q + b) y) l.q b)), rw c.with_digit-q.ensures (digit_turn l.k l.q b y c.loop-k-test.true e) ∙ l.invariant.1)

pub returns : goal.returns
returns c = sym (digits_done c.loop-k.k c.loop-k.q _ c.loop-k.auto.k-end c.loop-k-test.false) ∙ c.loop-k.invariant.1
