-- `bits::field_at` meets its contract: the field lies in three bytes, and n bits make a number below 2 ^ n. Assumes nothing.
use native.Mathlib.Omega.{arith}
use Rattle.std.proofs.lemmas.Nat.{one_shl}
use Rattle.bits.proofs.BitLaws.{bits_below}
use Rattle.bits.proofs.ByteLaws.{field_is}
use Rattle.bits.proofs.field_at.Goals as goal

pub returns : goal.returns
returns c =
    let e = field_is c.args.s.now c.args.at c.args.width _ _ _ c.requires.1 c.byte_or-a.ensures c.byte_or.ensures c.byte_or-2.ensures in
    rw (one_shl c.args.width 64 (omega arith)) (e, rw e (bits_below c.args.s.now c.args.at c.args.width))
