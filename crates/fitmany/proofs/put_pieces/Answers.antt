-- `fitmany::put_pieces` is safe and ends: what the call left can be written piece by piece, and no piece is longer than the bytes. Assumes nothing.
use mathlib.Core.Path.{refl}
use native.Mathlib.Omega.{arith}
use Rattle.manytext.proofs.Written.{text_few}
use Rattle.fitmany.proofs.put_pieces.Goals as goal

pub loop-i-init : goal.loop-i-init
loop-i-init c = (omega arith, refl, c.count_of-count.ensures)

pub slice_bounds-put-end : goal.slice_bounds-put-end
slice_bounds-put-end c =
    let put-piece = c.put_piece-n in
    omega (arith, put-piece.ensures.0, text_few _ _ _ put-piece.ensures.1 put-piece.auto.out, put-piece.auto.out)
