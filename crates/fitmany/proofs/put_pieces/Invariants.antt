-- `fitmany::put_pieces` is safe and ends: what the call left can be written piece by piece, and no piece is longer than the bytes. Assumes nothing.
use mathlib.Core.Path.{◌≡◌}
use Prim.Native.Nat.{◌≤◌}
use lib.ListN.{length}
use Rattle.manytext.specs.Pieces.{pieces_of}
use Rattle.fitmany.proofs.put_pieces.Given as goal

abbrev pub invariant-loop-i : goal.invariant-loop-i
invariant-loop-i l = (l.i ≤ l.count) × (length l.out ≡ length l.initial.out) × (l.count ≡ pieces_of l.pieces)
