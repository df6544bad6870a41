-- `blocks::shape_of` meets its contract: before turn i the shape holds the numbers of the first i blocks, and eight turns are made.
use Rattle.std.specs.Prelude.{◌≡◌}
use Rattle.blocks.specs.Blocks.{placed_to}
use Rattle.blocks.proofs.shape_of.Given as goal

abbrev pub invariant-loop-i : goal.invariant-loop-i
invariant-loop-i l = l.shape ≡ placed_to l.blocks l.i
