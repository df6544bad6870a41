-- `blocks::shape_of` meets its contract: before turn i the shape holds the numbers of the first i blocks, and eight turns are made.
use mathlib.Core.Path.{◌≡◌, refl, sym, ap, ◌∙◌}
use mathlib.Core.List.{List}
use Prim.Native.Nat.{ℕ, ◌+◌}
use Rattle.std.proofs.Common.{add-one}
use native.Mathlib.Omega.{arith}
use lib.ListN.{get_or}
use Rattle.blocks.specs.Blocks.{no_block, put_at, placed_to, shape_of}
use Rattle.blocks.specs.declared.Block.{Block}
use Rattle.model.specs.declared.sizes.Shape.{Shape}
use Rattle.blocks.proofs.shape_of.Goals as goal

pub loop-i-init : goal.loop-i-init
unfolding placed_to
loop-i-init c = c.blank-shape.ensures

-- one block more
one_more : (bs : List Block) (n : ℕ) → placed_to bs (n + 1) ≡ put_at (placed_to bs n) n (get_or bs n no_block)
unfolding placed_to
one_more bs n = rw add-one

-- all eight
all_placed : (bs : List Block) → placed_to bs 8 ≡ shape_of bs
unfolding placed_to
all_placed bs = refl

pub loop-i-preserved : goal.loop-i-preserved
loop-i-preserved c =
    let bs = c.args.blocks.now in
    let i = c.loop-i.i in
    c.put-shape.ensures
    ∙ ap (λ (s : Shape). put_at s i c.block_or.result) c.loop-i.invariant
    ∙ ap (put_at (placed_to bs i) i) c.block_or.ensures
    ∙ sym (one_more bs i)

pub returns : goal.returns
returns c =
    let e : c.loop-i.i ≡ 8 = omega arith in
    c.loop-i.invariant ∙ ap (placed_to c.args.blocks.now) e ∙ all_placed c.args.blocks.now
