-- One answer, and one content of every lent slice: the contract of `fit_blocks` is an equation with `call_of`. Assumes nothing.
use mathlib.Core.Path.{◌≡◌}
use mathlib.Core.List.{List}
use Rattle.model.specs.declared.ends.Answer.{Answer}
use Rattle.model.specs.declared.sizes.Settings.{Settings}
use Rattle.model.specs.Inputs.{Inputs}
use Rattle.call.specs.Call.{Lent, left, call_of}
use Rattle.call.proofs.Unique.{fit_unique}
use Rattle.blocks.specs.Blocks.{shape_of}
use Rattle.blocks.specs.declared.Block.{Block}

-- `fit_blocks`
pub fit_blocks_unique : (t : Settings) (bs : List Block) (I : Inputs) (L : Lent) (a b : Answer) (A B : Lent) → left a A ≡ call_of t (shape_of bs) I L → left b B ≡ call_of t (shape_of bs) I L → (a ≡ b) × (A ≡ B)
fit_blocks_unique t bs I L a b A B d e = fit_unique t (shape_of bs) I L a b A B d e
