-- A list of no block, or of more than eight, is refused with number 1, and every slice stays as it was lent. Assumes nothing.
use Rattle.std.specs.Prelude.{Err}
use mathlib.Core.Path.{◌≡◌, refl, sym}
use mathlib.Core.List.{List}
use Prim.Native.Nat.{◌<◌}
use native.Mathlib.Omega.{arith}
use lib.ListN.{length}
use Rattle.model.specs.Account.{no_counts}
use Rattle.model.specs.Answer.{blank_answer}
use Rattle.model.specs.Shape.{InRange}
use Rattle.model.specs.declared.ends.Refusal.TheVariants.{OutOfRange}
use Rattle.model.specs.declared.sizes.Settings.{Settings}
use Rattle.model.proofs.Shapes.{in_range_lem}
use Rattle.model.proofs.Sized.{not_sized}
use Rattle.model.specs.Inputs.{Inputs}
use Rattle.table.specs.Table.{refuse_unless, table_of}
use Rattle.call.specs.Call.{Lent, lengths_of, left, call_of}
use Rattle.call.proofs.Leaves.{refused_left}
use Rattle.blocks.specs.Blocks.{shape_of}
use Rattle.blocks.specs.declared.Block.{Block}

module _ (t : Settings) (bs : List Block) (I : Inputs) (L : Lent) where
  verdict : (InRange (shape_of bs) → ⊥) → table_of 1 t (shape_of bs) I (lengths_of L) ≡ Err OutOfRange
  unfolding table_of refuse_unless
  verdict bad = rw (sym (not_sized t (shape_of bs) (λ z. bad (in_range_lem (shape_of bs) z.shape)))) refl

  refused_unless : (InRange (shape_of bs) → ⊥) → call_of t (shape_of bs) I L ≡ left (blank_answer 1 no_counts) L
  refused_unless bad = refused_left t (shape_of bs) I L OutOfRange (verdict bad)

  pub none_refused : length bs ≡ 0 → call_of t (shape_of bs) I L ≡ left (blank_answer 1 no_counts) L
  none_refused e = refused_unless (λ z. let l = z.some in omega (arith, l, e))

  pub many_refused : 8 < length bs → call_of t (shape_of bs) I L ≡ left (blank_answer 1 no_counts) L
  many_refused e = refused_unless (λ z. let l = z.few in omega (arith, l, e))
