-- One answer: the contract of `verdict_of` is an equation with the table. Assumes nothing.
use Rattle.family.specs.declared.carried.CarriedFamily.{CarriedFamily}
use Rattle.family.specs.declared.carried.CarriedLink.{CarriedLink}
use Rattle.model.specs.declared.ends.Refusal.{Refusal}
use Rattle.std.specs.Prelude.{Result}
use mathlib.Core.Path.{◌≡◌}
use Prim.Native.Nat.{ℕ}
use Rattle.base.proofs.Unique.{one_value}
use Rattle.model.specs.declared.sizes.Shape.{Shape}
use Rattle.model.specs.declared.sizes.Settings.{Settings}
use Rattle.model.specs.Inputs.{Inputs}
use Rattle.table.specs.Table.{table_of}
use Rattle.table.specs.declared.verdicts.LentLengths.{LentLengths}

-- `verdict_of`
pub verdict_of_unique : (r : ℕ) (t : Settings) (s : Shape) (I : Inputs) (L : LentLengths) (a b : Result (CarriedFamily × CarriedLink) Refusal) → a ≡ table_of r t s I L → b ≡ table_of r t s I L → a ≡ b
verdict_of_unique r t s I L a b d e = one_value d e
