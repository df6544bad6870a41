-- One answer, one content: every contract of this crate is an equation with its definition, which leaves one value, but those of the list functions, which are a record. Assumes nothing.
use Rattle.family_lists.specs.declared.lists.ListError.{ListError}
use Rattle.family_lists.specs.declared.lists.ListError.TheVariants.{LengthsDiffer}
use Rattle.std.specs.Prelude.{Result, Ok, Err, ⊤}
use Rattle.std.proofs.Common.{◌≡◌, ℕ, Bool, List, sym, refl, ◌∙◌, arith}
use lib.Ieee.{Float}
use Rattle.family_lists.specs.Lists.{Listed, list_number}

-- the number tells the answer
by_number : (r s : Result ⊤ ListError) → list_number r ≡ list_number s → r ≡ s
by_number (Ok a) (Ok b) e = refl
by_number (Ok a) (Err LengthsDiffer) e = let never : ⊥ = omega arith in absurd never
by_number (Err LengthsDiffer) (Ok b) e = let never : ⊥ = omega arith in absurd never
by_number (Err LengthsDiffer) (Err LengthsDiffer) e = refl

-- a list function leaves one answer and one output
pub listed_unique : (agree : Bool) (n : ℕ) (f : ℕ → Float) (before a b : List Float) (r s : Result ⊤ ListError)
    → Listed agree n f before a r → Listed agree n f before b s → (r ≡ s) × (a ≡ b)
listed_unique agree n f before a b r s p q = (by_number r s (p.number ∙ sym q.number), p.output ∙ sym q.output)
