-- One answer, one content: a line's text and the buffer it is written into leave one place and one content. Assumes nothing.
use mathlib.Core.Path.{◌≡◌}
use mathlib.Core.List.{List}
use Prim.Native.Nat.{ℕ}
use Rattle.base.proofs.Unique.{one_value}
use Rattle.lines.specs.Lines.{Appended, Written}

-- `end_line`, `refused_line`, `value_line`
pub line_unique : (line before a b : List ℕ) (r t : ℕ) → Written line before r a → Written line before t b → (r ≡ t) × (a ≡ b)
line_unique line before a b r t p q = (one_value p.0 q.0, one_value p.1 q.1)

-- the pieces of a line
pub piece_unique : (piece before a b : List ℕ) (at r t : ℕ) → Appended piece at before r a → Appended piece at before t b → (r ≡ t) × (a ≡ b)
piece_unique piece before a b at r t p q = (one_value p.ends q.ends, one_value p.text q.text)
