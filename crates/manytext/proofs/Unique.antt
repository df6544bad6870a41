-- One answer, one content: what was read leaves one list of pieces, one content of the lent results and counts, and each piece one text. Assumes nothing.
use mathlib.Core.Path.{◌≡◌, ap}
use mathlib.Core.List.{List}
use Prim.Native.Nat.{ℕ}
use lib.Ieee.{Float}
use Rattle.base.proofs.Unique.{one_value}
use Rattle.model.specs.declared.sizes.Settings.{Settings}
use Rattle.lines.specs.Lines.{Written}
use Rattle.lines.proofs.Unique.{line_unique}
use Rattle.manytext.specs.declared.pieces.Pieces.{Pieces}
use Rattle.manytext.specs.Text.{response_text}
use Rattle.manytext.specs.Pieces.{Fitted, fitted, piece_text}

-- `fit_input`, with fit_input_of for f
pub input_unique : (f : Fitted) (a b : Pieces) (R Q : List Float) (C D : List ℕ) → fitted a R C ≡ f → fitted b Q D ≡ f → (a ≡ b) × ((R ≡ Q) × (C ≡ D))
input_unique f a b R Q C D p q =
    let same : fitted a R C ≡ fitted b Q D = one_value p q in
    (ap (λ (x : Fitted). x.pieces) same, (ap (λ (x : Fitted). x.results) same, ap (λ (x : Fitted). x.counts) same))

-- `put_piece`
pub piece_unique : (p : Pieces) (i : ℕ) (counts : List ℕ) (results : List Float) (before a b : List ℕ) (r t : ℕ) → Written (piece_text p counts results i) before r a → Written (piece_text p counts results i) before t b → (r ≡ t) × (a ≡ b)
piece_unique p i counts results before a b r t x y = line_unique (piece_text p counts results i) before a b r t x y

-- `put_response`
pub response_unique : (i : ℕ) (t : Settings) (counts : List ℕ) (results : List Float) (before a b : List ℕ) (r k : ℕ) → Written (response_text i t counts results) before r a → Written (response_text i t counts results) before k b → (r ≡ k) × (a ≡ b)
response_unique i t counts results before a b r k x y = line_unique (response_text i t counts results) before a b r k x y
