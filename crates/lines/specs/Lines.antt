-- The lines that the program prints, as lists of bytes, and what a buffer holds that one is written into. Document 01, "The job and the program", its second paragraph; document 02, P5, P9 and P1. Assumes nothing.
use Rattle.std.specs.Prelude.{◌≡◌, Bool, true, false, List, [], ◌∷◌, ◌++◌, ℕ, ◌+◌, ◌≤◌, Float, length, take}
use Rattle.std.specs.Float.Ieee.{to_bits}
use Rattle.std.specs.Float.{binary64}
use Rattle.model.specs.declared.counts.Account.{Account}
use Rattle.model.specs.declared.ends.Answer.{Answer}
use Rattle.text.specs.Hex.{hex_digits}
use Rattle.job.specs.Lists.{laid}
use Rattle.lines.specs.Decimals.{decimal_of}

-- a name and its number
pub record Pair : Type 0 where
  pub name : List ℕ
  pub num : ℕ

-- the pair of a name w and a number n
abbrev pub pair : List ℕ → ℕ → Pair
pair w n = record { name = w; num = n }

-- the name, a blank, the number
unfoldable pub pair_text : List ℕ → ℕ → List ℕ
pair_text w n = w ++ (32 ∷ decimal_of n)

-- pairs, each behind a blank, and the end of the line
unfoldable pub pairs_text : List Pair → List ℕ
pairs_text [] = 10 ∷ []
pairs_text (p ∷ ps) = pair_text (32 ∷ p.name) p.num ++ pairs_text ps

-- a line of pairs
unfoldable pub line_of : List Pair → List ℕ
line_of [] = 10 ∷ []
line_of (p ∷ ps) = pair_text p.name p.num ++ pairs_text ps

-- 1 or 0
unfoldable pub flag_of : Bool → ℕ
flag_of true = 1
flag_of false = 0

-- fits, solves, tries, points, then the rest
unfoldable pub account_pairs : Account → List Pair → List Pair
account_pairs a rest =
    pair (102 ∷ 105 ∷ 116 ∷ 115 ∷ []) a.fits
    ∷ pair (115 ∷ 111 ∷ 108 ∷ 118 ∷ 101 ∷ 115 ∷ []) a.solves
    ∷ pair (116 ∷ 114 ∷ 105 ∷ 101 ∷ 115 ∷ []) a.tries
    ∷ pair (112 ∷ 111 ∷ 105 ∷ 110 ∷ 116 ∷ 115 ∷ []) a.points
    ∷ rest

-- what document 02 appends to the line: why, and of the tries eta, mean, pwrss and ok
unfoldable pub tail_pairs : Answer → List Pair
tail_pairs a =
    pair (119 ∷ 104 ∷ 121 ∷ []) a.why
    ∷ pair (101 ∷ 116 ∷ 97 ∷ []) a.account.eta
    ∷ pair (109 ∷ 101 ∷ 97 ∷ 110 ∷ []) a.account.mean
    ∷ pair (112 ∷ 119 ∷ 114 ∷ 115 ∷ 115 ∷ []) a.account.pwrss
    ∷ pair (111 ∷ 107 ∷ []) a.account.ok
    ∷ []

-- the bytes that these pairs and the end of the line take at most
abbrev pub tail_most : ℕ
tail_most = 128

-- the end line as pairs
unfoldable pub end_pairs : Answer → List Pair
end_pairs a =
    pair (101 ∷ 110 ∷ 100 ∷ []) a.number
    ∷ pair (111 ∷ 114 ∷ 100 ∷ 101 ∷ 114 ∷ []) a.order
    ∷ pair (100 ∷ 105 ∷ 115 ∷ 112 ∷ []) (flag_of a.converged)
    ∷ pair (105 ∷ 116 ∷ 101 ∷ 114 ∷ 115 ∷ []) a.iterations
    ∷ account_pairs a.account (tail_pairs a)

-- the end line: `end` and the number, then the rest of its pairs
unfoldable pub end_line : Answer → List ℕ
end_line a = line_of (end_pairs a)

-- "`refused R at B`"
unfoldable pub refused_line : ℕ → ℕ → List ℕ
refused_line r b = line_of (pair (114 ∷ 101 ∷ 102 ∷ 117 ∷ 115 ∷ 101 ∷ 100 ∷ []) r ∷ pair (97 ∷ 116 ∷ []) b ∷ [])

-- "a line `response I`": the line over what is printed of response i, from 0 on
unfoldable pub response_line : ℕ → List ℕ
response_line i = line_of (pair (114 ∷ 101 ∷ 115 ∷ 112 ∷ 111 ∷ 110 ∷ 115 ∷ 101 ∷ []) i ∷ [])

-- a value line: name, index and the digits of the double; NaN has the one pattern 7FF8000000000000
unfoldable pub value_line : List ℕ → ℕ → Float → List ℕ
value_line w i x = pair_text w i ++ (32 ∷ hex_digits 16 (to_bits binary64 x) ++ (10 ∷ []))

-- the piece stands behind the first `at` bytes of the buffer, nothing else has changed, and r is where it ends
pub record Appended (piece : List ℕ) (at : ℕ) (before : List ℕ) (r : ℕ) (after : List ℕ) : Type 0 where
  pub ends : r ≡ at + length piece
  pub text : after ≡ laid (take at before ++ piece) before

-- the same of a pair, which is at most 21 bytes longer than its name
pub record Paired (w : List ℕ) (n at : ℕ) (before : List ℕ) (r : ℕ) (after : List ℕ) : Type 0 where
  pub piece : Appended (pair_text w n) at before r after
  pub few : r ≤ at + length w + 21

-- the line stands in the front of the buffer, nothing else has changed, and r is its length
abbrev pub Written : List ℕ → List ℕ → ℕ → List ℕ → Type 0
Written line before r after = (r ≡ length line) × (after ≡ laid line before)
