-- How long a line can be: a number has at most 20 digits. Assumes nothing.
use mathlib.Core.Path.{◌≡◌, refl, ◌∙◌}
use mathlib.Core.List.{List, [], ◌∷◌, ◌++◌}
use Prim.Native.Nat.{ℕ, zero, suc, ◌+◌, ◌≤◌, ◌/◌, ◌%◌}
use native.Mathlib.Omega.{arith}
use lib.Ieee.{Float, to_bits, binary64}
use lib.ListN.{length, length-append}
use Rattle.model.specs.declared.ends.Answer.{Answer}
use Rattle.text.specs.Hex.{hex_digit, hex_digits}
use Rattle.lines.specs.Lines.{Pair, pair_text, pairs_text, line_of, flag_of, account_pairs, tail_pairs, end_pairs, end_line, value_line}
use Rattle.lines.proofs.Pieces.{pair_few}

hex_length : (k n : ℕ) → length (hex_digits k n) ≡ k
unfolding hex_digits
hex_length zero n = refl
hex_length (suc k) n = length-append (hex_digits k (n / 16)) (hex_digit (n % 16) ∷ []) ∙ rw (hex_length k (n / 16)) (omega arith)

-- 16 digits, two blanks and the end of the line beside name and index
pub value_few : (w : List ℕ) (i : ℕ) (x : Float) → length w ≤ 16 → length (value_line w i x) ≤ 64
unfolding value_line
value_few w i x h =
    let digits = hex_digits 16 (to_bits binary64 x) in
    omega (arith, length-append (pair_text w i) (32 ∷ digits ++ (10 ∷ [])), length-append digits (10 ∷ []), hex_length 16 (to_bits binary64 x), pair_few w i)

-- the most bytes of pairs and the end of their line
pairs_most : List Pair → ℕ
pairs_most [] = 1
pairs_most (p ∷ ps) = length p.name + 22 + pairs_most ps

pairs_few : (ps : List Pair) → length (pairs_text ps) ≤ pairs_most ps
unfolding pairs_text pairs_most
pairs_few [] = omega arith
pairs_few (p ∷ ps) = omega (arith, length-append (pair_text (32 ∷ p.name) p.num) (pairs_text ps), pair_few (32 ∷ p.name) p.num, pairs_few ps)

-- thirteen pairs
pub end_few : (a : Answer) → length (end_line a) ≤ 341
unfolding line_of end_pairs account_pairs tail_pairs end_line pairs_most
end_few a =
    let w : List ℕ = 101 ∷ 110 ∷ 100 ∷ [] in
    let rest : List Pair = record { name = 111 ∷ 114 ∷ 100 ∷ 101 ∷ 114 ∷ []; num = a.order } ∷ record { name = 100 ∷ 105 ∷ 115 ∷ 112 ∷ []; num = flag_of a.converged }
    ∷ record { name = 105 ∷ 116 ∷ 101 ∷ 114 ∷ 115 ∷ []; num = a.iterations } ∷ account_pairs a.account (tail_pairs a) in
    omega (arith, length-append (pair_text w a.number) (pairs_text rest), pair_few w a.number, pairs_few rest)
