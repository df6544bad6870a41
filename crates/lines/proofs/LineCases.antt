-- Lines by computation: the output of case J whole, a refusal, and a value line. Document 01, "The job and the program"; document 02, P5 and P9. Assumes nothing.
use mathlib.Core.Path.{◌≡◌, refl}
use mathlib.Core.List.{[], ◌∷◌}
use lib.Ieee.{nan, to_bits, of_bits}
use Rattle.base.specs.Number.{one_f}
use Rattle.model.specs.Account.{one_fit}
use Rattle.model.specs.Answer.{unfitted_answer}
use Rattle.model.specs.declared.ends.End.TheVariants.{NoStop}
use Rattle.text.specs.Hex.{hex_digit, hex_digits}
use Rattle.lines.specs.Decimals.{decimals, trimmed, decimal_of}
use Rattle.lines.specs.Lines.{pair_text, pairs_text, line_of, flag_of, account_pairs, tail_pairs, end_pairs, end_line, refused_line, value_line}

-- "end 13 order 0 disp 0 iters 0 fits 1 solves 0 tries 0 points 0 why 0 eta 0 mean 0 pwrss 0 ok 0"
pub case_j_line : end_line (unfitted_answer NoStop one_fit) ≡ 101 ∷ 110 ∷ 100 ∷ 32 ∷ 49 ∷ 51 ∷ 32 ∷ 111 ∷ 114 ∷ 100 ∷ 101 ∷ 114 ∷ 32 ∷ 48 ∷ 32 ∷ 100 ∷ 105 ∷ 115 ∷ 112 ∷ 32 ∷ 48 ∷ 32 ∷ 105 ∷ 116 ∷ 101 ∷ 114 ∷ 115 ∷ 32 ∷ 48 ∷ 32 ∷ 102 ∷ 105 ∷ 116 ∷ 115 ∷ 32 ∷ 49 ∷ 32 ∷ 115 ∷ 111 ∷ 108 ∷ 118 ∷ 101 ∷ 115 ∷ 32 ∷ 48 ∷ 32 ∷ 116 ∷ 114 ∷ 105 ∷ 101 ∷ 115 ∷ 32 ∷ 48 ∷ 32 ∷ 112 ∷ 111 ∷ 105 ∷ 110 ∷ 116 ∷ 115 ∷ 32 ∷ 48 ∷ 32 ∷ 119 ∷ 104 ∷ 121 ∷ 32 ∷ 48 ∷ 32 ∷ 101 ∷ 116 ∷ 97 ∷ 32 ∷ 48 ∷ 32 ∷ 109 ∷ 101 ∷ 97 ∷ 110 ∷ 32 ∷ 48 ∷ 32 ∷ 112 ∷ 119 ∷ 114 ∷ 115 ∷ 115 ∷ 32 ∷ 48 ∷ 32 ∷ 111 ∷ 107 ∷ 32 ∷ 48 ∷ 10 ∷ []
unfolding unfitted_answer decimals trimmed decimal_of pair_text pairs_text line_of flag_of tail_pairs account_pairs end_pairs end_line
case_j_line = refl

-- "refused 25 at 65536"
long_line : refused_line 25 65536 ≡ 114 ∷ 101 ∷ 102 ∷ 117 ∷ 115 ∷ 101 ∷ 100 ∷ 32 ∷ 50 ∷ 53 ∷ 32 ∷ 97 ∷ 116 ∷ 32 ∷ 54 ∷ 53 ∷ 53 ∷ 51 ∷ 54 ∷ 10 ∷ []
unfolding decimals trimmed decimal_of pair_text pairs_text line_of refused_line
long_line = refl

-- "phi 0 3FF0000000000000"
one_line : value_line (112 ∷ 104 ∷ 105 ∷ []) 0 one_f ≡ 112 ∷ 104 ∷ 105 ∷ 32 ∷ 48 ∷ 32 ∷ 51 ∷ 70 ∷ 70 ∷ 48 ∷ 48 ∷ 48 ∷ 48 ∷ 48 ∷ 48 ∷ 48 ∷ 48 ∷ 48 ∷ 48 ∷ 48 ∷ 48 ∷ 48 ∷ 10 ∷ []
unfolding decimals trimmed decimal_of pair_text value_line hex_digit hex_digits to_bits of_bits
one_line = refl

-- "NaN prints 7FF8000000000000"
nan_line : value_line (118 ∷ []) 10 nan ≡ 118 ∷ 32 ∷ 49 ∷ 48 ∷ 32 ∷ 55 ∷ 70 ∷ 70 ∷ 56 ∷ 48 ∷ 48 ∷ 48 ∷ 48 ∷ 48 ∷ 48 ∷ 48 ∷ 48 ∷ 48 ∷ 48 ∷ 48 ∷ 48 ∷ 10 ∷ []
unfolding decimals trimmed decimal_of pair_text value_line hex_digit hex_digits to_bits
nan_line = refl
