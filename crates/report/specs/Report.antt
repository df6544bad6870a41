-- All that is printed of one answer, as a list of bytes. Document 01, "The job and the program", its second paragraph: which lines there are, and in which order. Assumes nothing.
use Rattle.std.specs.Prelude.{cond, List, [], ◌∷◌, ◌++◌, ℕ, ◌+◌, ◌≤◌, eqb, Float, length}
use Rattle.base.specs.Sum.{◌!◌}
use Rattle.model.specs.Answer.{is_end}
use Rattle.model.specs.declared.ends.Answer.{Answer}
use Rattle.job.specs.Lists.{join_to}
use Rattle.lines.specs.Lines.{end_line, refused_line, value_line, Appended}
use Rattle.results.specs.Nine.{Results}

-- the line of entry i of a list
abbrev pub line_at : List ℕ → List Float → ℕ → List ℕ
line_at name xs i = value_line name i (xs ! i)

-- a list: a line for each entry, its index from 0
unfoldable pub value_lines : List ℕ → List Float → List ℕ
value_lines name xs = join_to (length xs) (line_at name xs)

-- beta, se, z
unfoldable pub fixed_lines : List Float → List Float → List Float → List ℕ
fixed_lines beta se z = value_lines (98 ∷ 101 ∷ 116 ∷ 97 ∷ []) beta ++ (value_lines (115 ∷ 101 ∷ []) se ++ value_lines (122 ∷ []) z)

-- u, b
unfoldable pub effect_lines : List Float → List Float → List ℕ
effect_lines u b = value_lines (117 ∷ []) u ++ value_lines (98 ∷ []) b

-- mu, eta, residual
unfoldable pub row_lines : List Float → List Float → List Float → List ℕ
row_lines mu eta residual =
    value_lines (109 ∷ 117 ∷ []) mu ++ (value_lines (101 ∷ 116 ∷ 97 ∷ []) eta ++ value_lines (114 ∷ 101 ∷ 115 ∷ 105 ∷ 100 ∷ 117 ∷ 97 ∷ 108 ∷ []) residual)

-- all nine, v the last
unfoldable pub result_lines : Results → List ℕ
result_lines R =
    fixed_lines R.beta R.se R.z ++ (effect_lines R.u R.b ++ (row_lines R.mu R.eta R.residual ++ value_lines (118 ∷ []) R.v))

-- a fitted call: the end line, deviance 0, phi 0, the results
unfoldable pub fitted_text : Answer → Results → List ℕ
fitted_text a R =
    end_line a ++ (value_line (100 ∷ 101 ∷ 118 ∷ 105 ∷ 97 ∷ 110 ∷ 99 ∷ 101 ∷ []) 0 a.deviance ++ (value_line (112 ∷ 104 ∷ 105 ∷ []) 0 a.phi ++ result_lines R))

-- by the answer's number: 0 is fitted; 10 to 13 have their end line alone; any other is a refusal of the table, told at byte 0
unfoldable pub answer_text : Answer → Results → List ℕ
answer_text a R = cond (eqb a.number 0) (fitted_text a R) (cond (is_end a.number) (end_line a) (refused_line a.number 0))

-- the results of a call in range are few
pub record Few (R : Results) : Type 0 where
  pub beta : length R.beta ≤ 16
  pub se : length R.se ≤ 16
  pub z : length R.z ≤ 16
  pub u : length R.u ≤ 32
  pub b : length R.b ≤ 32
  pub mu : length R.mu ≤ 512
  pub eta : length R.eta ≤ 512
  pub residual : length R.residual ≤ 512
  pub v : length R.v ≤ 256

-- the bytes that these results take at most: 1,904 lines of 64
abbrev pub results_most : ℕ
results_most = 121856

-- the bytes that a caller lends for what is printed of any answer
abbrev pub out_room : ℕ
out_room = 131072

-- a piece of at most so many bytes stands behind the first `at` bytes of the buffer, nothing else has changed, and r is where it ends
pub record Grown (piece : List ℕ) (most at : ℕ) (before : List ℕ) (r : ℕ) (after : List ℕ) : Type 0 where
  pub put : Appended piece at before r after
  pub few : r ≤ at + most
