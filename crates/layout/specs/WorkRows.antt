-- Where the rows of the work slice `rows` begin: ten rows of n numbers each. Its length: document 01, "Numbers of an answer", number 7. Assumes nothing.
use Rattle.std.specs.Prelude.{ℕ, ◌*◌}

-- the predictor stands in one of two rows, the candidate in the other
abbrev pub first_eta_row : ℕ
first_eta_row = 0

-- the other of the two
abbrev pub second_eta_row : ℕ → ℕ
second_eta_row n = n

-- the means: the start's, then the candidate's
abbrev pub mu_row : ℕ → ℕ
mu_row n = 2 * n

-- Zb, then the raw predictor
abbrev pub raw_row : ℕ → ℕ
raw_row n = 3 * n

-- Xβ
abbrev pub xbeta_row : ℕ → ℕ
xbeta_row n = 4 * n

-- the deviances at the mode
abbrev pub deviance_row : ℕ → ℕ
deviance_row n = 5 * n

-- Zb of a quadrature point
abbrev pub point_row : ℕ → ℕ
point_row n = 6 * n

-- the mark of a group's observations
abbrev pub mark_row : ℕ → ℕ
mark_row n = 7 * n

-- w·(z - offset)
abbrev pub weighted_row : ℕ → ℕ
weighted_row n = 8 * n

-- z - offset
abbrev pub working_row : ℕ → ℕ
working_row n = 10 * n

-- the room that the caller must lend; six rows of it stay unused
abbrev pub rows_length : ℕ → ℕ
rows_length n = 16 * n
