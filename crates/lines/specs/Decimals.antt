-- Counts in decimal. Document 01, "The job and the program": the numbers of the end line, and an index from 0. Assumes nothing.
use Rattle.std.specs.Prelude.{cond, List, [], ◌∷◌, ◌++◌, ℕ, zero, suc, ◌+◌, ◌/◌, ◌%◌, eqb}

-- the last k decimal digits of n, the highest first
unfoldable pub decimals : ℕ → ℕ → List ℕ
decimals zero n = []
decimals (suc k) n = decimals k (n / 10) ++ ((48 + n % 10) ∷ [])

-- without the zeros in front, but for the last digit
unfoldable pub trimmed : List ℕ → List ℕ
trimmed [] = []
trimmed (d ∷ []) = d ∷ []
trimmed (d ∷ e ∷ ds) = cond (eqb d 48) (trimmed (e ∷ ds)) (d ∷ e ∷ ds)

-- a count of 64 bits, which has at most 20 digits
unfoldable pub decimal_of : ℕ → List ℕ
decimal_of n = trimmed (decimals 20 n)
