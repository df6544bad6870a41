-- The length of the buffer of results that a caller must lend, and 0 where the sizes are not carried. Document 01, "What the port carries", its sizes. Assumes nothing.
use Rattle.std.specs.Prelude.{ℕ}
use Rattle.lengths.specs.Asked.{when_in}
use Rattle.jobfit.specs.Done.{results_length}

-- the length of `results` for n observations, p columns of X and q effects
abbrev pub results_asked : ℕ → ℕ → ℕ → ℕ
results_asked n p q = when_in 512 n (when_in 16 p (when_in 32 q (results_length n p q)))
