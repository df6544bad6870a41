-- Lists that may be absent. Document 01, "What the port carries": an absent weights or offset list is empty. Assumes nothing.
use Rattle.std.specs.Prelude.{◌≡◌, List, ◌⊎◌, ℕ, ◌≤◌, length, Float}

-- the list is absent, or has an entry for each of n observations
abbrev pub Optional : ℕ → List Float → Type 0
Optional n l = (length l ≡ 0) ⊎ (n ≤ length l)
