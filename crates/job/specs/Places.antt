-- How many numbers a job holds and where they stand, as records, and what has been tested before they are looked at. Assumes nothing.
use Rattle.std.specs.Prelude.{◌≡◌, true, List, ℕ, ◌*◌, ◌≤◌, length}
use Rattle.job.specs.declared.sizes.Counts.{Counts}
use Rattle.job.specs.declared.sizes.Places.{Places}
use Rattle.job.specs.Format.{weighted, shifted, obs, cols, rows_in, thetas, sizes_fit, theta_at, y_at, weights_at, offset_at, x_at, z_at}

-- how many numbers of each kind
abbrev pub counts_of : List ℕ → Counts
counts_of s =
    record { n = obs s; q = rows_in s; thetas = thetas s; weights = weighted s * obs s; offset = shifted s * obs s; x = obs s * cols s }

-- at which byte each list begins
abbrev pub places_of : List ℕ → Places
places_of s = record { theta = theta_at s; y = y_at s; weights = weights_at s; offset = offset_at s; x = x_at s; z = z_at s }

-- the counts of a job of fitting sizes are small
pub record CountsFew (c : Counts) : Type 0 where
  pub n_few : c.n ≤ 512
  pub q_few : c.q ≤ 32
  pub thetas_few : c.thetas ≤ 288
  pub weights_few : c.weights ≤ 512
  pub offset_few : c.offset ≤ 512
  pub x_few : c.x ≤ 8192

-- the header and the blocks are there, in a job of at most 65,536 bytes
abbrev pub Blocked : List ℕ → Type 0
Blocked s = (length s ≤ 65536) × (theta_at s ≤ length s)

-- and all sizes are in range
abbrev pub Fitting : List ℕ → Type 0
Fitting s = Blocked s × (sizes_fit s ≡ true)
