-- `family_lists::mean_at` meets its contract: within the list the entry, past its end NaN.
use lib.Ieee.{of_bits}
use Rattle.std.proofs.Common.{rules}
use Rattle.family_lists.proofs.aics.mean_at.Goals as goal

pub returns : goal.returns
unfolding of_bits
returns c = search rules
