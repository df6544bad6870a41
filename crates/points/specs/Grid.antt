-- The logarithms that a point's log weight is the sum of. Assumes nothing.
use Rattle.std.specs.Prelude.{List, ℕ, Float}
use Rattle.base.specs.Sum.{◌!◌}
use Rattle.elementary.specs.Log.{ln_of}

-- the logarithm of weight i
unfoldable pub log_at : List Float → ℕ → Float
log_at ws i = ln_of (ws ! i)
