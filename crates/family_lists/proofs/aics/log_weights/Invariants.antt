-- `family_lists::log_weights` meets its contract: before each weight the sum is that of those before it.
use Rattle.std.proofs.Common.{◌≡◌}
use Rattle.base.specs.Sum.{sum_where}
use Rattle.family_lists.specs.Aic.{above_zero_at, ln_at}
use Rattle.family_lists.proofs.aics.log_weights.Given as goal

abbrev pub invariant-loop-w : goal.invariant-loop-w
invariant-loop-w l = l.sum ≡ sum_where l.w-index (above_zero_at l.wt) (ln_at l.wt)
