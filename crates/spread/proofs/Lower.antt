-- Entry i of L z ends at the diagonal: a finite z adds only zeros past it. Assumes nothing.
use mathlib.Core.Path.{◌≡◌, refl, sym, ◌∙◌}
use mathlib.Core.Bool.{true}
use mathlib.Core.List.{List}
use Prim.Native.Nat.{ℕ, ◌+◌, ◌*◌, ◌<◌}
use native.Mathlib.Omega.{arith}
use borrow.Author.Tests.{le-leb, lt-leb}
use lib.Ieee.{Float, binary64}
use lib.Ieee.Fits.{mul-fits}
use Rattle.base.specs.Sum.{◌!◌, sum_to, all_to, finite_at, product_from}
use Rattle.base.proofs.Sums.{sum_cong, all_at}
use Rattle.spread.specs.Spread.{lower_at, spread_term, spread_at}
use Rattle.spread.proofs.AddZero.{zero_times, zeros_after}

pub to_the_diagonal : (k : ℕ) (L z : List Float) (i : ℕ) → i < k → all_to k (finite_at z) ≡ true → sum_to (i + 1) (product_from L (i * k) z) ≡ spread_at k L z i
unfolding spread_at spread_term lower_at
to_the_diagonal k L z i l h =
    sum_cong (i + 1) (product_from L (i * k) z) (spread_term k L z i) (λ j m. rw (le-leb j i (omega arith)) refl)
    ∙ sym (zeros_after (spread_term k L z i) (λ j. mul-fits binary64 (lower_at k L i j) (z ! j)) (i + 1) k (omega arith)
    (λ j m n. rw (lt-leb j i (omega arith)) (zero_times (z ! j) (all_at (finite_at z) k (sym h) j n))))
