-- Digits of a number, as a loop takes them off. Assumes nothing.
use mathlib.Core.Path.{◌≡◌, sym}
use Prim.Native.Nat.{ℕ, ◌+◌, ◌/◌, ◌%◌, ◌^◌}
use native.Mathlib.Nat.{div-one, div-div-eq-div-mul, pow-zero, pow-suc}
use native.Mathlib.Numerals.{add-one}
use mathlib.Core.List.{List}
use lib.ListN.{set}
use lib.Ieee.{Float}
use Rattle.base.specs.Number.{◌⊕◌}
use Rattle.base.specs.Sum.{◌!◌, sum_to}
use Rattle.base.specs.List.{fill_at}
use Rattle.base.proofs.Sums.{sum_step}
use Rattle.base.proofs.Fills.{fillat_step}
use Rattle.agq_rule.specs.Point.{digit_entry}

-- before the first nothing is taken off
pub rest_all : (b t : ℕ) → t ≡ t / b ^ 0
rest_all b t = rw (pow-zero b) (sym (div-one t))

-- and one more
pub rest_step : (b t j r : ℕ) → r ≡ t / b ^ j → r / b ≡ t / b ^ (j + 1)
rest_step b t j r e = rw (e, add-one, pow-suc) (div-div-eq-div-mul t (b ^ j) b)

-- the node of one dimension more is written
pub node_step : (nodes : List Float) (b t j r z : ℕ) (v w : List Float) → r ≡ t / b ^ j → w ≡ fill_at z j (digit_entry nodes b t) v → set w (z + j) (nodes ! (r % b)) ≡ fill_at z (j + 1) (digit_entry nodes b t) v
unfolding digit_entry
node_step nodes b t j r z v w e x = rw e (fillat_step z (digit_entry nodes b t) v j w x)

-- the logarithm of one dimension more is added
pub log_step : (logs : List Float) (b t j r : ℕ) (s : Float) → r ≡ t / b ^ j → s ≡ sum_to j (digit_entry logs b t) → s ⊕ (logs ! (r % b)) ≡ sum_to (j + 1) (digit_entry logs b t)
unfolding digit_entry
log_step logs b t j r s e q = rw e (sum_step (digit_entry logs b t) j s q)
