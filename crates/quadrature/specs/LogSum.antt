-- The logarithm of a sum of exponentials, with the largest taken out. Document 01, module 2 (`log_sum_exp`). Assumes nothing.
use Rattle.std.specs.Prelude.{List, true, cond, ℕ, zero, suc, length, Float}
use Rattle.std.specs.Float.{inf}
use Rattle.base.specs.Number.{◌⊕◌, ◌⊖◌, finite, max_f}
use Rattle.base.specs.Sum.{◌!◌, sum_to}
use Rattle.elementary.specs.Exp.{exp_of}
use Rattle.elementary.specs.Log.{ln_of}

-- the largest of the first n entries by Rust's max, from -infinity
unfoldable pub max_to : ℕ → List Float → Float
max_to zero xs = inf true
max_to (suc n) xs = max_f (max_to n xs) (xs ! n)

-- exp (x_i - m)
unfoldable pub exp_term : List Float → Float → ℕ → Float
exp_term xs m i = exp_of ((xs ! i) ⊖ m)

-- m + ln Σ exp (x_i - m), and -infinity where m is not finite
unfoldable pub log_sum_at : List Float → Float → Float
log_sum_at xs m = cond (finite m) (m ⊕ ln_of (sum_to (length xs) (exp_term xs m))) (inf true)

-- `log_sum_exp`: m is the largest entry
unfoldable pub log_sum_exp : List Float → Float
log_sum_exp xs = log_sum_at xs (max_to (length xs) xs)
