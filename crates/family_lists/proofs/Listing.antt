-- Laws of the list functions: what one turn writes, and that the means are as many as the responses. Assumes nothing.
use Rattle.std.proofs.Common.{◌≡◌, ℕ, ◌+◌, true, eqb, List, set, sym, eqb-true}
use lib.Ieee.{Float}
use Rattle.base.specs.Sum.{◌!◌}
use Rattle.base.specs.List.{fill_to}
use Rattle.base.proofs.Fills.{fill_step}
use Rattle.base.proofs.Sums.{and_true}
use Rattle.family_lists.specs.Lists.{each, lengths_agree}

-- ---- one entry more
pub each_step : (f : Float → Float) (xs b : List Float) (i : ℕ) (s : List Float) (x : Float)
    → x ≡ f (xs ! i) → s ≡ fill_to i (each f xs) b → set s i x ≡ fill_to (i + 1) (each f xs) b
unfolding each
each_step f xs b i s x h e = rw h (fill_step (each f xs) b i s e)

-- ---- where the lengths agree, the means are as many as the responses
pub agree_means : (n m w : ℕ) → lengths_agree n m w ≡ true → m ≡ n
unfolding lengths_agree
agree_means n m w h = eqb-true m n (sym (and_true (eqb m n) _ (sym h)).0)
