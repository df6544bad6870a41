-- One turn of each pass over the observations. Assumes nothing.
use mathlib.Core.Path.{◌≡◌, refl, sym, ◌∙◌}
use mathlib.Core.List.{List}
use mathlib.Core.Bool.{Bool}
use Prim.Native.Nat.{ℕ, ◌+◌, ◌-◌, ◌≤◌, ◌<◌}
use native.Mathlib.Numerals.{add-one}
use native.Mathlib.Omega.{arith}
use lib.ListN.{length, set, take, drop}
use lib.Ieee.{Float}
use Rattle.base.specs.Number.{◌⊕◌, ◌⊖◌, ◌⊗◌}
use Rattle.base.specs.Sum.{◌!◌, all_to, finite_at}
use Rattle.base.specs.List.{fill_at}
use Rattle.base.specs.Rows.{row, Apart}
use Rattle.base.proofs.Fills.{fillat_step}
use Rattle.base.proofs.Rows.{row_at, part_row, fillat_read}
use Rattle.family.specs.Link.{link_inv}
use Rattle.family.specs.declared.carried.CarriedLink.{CarriedLink}
use Rattle.rule.specs.Try.{candidate_at, fine_eta, fine_eta_at, mean_at, add_to}

-- while the row at b is filled, a row apart from it is read as it was
pub row_read : (c b n i : ℕ) (f : ℕ → Float) (v w : List Float) → c + n ≤ length v → Apart c n b n → i < n → w ≡ fill_at b i f v → w ! (c + i) ≡ row c n v ! i
row_read c b n i f v w h a l e = fillat_read c n b n i i f v w a (omega arith) l e ∙ sym (row_at c n v h i l)

-- one entry of the candidate
pub candidate_step : (n prev next raw i : ℕ) (step : Float) (v w : List Float) → prev + n ≤ length v → raw + n ≤ length v → Apart prev n next n → Apart raw n next n → i < n
    → w ≡ fill_at next i (candidate_at (row prev n v) (row raw n v) step) v
    → set w (next + i) ((w ! (prev + i)) ⊕ (((w ! (raw + i)) ⊖ (w ! (prev + i))) ⊗ step)) ≡ fill_at next (i + 1) (candidate_at (row prev n v) (row raw n v) step) v
unfolding candidate_at
candidate_step n prev next raw i step v w hp hr ap ar l e =
    rw (row_read prev next n i (candidate_at (row prev n v) (row raw n v) step) v w hp ap l e, row_read raw next n i (candidate_at (row prev n v) (row raw n v) step) v w hr ar l e)
    (fillat_step next (candidate_at (row prev n v) (row raw n v) step) v i w e)

-- one mean
pub mean_step : (link : CarriedLink) (n next mu i : ℕ) (m : Float) (v w : List Float) → next + n ≤ length v → Apart next n mu n → i < n
    → w ≡ fill_at mu i (mean_at link (row next n v)) v → m ≡ link_inv link (w ! (next + i)) → set w (mu + i) m ≡ fill_at mu (i + 1) (mean_at link (row next n v)) v
unfolding mean_at
mean_step link n next mu i m v w h a l e g =
    rw (g, row_read next mu n i (mean_at link (row next n v)) v w h a l e) (fillat_step mu (mean_at link (row next n v)) v i w e)

-- the test of one eta
pub fine_at : (link : CarriedLink) (n next i : ℕ) (v : List Float) (r t : Bool) → next + n ≤ length v → i < n → r ≡ fine_eta link (v ! (next + i)) → r ≡ t → fine_eta_at link (row next n v) i ≡ t
fine_at link n next i v r t h l e g = rw (row_at next n v h i l) (sym e ∙ g)

-- the test of a lent part is that of the row
pub finite_part : (n at : ℕ) (v : List Float) (r : Bool) → r ≡ all_to n (finite_at (take (at + n - at) (drop at v))) → r ≡ all_to n (finite_at (row at n v))
finite_part n at v r e = rw (part_row at n v) at e

-- ---- what is added to a first number
pub add_none : (s : Float) (f : ℕ → Float) → s ≡ add_to 0 s f
unfolding add_to
add_none s f = refl

pub add_step : (s : Float) (f : ℕ → Float) (k : ℕ) (t : Float) → t ≡ add_to k s f → t ⊕ f k ≡ add_to (k + 1) s f
unfolding add_to
add_step s f k t e = rw (e, add-one) refl

pub add_end : (s : Float) (f : ℕ → Float) (k n : ℕ) (t : Float) → t ≡ add_to k s f → k ≤ n → n ≤ k → t ≡ add_to n s f
add_end s f k n t e l m = let q : k ≡ n = omega arith in rw (← q) e
