-- Laws of one entry of a row, as the loops make it. Assumes nothing.
use mathlib.Core.Path.{◌≡◌, sym, ◌∙◌}
use mathlib.Core.Logic.{inl, inr, ⊎_elim}
use mathlib.Core.List.{List}
use Prim.Native.Nat.{ℕ, ◌+◌, ◌*◌, ◌<◌, ◌≤◌}
use native.Mathlib.Omega.{arith}
use lib.ListN.{length}
use lib.Ieee.{Float}
use Rattle.base.specs.Number.{◌⊕◌}
use Rattle.base.specs.Sum.{◌!◌, sum_to, product_from}
use Rattle.base.specs.List.{fill_to, fill_at}
use Rattle.base.proofs.Fills.{fill_past}
use Rattle.base.specs.Rows.{row, Apart}
use Rattle.base.proofs.Rows.{row_at, fillat_read}
use Rattle.family.specs.Link.{link_fun}
use Rattle.family.specs.Family.{dev_resid}
use Rattle.family.specs.declared.carried.CarriedFamily.{CarriedFamily}
use Rattle.family.specs.declared.carried.CarriedLink.{CarriedLink}
use Rattle.family_lists.specs.Lists.{weight_at, dev_resid_at}
use Rattle.rule.specs.Given.{plus_offset}
use Rattle.rule.specs.Solve.{raw_at}
use Rattle.rule.specs.Run.{start_eta_at}
use Rattle.working.specs.Optional.{Optional}

-- a list that may be absent has an entry for each of the observations, where it is not
pub optional_at : (n i : ℕ) (l : List Float) → Optional n l → i < n → Optional (i + 1) l
optional_at n i l o h = ⊎_elim (λ (e : length l ≡ 0). inl e) (λ (m : n ≤ length l). inr (omega arith)) o

-- the raw predictor at an observation whose entry of Zb is still there
pub raw_entry : (offset x : List Float) (p : ℕ) (beta b s : List Float) (i o : ℕ) (d : Float) → s ≡ fill_to i (raw_at offset x p beta b) b → o ≡ i * p → d ≡ sum_to p (product_from x o beta)
    → plus_offset offset i (d ⊕ (s ! i)) ≡ raw_at offset x p beta b i
unfolding raw_at
raw_entry offset x p beta b s i o d e eo ed =
    rw (ed, eo, e, fill_past i (raw_at offset x p beta b) b i (omega arith))

-- two rows, when the test of the loop that fills them fails
pub both_end : (a c : ℕ) (f g : ℕ → Float) (b : List Float) (i n : ℕ) (s : List Float) → s ≡ fill_at c i g (fill_at a i f b) → i ≤ n → n ≤ i → s ≡ fill_at c n g (fill_at a n f b)
both_end a c f g b i n s e l m = let q : i ≡ n = omega arith in rw (← q) e

-- while the row at b is filled, an entry of the row at c is as it was before
row_read : (c b n i : ℕ) (f : ℕ → Float) (v w : List Float) → Apart c n b n → c + n ≤ length v → i < n → w ≡ fill_at b i f v → w ! (c + i) ≡ row c n v ! i
row_read c b n i f v w a h l e = fillat_read c n b n i i f v w a (omega arith) l e ∙ sym (row_at c n v h i l)

-- the starting predictor at an observation whose mean stands in another row
pub eta_entry : (link : CarriedLink) (offset : List Float) (c b n i : ℕ) (v w : List Float) (x : Float) → Apart c n b n → c + n ≤ length v → i < n
    → w ≡ fill_at b i (start_eta_at link offset (row c n v)) v → x ≡ link_fun link (w ! (c + i)) → plus_offset offset i x ≡ start_eta_at link offset (row c n v) i
unfolding start_eta_at
eta_entry link offset c b n i v w x a h l e ex =
    rw (ex, row_read c b n i (start_eta_at link offset (row c n v)) v w a h l e)

-- the deviance of a response whose mean stands in another row
pub deviance_entry : (family : CarriedFamily) (y weights : List Float) (c b n i : ℕ) (v w : List Float) (wt : Float) → Apart c n b n → c + n ≤ length v → i < n
    → w ≡ fill_at b i (dev_resid_at family y (row c n v) weights) v → wt ≡ weight_at weights i → dev_resid family (y ! i) (w ! (c + i)) wt ≡ dev_resid_at family y (row c n v) weights i
unfolding dev_resid_at
deviance_entry family y weights c b n i v w wt a h l e ew =
    rw (ew, row_read c b n i (dev_resid_at family y (row c n v) weights) v w a h l e)
