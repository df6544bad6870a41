-- The row of means, entry after entry, and what an observation adds to dd, by its mark. Assumes nothing.
use mathlib.Core.Path.{◌≡◌, refl, sym, ◌∙◌}
use mathlib.Core.List.{List}
use mathlib.Core.Bool.{true, false}
use Prim.Native.Nat.{ℕ, ◌+◌, ◌<◌, ◌≤◌}
use native.Mathlib.Omega.{arith}
use lib.ListN.{length, set}
use lib.Ieee.{Float, lt}
use Rattle.base.specs.Number.{◌⊕◌, ◌⊖◌, zero_f}
use Rattle.base.specs.Sum.{◌!◌, add_where}
use Rattle.base.specs.List.{fill_at}
use Rattle.base.specs.Rows.{row, Apart}
use Rattle.base.proofs.Fills.{fillat_step, fillat_above, length_fillat}
use Rattle.base.proofs.Rows.{row_at}
use Rattle.family.specs.Link.{link_inv}
use Rattle.family.specs.Family.{dev_resid}
use Rattle.family.specs.declared.carried.CarriedFamily.{CarriedFamily}
use Rattle.family.specs.declared.carried.CarriedLink.{CarriedLink}
use Rattle.family_lists.specs.Lists.{weight_at}
use Rattle.rule.specs.Given.{plus_offset}
use Rattle.points.specs.Gain.{marked, mean_over, entered}
use Rattle.points.proofs.Kept.{kept_entry}

-- ---- a mean
module _ (link : CarriedLink) (offset : List Float) (n xb zb mk : ℕ) (r : List Float) (i : ℕ) (l : i < n) (hz : zb + n ≤ length r) (hm : mk + n ≤ length r) where
  pub mean_skipped : lt zero_f (r ! (mk + i)) ≡ false → r ! (zb + i) ≡ mean_over link offset (row xb n r) (row zb n r) (row mk n r) i
  unfolding mean_over marked
  mean_skipped t = rw (row_at mk n r hm i l, t, row_at zb n r hz i l) refl

  pub mean_taken : (eta mu : Float) → xb + n ≤ length r → lt zero_f (r ! (mk + i)) ≡ true → eta ≡ plus_offset offset i ((r ! (xb + i)) ⊕ (r ! (zb + i))) → mu ≡ link_inv link eta
      → mu ≡ mean_over link offset (row xb n r) (row zb n r) (row mk n r) i
  unfolding mean_over marked
  mean_taken eta mu hx t e m = m ∙ rw (row_at mk n r hm i l, t, row_at zb n r hz i l, row_at xb n r hx i l, e) refl

-- an entry of the row of means looks at its own entries alone
mean_same : (link : CarriedLink) (offset xb xb' zb zb' mk mk' : List Float) (i : ℕ) → xb ! i ≡ xb' ! i → zb ! i ≡ zb' ! i → mk ! i ≡ mk' ! i → mean_over link offset xb zb mk i ≡ mean_over link offset xb' zb' mk' i
unfolding mean_over marked
mean_same link offset xb xb' zb zb' mk mk' i e f g = rw (e, f, g) refl

-- one mean more
pub means_step : (link : CarriedLink) (offset : List Float) (n xb zb mk i : ℕ) (v w : List Float) (x : Float) → xb + n ≤ length v → zb + n ≤ length v → mk + n ≤ length v → Apart xb n zb n → Apart mk n zb n → i < n
    → w ≡ fill_at zb i (mean_over link offset (row xb n v) (row zb n v) (row mk n v)) v → x ≡ mean_over link offset (row xb n w) (row zb n w) (row mk n w) i
    → set w (zb + i) x ≡ fill_at zb (i + 1) (mean_over link offset (row xb n v) (row zb n v) (row mk n v)) v
means_step link offset n xb zb mk i v w x hx hz hm ax am l e d =
    rw (d ∙ mean_same link offset (row xb n w) (row xb n v) (row zb n w) (row zb n v) (row mk n w) (row mk n v) i (other xb hx ax) own (other mk hm am)) (fillat_step zb f v i w e)
  where
    f : ℕ → Float
    f = mean_over link offset (row xb n v) (row zb n v) (row mk n v)

    long : length w ≡ length v
    long = rw e (length_fillat zb i f v)

    other : (c : ℕ) → c + n ≤ length v → Apart c n zb n → row c n w ! i ≡ row c n v ! i
    other c h a = row_at c n w (omega (arith, long)) i l ∙ kept_entry c n zb n i i f v w a h (omega arith) l e

    own : row zb n w ! i ≡ row zb n v ! i
    own = row_at zb n w (omega (arith, long)) i l ∙ (rw e (fillat_above zb i f v (zb + i) (omega arith))) ∙ sym (row_at zb n v hz i l)

-- ---- a deviance
module _ (family : CarriedFamily) (y weights : List Float) (n dv mu mk : ℕ) (r : List Float) (i : ℕ) (sum : Float) (l : i < n) (hm : mk + n ≤ length r) where
  pub gain_skipped : lt zero_f (r ! (mk + i)) ≡ false → sum ≡ add_where (marked (row mk n r) i) sum (entered family y weights (row mu n r) (row dv n r) i)
  unfolding add_where marked
  gain_skipped t = rw (row_at mk n r hm i l, t) refl

  pub gain_taken : (wt dev : Float) → dv + n ≤ length r → mu + n ≤ length r → lt zero_f (r ! (mk + i)) ≡ true → wt ≡ weight_at weights i → dev ≡ dev_resid family (y ! i) (r ! (mu + i)) wt
      → sum ⊕ (dev ⊖ (r ! (dv + i))) ≡ add_where (marked (row mk n r) i) sum (entered family y weights (row mu n r) (row dv n r) i)
  unfolding add_where marked entered
  gain_taken wt dev hd hu t w d = rw (row_at mk n r hm i l, t, row_at mu n r hu i l, row_at dv n r hd i l, d, w) refl
