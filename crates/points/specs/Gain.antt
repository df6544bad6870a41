-- Which observations enter a point's sum, and what each adds. Assumes nothing.
use Rattle.std.specs.Prelude.{◌≡◌, List, Bool, cond, ℕ, ◌+◌, ◌<◌, Float}
use Rattle.std.specs.Float.Ieee.{lt}
use Rattle.base.specs.Number.{◌⊕◌, ◌⊖◌, zero_f, one_f}
use Rattle.base.specs.Sum.{◌!◌}
use Rattle.base.specs.Rows.{Only}
use Rattle.base.specs.Sparse.{Sparse, stored}
use Rattle.family.specs.Link.{link_inv}
use Rattle.family.specs.Family.{dev_resid}
use Rattle.family.specs.declared.carried.CarriedFamily.{CarriedFamily}
use Rattle.family.specs.declared.carried.CarriedLink.{CarriedLink}
use Rattle.family_lists.specs.Lists.{weight_at}
use Rattle.rule.specs.Given.{plus_offset}
use Rattle.agq_rule.specs.Term.{belongs}

-- 1.0 at every place
abbrev pub one_at : ℕ → Float
one_at i = one_f

-- the mark of observation i: 1.0 where it belongs to the k effects from s on, else +0.0
unfoldable pub mark_at : Sparse → ℕ → ℕ → ℕ → Float
mark_at Z s k i = cond (belongs Z s k i) one_f zero_f

-- observation i is marked
unfoldable pub marked : List Float → ℕ → Bool
marked marks i = lt zero_f (marks ! i)

-- w is v with 1.0 in the row at b wherever row a of Z' stores the observation
pub record MarkedIn (Z : Sparse) (a b n : ℕ) (v w : List Float) : Type 0 where
  pub here : (i : ℕ) → i < n → w ! (b + i) ≡ cond (stored Z a i) one_f (v ! (b + i))
  pub only : Only b n v w

-- the row of means: the mean of a marked observation at Xβ + Zb, then offset; Zb of any other
unfoldable pub mean_over : CarriedLink → List Float → List Float → List Float → List Float → ℕ → Float
mean_over link offset xb zb marks i = cond (marked marks i) (link_inv link (plus_offset offset i ((xb ! i) ⊕ (zb ! i)))) (zb ! i)

-- what observation i adds: its deviance at its mean, less its deviance at the mode
unfoldable pub entered : CarriedFamily → List Float → List Float → List Float → List Float → ℕ → Float
entered family y weights means devs i = dev_resid family (y ! i) (means ! i) (weight_at weights i) ⊖ (devs ! i)
