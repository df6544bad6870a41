-- One node more of a group with one effect: what the point is made of has not changed since the first. Assumes nothing.
use mathlib.Core.Path.{◌≡◌, refl, sym, ◌∙◌}
use mathlib.Core.Logic.{inl, inr, ⊎_elim}
use mathlib.Core.List.{List}
use Prim.Native.Nat.{ℕ, ◌+◌, ◌-◌, ◌<◌, ◌≤◌}
use native.Mathlib.Omega.{arith}
use lib.ListN.{length}
use lib.Seq.{ext_get_or}
use lib.Ieee.{Float, nan}
use Rattle.base.specs.Sum.{◌!◌}
use Rattle.base.specs.List.{fill_at}
use Rattle.base.specs.Rows.{row, Only}
use Rattle.base.specs.Sparse.{Sparse}
use Rattle.base.proofs.Sums.{lt_or_ge}
use Rattle.base.proofs.Fills.{length_fillat, fillat_below, fillat_above, fillat_in}
use Rattle.base.proofs.Rows.{row_length, only_row, only_trans, fillat_only}
use Rattle.model.specs.declared.sizes.Shape.{Shape}
use Rattle.family.specs.declared.carried.CarriedFamily.{CarriedFamily}
use Rattle.family.specs.declared.carried.CarriedLink.{CarriedLink}
use Rattle.agq.proofs.Gains.{gain_kept}
use Rattle.agq.specs.One.{one_effects, one_term_in, one_term_at_node, OneIn}

-- a stretch filled over lists that differ in it alone
pub filled_same : (b n : ℕ) (f : ℕ → Float) (v w : List Float) → b + n ≤ length v → Only b n v w → fill_at b n f w ≡ fill_at b n f v
filled_same b n f v w h o =
    ext_get_or nan (fill_at b n f w) (fill_at b n f v) (length_fillat b n f w ∙ o.len ∙ sym (length_fillat b n f v))
    (λ i g.
    ⊎_elim (λ (a : i < b). fillat_below b n f w i a ∙ o.kept i (inl a) ∙ sym (fillat_below b n f v i a))
    (λ (a : b ≤ i).
    ⊎_elim
    (λ (d : i < b + n).
    let q : b + (i - b) ≡ i = omega arith in
    let x : fill_at b n f w ! (b + (i - b)) ≡ f (i - b) = fillat_in b n f w (omega (arith, o.len)) (i - b) (omega arith) in
    let z : fill_at b n f v ! (b + (i - b)) ≡ f (i - b) = fillat_in b n f v h (i - b) (omega arith) in
    (rw q at x) ∙ sym (rw q at z))
    (λ (d : b + n ≤ i). fillat_above b n f w i d ∙ o.kept i (inr d) ∙ sym (fillat_above b n f v i d))
    (lt_or_ge i (b + n)))
    (lt_or_ge i b))

module _ (family : CarriedFamily) (link : CarriedLink) (shape : Shape) (theta : List Float) (Z : Sparse) (y weights offset : List Float) (n q xbeta g : ℕ) (sigma inv : Float) (u trial : ℕ) (nodes logs : List Float)
    (r r1 m m1 : List Float) (l : g < q) (a : u + q ≤ trial) (hm : trial + q + q ≤ length m) (hr : xbeta + n + n + n + n ≤ length r)
    (om : Only trial (q + q) m m1) (or : Only (xbeta + n + n) n r r1) (ot : Only g 1 (row trial q m) (row trial q m1)) where
  same_u : row u q m1 ≡ row u q m
  same_u = only_row u q trial (q + q) (inl a) (omega arith) om

  same_effects : (node : Float) → one_effects g sigma node (row u q m1) (row trial q m1) ≡ one_effects g sigma node (row u q m) (row trial q m)
  unfolding one_effects
  same_effects node = rw same_u (filled_same g 1 _ (row trial q m) (row trial q m1) (omega (arith, row_length trial q m (omega arith))) ot)

  module _ (i : ℕ) (r2 m2 : List Float) (x : Float) (p : OneIn family link shape theta Z y weights offset n q xbeta g sigma (nodes ! i) (logs ! i) inv u trial r1 r2 m1 m2 x) where
    pub turn_term : x ≡ one_term_at_node family link shape theta Z y weights offset n q xbeta g sigma inv (row u q m) r (row trial q m) nodes logs i
    unfolding one_term_at_node one_term_in
    turn_term =
        p.term
        ∙ rw (same_effects (nodes ! i), same_u, gain_kept family link shape theta Z y weights offset n q xbeta r r1 hr or) refl

    pub turn_m : Only trial (q + q) m m2
    turn_m = only_trans om p.only

    pub turn_r : Only (xbeta + n + n) n r r2
    turn_r = only_trans or p.in_r

    pub turn_trial : Only g 1 (row trial q m) (row trial q m2)
    unfolding one_effects
    turn_trial = rw (p.effects ∙ same_effects (nodes ! i)) (fillat_only g 1 1 _ (row trial q m) (omega arith))
