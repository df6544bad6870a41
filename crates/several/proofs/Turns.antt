-- One point more: what a point is made of has not changed since the first. Assumes nothing.
use mathlib.Core.Path.{◌≡◌, refl, ap, ◌∙◌}
use mathlib.Core.Logic.{inl}
use mathlib.Core.List.{List}
use Prim.Native.Nat.{ℕ, ◌+◌, ◌*◌, ◌≤◌}
use native.Mathlib.Omega.{arith}
use lib.ListN.{length, set}
use lib.Ieee.{Float}
use Rattle.base.specs.Sum.{dot_of}
use Rattle.base.specs.Rows.{row, Only}
use Rattle.base.specs.Sparse.{Sparse}
use Rattle.base.proofs.Fills.{fill_none, fill_step, fill_end, length_fill}
use Rattle.base.proofs.Rows.{row_length, only_none, only_row, only_trans, fillat_only}
use Rattle.model.specs.declared.sizes.Shape.{Shape}
use Rattle.family.specs.declared.carried.CarriedFamily.{CarriedFamily}
use Rattle.family.specs.declared.carried.CarriedLink.{CarriedLink}
use Rattle.agq_rule.specs.Term.{moved_at}
use Rattle.agq.proofs.Gains.{gain_kept}
use Rattle.agq.proofs.OneTurns.{filled_same}
use Rattle.agq.specs.Gained.{gain_in}
use Rattle.several.specs.Several.{Grid, nodes_at, log_weight_in, moved_effects, PointIn, TermsIn, group_effects, group_term_in, joint_effects, joint_term_with, joint_term_in}

-- ---- the terms, one after another
pub terms_none : {f : ℕ → Float} {n q xbeta trial : ℕ} {r m t : List Float} → TermsIn f n q xbeta trial 0 r r m m t t
terms_none = record { terms = fill_none _ _; in_m = only_none _ _ _; in_r = only_none _ _ _ }

terms_step : {f : ℕ → Float} {n q xbeta trial i : ℕ} {r r1 r2 m m1 m2 t t1 e : List Float} {x y : Float} → TermsIn f n q xbeta trial i r r1 m m1 t t1 → PointIn y e n q xbeta trial r1 r2 m1 m2 x → y ≡ f i
    → TermsIn f n q xbeta trial (i + 1) r r2 m m2 t (set t1 i x)
terms_step {f} {i = i} {t = t} {t1 = t1} p o d =
    record {
      terms = rw (o.told, d) (fill_step f t i t1 p.terms);
      in_m = only_trans p.in_m o.in_m;
      in_r = only_trans p.in_r o.in_r;
    }

pub terms_end : {f : ℕ → Float} {n q xbeta trial i count : ℕ} {r r1 m m1 t t1 : List Float} → TermsIn f n q xbeta trial i r r1 m m1 t t1 → i ≤ count → count ≤ i → TermsIn f n q xbeta trial count r r1 m m1 t t1
terms_end p l g = record { terms = fill_end _ _ _ _ _ p.terms l g; in_m = p.in_m; in_r = p.in_r }

pub terms_length_lem : {f : ℕ → Float} {n q xbeta trial i : ℕ} {r r1 m m1 t t1 : List Float} → TermsIn f n q xbeta trial i r r1 m m1 t t1 → length t1 ≡ length t
terms_length_lem {f} {i = i} {t = t} p = ap (λ (x : List Float). length x) p.terms ∙ length_fill i f t

-- ---- Σû², from the part of the slice that is lent
pub hats_of : (u q : ℕ) (m up : List Float) (hats : Float) → up ≡ row u q m → hats ≡ dot_of q up up → hats ≡ dot_of q (row u q m) (row u q m)
hats_of u q m up hats e d = rw (← e) d

-- ---- what a point is made of
module _ (family : CarriedFamily) (link : CarriedLink) (shape : Shape) (theta : List Float) (Z : Sparse) (y weights offset : List Float) (n q xbeta : ℕ) (r r1 : List Float) (hr : xbeta + n + n + n + n ≤ length r) where
  module _ (size l u trial : ℕ) (nodes logs : List Float) (inv : Float) (m m1 t t1 : List Float) (i : ℕ) where
    -- of a group
    module _ (s k : ℕ) (g : Grid q s k size l u trial nodes m) (p : TermsIn (group_term_in (gain_in family link shape theta Z y weights offset n q xbeta r) s k inv nodes logs size (row l (k * k) m) (row u q m) (row trial q m)) n q xbeta trial i r r1 m m1 t t1)
        (o : Only s k (row trial q m) (row trial q m1)) where
      same_effects : group_effects s k nodes size (row l (k * k) m1) (row u q m1) (row trial q m1) i ≡ group_effects s k nodes size (row l (k * k) m) (row u q m) (row trial q m) i
      unfolding group_effects moved_effects
      same_effects =
          rw (only_row l (k * k) trial (q + q + q) (inl (omega (arith, g.factor, g.hats))) (omega (arith, g.factor, g.hats, g.in_m)) p.in_m, only_row u q trial (q + q + q) (inl g.hats) (omega (arith, g.hats, g.in_m)) p.in_m)
          (filled_same s k (moved_at k (row l (k * k) m) (nodes_at nodes size k i) s (row u q m)) (row trial q m) (row trial q m1) (omega (arith, g.within, row_length trial q m (omega (arith, g.in_m)))) o)

      module _ (r2 m2 : List Float) (x : Float) (c : PointIn (group_term_in (gain_in family link shape theta Z y weights offset n q xbeta r1) s k inv nodes logs size (row l (k * k) m1) (row u q m1) (row trial q m1) i) (group_effects s k nodes size (row l (k * k) m1) (row u q m1) (row trial q m1) i) n q xbeta trial r1 r2 m1 m2 x) where
        group_same : group_term_in (gain_in family link shape theta Z y weights offset n q xbeta r1) s k inv nodes logs size (row l (k * k) m1) (row u q m1) (row trial q m1) i ≡ group_term_in (gain_in family link shape theta Z y weights offset n q xbeta r) s k inv nodes logs size (row l (k * k) m) (row u q m) (row trial q m) i
        unfolding group_term_in
        group_same = rw (gain_kept family link shape theta Z y weights offset n q xbeta r r1 hr p.in_r, same_effects, only_row u q trial (q + q + q) (inl g.hats) (omega (arith, g.hats, g.in_m)) p.in_m) refl

        -- and the trial row outside the group's places is as it was
        pub group_turn : (TermsIn (group_term_in (gain_in family link shape theta Z y weights offset n q xbeta r) s k inv nodes logs size (row l (k * k) m) (row u q m) (row trial q m)) n q xbeta trial (i + 1) r r2 m m2 t (set t1 i x)) × (Only s k (row trial q m) (row trial q m2))
        unfolding group_effects moved_effects
        group_turn = (terms_step p c group_same, rw (c.effects ∙ same_effects) (fillat_only s k k (moved_at k (row l (k * k) m) (nodes_at nodes size k i) s (row u q m)) (row trial q m) (omega arith)))

    -- of all effects
    module _ (hats : Float) (g : Grid q 0 q size l u trial nodes m) (h : hats ≡ dot_of q (row u q m) (row u q m)) (p : TermsIn (joint_term_in (gain_in family link shape theta Z y weights offset n q xbeta r) q inv nodes logs size (row l (q * q) m) (row u q m)) n q xbeta trial i r r1 m m1 t t1) where
      joint_same : joint_term_with (gain_in family link shape theta Z y weights offset n q xbeta r1) q (log_weight_in logs size q i) inv hats (joint_effects q nodes size (row l (q * q) m1) (row u q m1) i) ≡ joint_term_in (gain_in family link shape theta Z y weights offset n q xbeta r) q inv nodes logs size (row l (q * q) m) (row u q m) i
      unfolding joint_term_in
      joint_same = rw (gain_kept family link shape theta Z y weights offset n q xbeta r r1 hr p.in_r, h, only_row l (q * q) trial (q + q + q) (inl (omega (arith, g.factor, g.hats))) (omega (arith, g.factor, g.hats, g.in_m)) p.in_m, only_row u q trial (q + q + q) (inl g.hats) (omega (arith, g.hats, g.in_m)) p.in_m) refl

      pub joint_turn : (r2 m2 : List Float) (x : Float) → PointIn (joint_term_with (gain_in family link shape theta Z y weights offset n q xbeta r1) q (log_weight_in logs size q i) inv hats (joint_effects q nodes size (row l (q * q) m1) (row u q m1) i)) (joint_effects q nodes size (row l (q * q) m1) (row u q m1) i) n q xbeta trial r1 r2 m1 m2 x
          → TermsIn (joint_term_in (gain_in family link shape theta Z y weights offset n q xbeta r) q inv nodes logs size (row l (q * q) m) (row u q m)) n q xbeta trial (i + 1) r r2 m m2 t (set t1 i x)
      joint_turn r2 m2 x c = terms_step p c joint_same
