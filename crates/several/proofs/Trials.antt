-- The effects at a point and dd of them: the nodes go behind, the group's effects move within the trial row, and what they are made of has not changed. Assumes nothing.
use mathlib.Core.Path.{◌≡◌, refl, sym, ◌∙◌}
use mathlib.Core.Logic.{inl, inr}
use mathlib.Core.Bool.{true}
use mathlib.Core.List.{List}
use Prim.Native.Nat.{ℕ, ◌+◌, ◌*◌, ◌<◌, ◌≤◌}
use native.Mathlib.Nat.{zero-add}
use native.Mathlib.Omega.{arith}
use lib.ListN.{length}
use lib.Ieee.{Float}
use Rattle.base.specs.Sum.{◌!◌, all_to, finite_at}
use Rattle.base.specs.List.{build, fill_at}
use Rattle.base.specs.Rows.{row, Apart, Only, Wrote}
use Rattle.base.specs.Sparse.{Sparse}
use Rattle.base.proofs.Fills.{fillat_cong}
use Rattle.base.proofs.Rows.{row_at, only_row, only_trans, only_wide, wrote_unique, fillat_wrote}
use Rattle.model.specs.declared.sizes.Shape.{Shape}
use Rattle.family.specs.declared.carried.CarriedFamily.{CarriedFamily}
use Rattle.family.specs.declared.carried.CarriedLink.{CarriedLink}
use Rattle.agq_rule.specs.Point.{digit_entry}
use Rattle.agq_rule.specs.Term.{moved_at}
use Rattle.points.proofs.Within.{row_filled}
use Rattle.agq.specs.Gained.{Room, GainedIn, gain_in}
use Rattle.several.specs.Several.{Grid, nodes_at, moved_effects, group_effects, TrialIn}
use Rattle.several.proofs.Nodes.{point_finite}

-- ---- what is asked for stays while the slices change within their lengths
pub room_kept : (shape : Shape) (theta : List Float) (starts columns : List ℕ) (values y offset : List Float) (n q xbeta : ℕ) (r r1 : List Float) (trial : ℕ) (m m1 : List Float)
    → length r1 ≡ length r → length m1 ≡ length m → Room shape theta starts columns values y offset n q xbeta r trial m → Room shape theta starts columns values y offset n q xbeta r1 trial m1
room_kept shape theta starts columns values y offset n q xbeta r r1 trial m m1 e d p =
    record { good = p.good; effects = p.effects; thetas = p.thetas; rows = p.rows; responses = p.responses; offsets = p.offsets; in_r = rw e p.in_r; in_m = rw d p.in_m }

pub grid_kept : (q s k size l u trial : ℕ) (nodes m m1 : List Float) → length m1 ≡ length m → Grid q s k size l u trial nodes m → Grid q s k size l u trial nodes m1
grid_kept q s k size l u trial nodes m m1 d g =
    record { within = g.within; factor = g.factor; hats = g.hats; in_m = rw d g.in_m; some = g.some; in_nodes = g.in_nodes; finite_nodes = g.finite_nodes }

-- ---- a stretch of a row
stretch_row : (b q s k : ℕ) (f : ℕ → Float) (v w : List Float) → s + k ≤ q → b + q ≤ length v → Wrote (b + s) k (build f k) v w → row b q w ≡ fill_at s k f (row b q v)
stretch_row b q s k f v w l h p =
    let e : w ≡ fill_at (b + s) k f v = wrote_unique (b + s) k (build f k) v w (fill_at (b + s) k f v) (omega arith) p (fillat_wrote (b + s) k k f v (fill_at (b + s) k f v) refl (omega arith) (omega arith) (omega arith)) in
    rw e (row_filled b q s k f v h l)

pub stretch_at : (b q s k : ℕ) (v : List Float) → s + k ≤ q → b + q ≤ length v → (i : ℕ) → i < k → row (b + s) k v ! i ≡ row b q v ! (s + i)
stretch_at b q s k v l h i g =
    let e : b + s + i ≡ b + (s + i) = omega arith in
    row_at (b + s) k v (omega arith) i g ∙ rw e (sym (row_at b q v h (s + i) (omega arith)))

-- ---- what moving the effects asks for, once the nodes are written
pub move_asked : (q s k size l u trial point : ℕ) (nodes m m1 : List Float) → Grid q s k size l u trial nodes m → Wrote (trial + q + q) k (build (digit_entry nodes size point) k) m m1
    → ((l + k * k ≤ length m1) × (trial + q + q + k ≤ length m1) × (u + s + k ≤ length m1) × (trial + s + k ≤ length m1)) × ((Apart l (k * k) (trial + s) k) × (Apart (trial + q + q) k (trial + s) k) × (Apart (u + s) k (trial + s) k) × (all_to k (finite_at (row (trial + q + q) k m1)) ≡ true))
move_asked q s k size l u trial point nodes m m1 g w =
    let n = w.only.len in (
      (omega (arith, g.factor, g.hats, g.in_m, n), omega (arith, g.within, g.in_m, n), omega (arith, g.within, g.hats, g.in_m, n), omega (arith, g.within, g.in_m, n)),
      (inl (omega (arith, g.factor, g.hats)), inr (omega (arith, g.within)), inl (omega (arith, g.within, g.hats)), rw w.row' (point_finite nodes size k point g.some g.finite_nodes)),
    )

-- ---- the effects at a point
module _ (q s k size l u trial point : ℕ) (nodes m m1 m2 : List Float) (g : Grid q s k size l u trial nodes m)
    (w : Wrote (trial + q + q) k (build (digit_entry nodes size point) k) m m1)
    (v : Wrote (trial + s) k (build (moved_at k (row l (k * k) m1) (row (trial + q + q) k m1) 0 (row (u + s) k m1)) k) m1 m2) where
  abbrev T : List Float
  T = group_effects s k nodes size (row l (k * k) m) (row u q m) (row trial q m) point

  same_shift : (i : ℕ) → i < k → moved_at k (row l (k * k) m1) (row (trial + q + q) k m1) 0 (row (u + s) k m1) i ≡ moved_at k (row l (k * k) m) (nodes_at nodes size k point) s (row u q m) i
  unfolding moved_at nodes_at
  same_shift i h =
      rw (
        only_row l (k * k) (trial + q + q) k (inl (omega (arith, g.factor, g.hats))) (omega (arith, g.factor, g.hats, g.in_m)) w.only,
        w.row',
        only_row (u + s) k (trial + q + q) k (inl (omega (arith, g.within, g.hats))) (omega (arith, g.within, g.hats, g.in_m)) w.only,
        zero-add i,
        stretch_at u q s k m g.within (omega (arith, g.hats, g.in_m)) i h,
      )
      refl

  trial_effects : row trial q m2 ≡ T
  unfolding group_effects moved_effects
  trial_effects =
      stretch_row trial q s k (moved_at k (row l (k * k) m1) (row (trial + q + q) k m1) 0 (row (u + s) k m1)) m1 m2 g.within (omega (arith, g.in_m, w.only.len)) v
      ∙ rw (only_row trial q (trial + q + q) k (inl (omega arith)) (omega (arith, g.in_m)) w.only)
      (fillat_cong s k (moved_at k (row l (k * k) m1) (row (trial + q + q) k m1) 0 (row (u + s) k m1)) (moved_at k (row l (k * k) m) (nodes_at nodes size k point) s (row u q m)) (row trial q m) same_shift)

  trial_only : Only trial (q + q + q) m m2
  trial_only =
      only_trans (only_wide (trial + q + q) k trial (q + q + q) (omega arith) (omega (arith, g.within)) w.only)
      (only_wide (trial + s) k trial (q + q + q) (omega arith) (omega (arith, g.within)) v.only)

  -- with dd of them
  pub trial_made : (family : CarriedFamily) (link : CarriedLink) (shape : Shape) (theta : List Float) (Z : Sparse) (y weights offset : List Float) (n xbeta : ℕ) (r r' m' : List Float) (dd : Float)
      → GainedIn family link shape theta Z y weights offset n q xbeta trial r r' m2 m' dd
      → TrialIn (gain_in family link shape theta Z y weights offset n q xbeta r) T n q xbeta trial r r' m m' dd
  trial_made family link shape theta Z y weights offset n xbeta r r' m' dd p =
      record {
        gained = rw (← trial_effects) p.gain;
        effects = only_row trial q (trial + q) q (inl (omega arith)) (omega (arith, g.in_m, trial_only.len)) p.b.only ∙ trial_effects;
        in_m = only_trans trial_only (only_wide (trial + q) q trial (q + q + q) (omega arith) (omega arith) p.b.only);
        in_r = p.means.only;
      }
