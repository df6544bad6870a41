-- The groups' loop: what the groups before g told is points before what the rule says of the rest. Assumes nothing.
use Rattle.std.specs.Prelude.{Ok, Err}
use mathlib.Core.Path.{◌≡◌, ap, ◌∙◌}
use mathlib.Core.List.{List}
use mathlib.Core.Logic.{⊎_elim}
use Prim.Native.Nat.{ℕ, suc, ◌+◌, ◌-◌, ◌*◌, ◌^◌, ◌<◌, ◌≤◌}
use native.Mathlib.Nat.{mul-le-mul, pow-suc, pow-zero, one-mul, mul-zero}
use native.Mathlib.Omega.{arith}
use lib.Ieee.{Float, neg}
use borrow.Author.Tests.{eq-eqb, ne_eqb}
use Rattle.base.specs.Number.{◌⊕◌, ◌⊗◌, two_f, zero_f}
use Rattle.base.specs.Sparse.{Sparse}
use Rattle.base.proofs.Sums.{lt_or_ge}
use Rattle.base.proofs.Fills.{row_fits}
use Rattle.family.specs.declared.carried.CarriedFamily.{CarriedFamily}
use Rattle.family.specs.declared.carried.CarriedLink.{CarriedLink}
use Rattle.model.specs.Shape.{effects_of}
use Rattle.model.specs.declared.sizes.Shape.{Shape}
use Rattle.layout.specs.Layout.{WorkRoom}
use Rattle.quadrature.specs.Orders.{size_of}
use Rattle.quadrature.specs.declared.orders.Decline.{Decline}
use Rattle.quadrature.specs.declared.orders.Order.{Order}
use Rattle.quadrature.proofs.Chosen.{size_to}
use Rattle.rule.specs.Given.{Given}
use Rattle.rule.specs.Stop.{Mode}
use Rattle.agq_rule.specs.Steps.{Integrated, points_before, group_by, with_sum, groups_from}
use Rattle.sums.specs.Stands.{Stands, given_with}
use Rattle.sums.specs.Summed.{carry, integrated_of, StepFrame, GroupLeft, StepLeft}
use Rattle.sums.specs.Rules.{one_rule}
use Rattle.groups.specs.Rules.{Grouped, several_rule, group_rule, product_rule}
use Rattle.sums.specs.declared.answers.GroupSum.{GroupSum}
use Rattle.sums.proofs.Framed.{frame_none, frame_trans, stands_kept}
use Rattle.sums.proofs.Told.{points_add, no_points, step_told}

power_one : (x : ℕ) → x ^ 1 ≡ x
power_one x = pow-suc x 0 ∙ rw (pow-zero x) (one-mul x)

-- ---- one group, by whether it has one effect
module _ (G : List Float → Given) (phi : Float) (o : Order) (n p q k g : ℕ) (r r' m m' t t' : List Float) (a : GroupSum) where
  pub group_one : k ≡ 1 → GroupLeft G (one_rule phi o g) n p q (size_of o) r r' m m' t t' a → GroupLeft G (group_rule phi o k g) n p q (size_of o ^ k) r r' m m' t t' a
  unfolding group_by
  group_one e l =
      record { told = λ x M st rest. rw (eq-eqb k 1 e) (l.told x M st rest); few = rw (e, power_one (size_of o)) l.few; frame = l.frame }

  pub group_several : (s : ℕ) → (k ≡ 1 → ⊥) → s ≡ g * k → GroupLeft G (several_rule phi o s k) n p q (size_of o ^ k) r r' m m' t t' a → GroupLeft G (group_rule phi o k g) n p q (size_of o ^ k) r r' m m' t t' a
  unfolding group_by
  group_several s e es l = record { told = λ x M st rest. rw (ne_eqb k 1 e, ← es) (l.told x M st rest); few = l.few; frame = l.frame }

pub lone_within : (q k g : ℕ) → k ≡ 1 → g * k + k ≤ q → g < q
lone_within q k g e h = let w : g * 1 + 1 ≤ q = rw e at h in omega arith

-- ---- how many points there are

one_few : (groups size q : ℕ) → groups * 1 ≡ q → q ≤ 32 → size ≤ 11 → groups * size ≤ 7000
one_few groups size q e h l = let z : groups * size ≤ 32 * 11 = mul-le-mul {n₂ = 32} {m₂ = 11} (omega arith) l in omega arith

several_few : (groups k points q : ℕ) → groups * k ≡ q → q ≤ 32 → 2 ≤ k → points ≤ 400 → groups * points ≤ 7000
several_few groups k points q e h l f =
    let z : groups * 2 ≤ groups * k = mul-le-mul {n₁ = groups} {n₂ = groups} (omega arith) l in
    let w : groups * points ≤ 16 * 400 = mul-le-mul {n₂ = 16} {m₂ = 400} (omega arith) f in
    omega arith

effects_some : (q groups k : ℕ) (o : Order) → 1 ≤ q → Grouped q groups k o → 1 ≤ k
effects_some q groups k o some z =
    ⊎_elim (λ (d : k < 1). let e : k ≡ 0 = omega arith in absurd (omega (arith, mul-zero groups, rw e at z.all))) (λ (d : 1 ≤ k). d) (lt_or_ge k 1)

pub points_few : (q groups k : ℕ) (o : Order) → 1 ≤ q → q ≤ 32 → Grouped q groups k o → groups * (size_of o ^ k) ≤ 7000
points_few q groups k o some few z =
    ⊎_elim
    (λ (l : k < 2).
    let e : k ≡ 1 = omega (arith, effects_some q groups k o some z) in
    rw (e, power_one (size_of o)) (one_few groups (size_of o) q (rw e at z.all) few (size_to o)))
    (λ (l : 2 ≤ k). several_few groups k (size_of o ^ k) q z.all few l (z.capped (λ e. omega arith)))
    (lt_or_ge k 2)

pub groups_few : (q groups k : ℕ) (o : Order) → 1 ≤ q → q ≤ 32 → Grouped q groups k o → groups ≤ 32
groups_few q groups k o some few z =
    let w : groups * 1 ≤ groups * k = mul-le-mul {n₁ = groups} {n₂ = groups} (omega arith) (effects_some q groups k o some z) in
    omega (arith, z.all)

-- a group's effects are among all
pub effects_within : (q groups k g : ℕ) (o : Order) → Grouped q groups k o → g < groups → g * k + k ≤ q
effects_within q groups k g o z l = omega (arith, row_fits g groups k l, z.all)

-- ---- the loop
module _ (family : CarriedFamily) (link : CarriedLink) (shape : Shape) (theta : List Float) (zt : Sparse) (y weights offset : List Float) (n p q : ℕ) (o : Order) (groups k : ℕ) (phi : Float) (r m t : List Float) where
  abbrev G : List Float → Given
  G = given_with family link shape theta zt y weights offset n p

  -- before group g
  pub record Going (r' m' t' : List Float) (total : Float) (points g : ℕ) : Type 0 where
    pub reached : g ≤ groups
    pub few : points ≤ g * (size_of o ^ k)
    pub frame : StepFrame n p q r r' m m' t t'
    pub told : (x : List Float) (M : Mode) → Stands (G x) M r m → groups_from (G x) M phi o k groups 0 zero_f ≡ points_before points (groups_from (G x) M phi o k (groups - g) g total)

  pub begun : Going r m t zero_f 0 0
  begun =
      let e : groups - 0 ≡ groups = omega arith in
      record { reached = omega arith; few = omega arith; frame = frame_none n p q r m t; told = λ x M s. rw e (no_points (groups_from (G x) M phi o k groups 0 zero_f)) }

  module _ (eq : q ≡ effects_of shape) (lent : WorkRoom n p q r m t) (all : Grouped q groups k o) (r' m' t' : List Float) (total : Float) (points g : ℕ) (going : Going r' m' t' total points g) where
    pub room_next : (i : ℕ) → i ≤ size_of o ^ k → points + i ≤ (g + 1) * (size_of o ^ k)
    room_next i h = omega (arith, going.few, row_fits g (g + 1) (size_of o ^ k) (omega arith))

    all_few : groups * (size_of o ^ k) ≤ 7000
    all_few = points_few q groups k o lent.sizes.q_some lent.sizes.q_few all

    pub room_left : (i : ℕ) → i ≤ size_of o ^ k → g < groups → points + i ≤ 7000
    room_left i h l = omega (arith, going.few, row_fits g groups (size_of o ^ k) l, all_few)

    pub ends : (fit : Float) → groups ≤ g → StepLeft G (product_rule phi o k groups) n p q fit r r' m m' t t' (record { answer = Ok ((fit ⊕ total), o); points = points })
    unfolding groups_from
    ends fit h =
        let e : groups - g ≡ 0 = omega (arith, going.reached) in
        let z : g ≡ groups = omega (arith, going.reached) in
        record {
          told = λ x M s f.
              (rw e at (going.told x M s)) ∙ step_told points (Ok ((M.fit ⊕ total), o))
              ∙ ap (λ (z : Float). integrated_of (record { answer = Ok ((z ⊕ total), o); points = points })) f;
          few = omega (arith, all_few, rw z at going.few);
          frame = going.frame;
        }

    module _ (l : g < groups) (r'' m'' t'' : List Float) (a : GroupSum) (left : GroupLeft G (group_rule phi o k g) n p q (size_of o ^ k) r' r'' m' m'' t' t'' a) where
      still : (x : List Float) (M : Mode) → Stands (G x) M r m → Stands (G x) M r' m'
      still x M s = stands_kept (G x) M r r' m m' t t' (rw eq at lent) (rw eq at going.frame) s

      abbrev next : List Float → Mode → Float → Integrated
      next x M s = groups_from (G x) M phi o k (groups - (g + 1)) (g + 1) (with_sum total s)

      turn : (x : List Float) (M : Mode) → Stands (G x) M r m → groups_from (G x) M phi o k groups 0 zero_f ≡ points_before (points + a.points) (carry a.sum (next x M))
      unfolding groups_from
      turn x M s =
          let e : groups - g ≡ suc (groups - (g + 1)) = omega arith in
          (rw e at (going.told x M s))
          ∙ ap (points_before points) (left.told x M (still x M s) (next x M))
          ∙ points_add points a.points (carry a.sum (next x M))

      pub goes_on : (s : Float) → a.sum ≡ Ok s → Going r'' m'' t'' (total ⊕ (neg two_f ⊗ s)) (points + a.points) (g + 1)
      unfolding carry with_sum
      goes_on s e =
          record {
            reached = omega arith;
            few = room_next a.points left.few;
            frame = frame_trans going.frame left.frame;
            told = λ x M st. rw e at (turn x M st);
          }

      pub declines : (fit : Float) (d : Decline) → a.sum ≡ Err d → StepLeft G (product_rule phi o k groups) n p q fit r r'' m m'' t t'' (record { answer = Err d; points = points + a.points })
      unfolding carry
      declines fit d e =
          record {
            told = λ x M st f. (rw e at (turn x M st)) ∙ step_told (points + a.points) (Err d);
            few = room_left a.points left.few l;
            frame = frame_trans going.frame left.frame;
          }
