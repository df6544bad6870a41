-- Why an order choice declines: the wish is tested first, then the effects, then the cap, which leaves an order to every joint rule and to a product rule of up to five effects. Assumes nothing.
use Rattle.std.specs.Prelude.{Result, Ok, Err}
use mathlib.Core.Path.{◌≡◌, refl, sym, ◌∙◌}
use mathlib.Core.List.{List, [], ◌∷◌}
use mathlib.Core.Bool.{Bool, true, false}
use mathlib.Core.Logic.{◌⊎◌, inl, inr, ⊎_elim}
use Prim.Native.Nat.{ℕ, ◌^◌, ◌≤◌, ◌<◌}
use native.Mathlib.Nat.{pow-le-pow_right}
use native.Mathlib.Omega.{arith}
use borrow.Author.Tests.{eq-eqb, ne_eqb, lt-ltb, le-ltb, le-leb}
use lib.Dec.{lit<, lit≤, eqb}
use Rattle.quadrature.specs.declared.orders.Order.{Order}
use Rattle.quadrature.specs.declared.orders.Order.TheVariants.{Three, Five, Seven, Nine, Eleven}
use Rattle.quadrature.specs.declared.orders.Decline.{Decline}
use Rattle.quadrature.specs.declared.orders.Decline.TheVariants.{Wish, Effects, Cap, Diagonal, Inverse, Factor, Sum}
use Rattle.quadrature.specs.Orders.{size_of, decline_number, first_order, wished, within_cap, down_from, first_within, capped_from, product_capped, product_order, joint_capped, joint_order}
use Rattle.base.proofs.Sums.{lt_or_ge}
use Rattle.quadrature.proofs.Powers.{power_past}

-- reasons are 1 to 6
pub why_range : (d : Decline) → (1 ≤ decline_number d) × (decline_number d ≤ 6)
why_range Wish = (omega arith, omega arith)
why_range Effects = (omega arith, omega arith)
why_range Cap = (omega arith, omega arith)
why_range Diagonal = (omega arith, omega arith)
why_range Inverse = (omega arith, omega arith)
why_range Factor = (omega arith, omega arith)
why_range Sum = (omega arith, omega arith)

-- ---- the wish, then the effects
-- a wish below 2 is the reason, whatever else holds
pub wish_first : (w q : ℕ) → w < 2 → (joint_order w q ≡ Err Wish) × ((k : ℕ) → product_order w k ≡ Err Wish)
unfolding joint_order joint_capped product_order product_capped wished
wish_first w q l = (rw (lt-ltb w 2 l) refl, λ k. rw (lt-ltb w 2 l) refl)

-- with a wish of 2 or more, no effect or more than 8 are
pub effects_next : (w q : ℕ) → 2 ≤ w → (q ≡ 0) ⊎ (8 < q) → joint_order w q ≡ Err Effects
unfolding joint_order joint_capped wished
effects_next w q l (inl e) = rw (le-ltb w 2 l, eq-eqb q 0 e) refl
effects_next w q l (inr m) =
    let some : q ≡ 0 → ⊥ = λ e. omega arith in
    rw (le-ltb w 2 l, ne_eqb q 0 some, lt-ltb 8 q m) refl

-- ---- the cap leaves an order
-- one of these orders is within the cap
abbrev Found : (cap dims : ℕ) → List Order → Type 0
Found cap dims os = (o : Order) × (first_within cap dims os ≡ Ok o)

-- then one of more is
found_by_lem : (cap dims : ℕ) (l : Order) (os : List Order) → Found cap dims os → (b : Bool) → within_cap (size_of l) dims cap ≡ b → Found cap dims (l ∷ os)
unfolding first_within
found_by_lem cap dims l os f true t = (l, rw t refl)
found_by_lem cap dims l os f false t = (f.0, rw t f.1)

found_before : (cap dims : ℕ) (l : Order) (os : List Order) → Found cap dims os → Found cap dims (l ∷ os)
found_before cap dims l os f = found_by_lem cap dims l os f (within_cap (size_of l) dims cap) refl

-- where order 3 is within the cap, stepping down comes to an order
module _ (cap dims : ℕ) (l : 3 ^ dims ≤ cap) where
  from_three : Found cap dims (Three ∷ [])
  unfolding first_within within_cap size_of
  from_three = (Three, rw (le-leb (3 ^ dims) cap l) refl)

  from_five : Found cap dims (Five ∷ Three ∷ [])
  from_five = found_before cap dims Five (Three ∷ []) from_three

  from_seven : Found cap dims (Seven ∷ Five ∷ Three ∷ [])
  from_seven = found_before cap dims Seven (Five ∷ Three ∷ []) from_five

  from_nine : Found cap dims (Nine ∷ Seven ∷ Five ∷ Three ∷ [])
  from_nine = found_before cap dims Nine (Seven ∷ Five ∷ Three ∷ []) from_seven

  capped_found : (o : Order) → Found cap dims (down_from o)
  unfolding down_from
  capped_found Three = from_three
  capped_found Five = from_five
  capped_found Seven = from_seven
  capped_found Nine = from_nine
  capped_found Eleven = found_before cap dims Eleven (Nine ∷ Seven ∷ Five ∷ Three ∷ []) from_nine

-- 3^8 is 6,561, so the joint rule never declines for the cap
pub joint_always : (w q : ℕ) → 2 ≤ w → 1 ≤ q → q ≤ 8 → (o : Order) × (joint_order w q ≡ Ok o)
unfolding joint_order joint_capped wished capped_from
joint_always w q l some few =
    let up : 3 ^ q ≤ 3 ^ 8 = pow-le-pow_right {n = 3} (omega arith) few in
    let f : Found 7000 q (down_from (first_order w)) = capped_found 7000 q (omega (arith, up)) (first_order w) in
    let n : q ≡ 0 → ⊥ = λ e. omega arith in
    (f.0, rw (le-ltb w 2 l, ne_eqb q 0 n, le-ltb 8 q few) f.1)

-- 3^5 is 243, so the product rule does not for up to five effects
product_found : (w k : ℕ) → 2 ≤ w → k ≤ 5 → (b : Bool) → eqb k 1 ≡ b → (o : Order) × (product_order w k ≡ Ok o)
unfolding product_order product_capped wished capped_from
product_found w k l few true t = (first_order w, rw (le-ltb w 2 l, t) refl)
product_found w k l few false t =
    let up : 3 ^ k ≤ 3 ^ 5 = pow-le-pow_right {n = 3} (omega arith) few in
    let f : Found 400 k (down_from (first_order w)) = capped_found 400 k (omega (arith, up)) (first_order w) in
    (f.0, rw (le-ltb w 2 l, t) f.1)

pub product_always : (w k : ℕ) → 2 ≤ w → k ≤ 5 → (o : Order) × (product_order w k ≡ Ok o)
product_always w k l few = product_found w k l few (eqb k 1) refl

-- ---- and where it leaves none
-- 3^6 is 729, past the product rule's 400, and so is every other order's
none_within : (k : ℕ) → 6 ≤ k → (o : Order) → first_within 400 k (down_from o) ≡ Err Cap
unfolding first_within down_from size_of
none_within k many o = none o
  where
    past : (size power : ℕ) → 3 ≤ size → power ≡ size ^ 6 → 400 < power → within_cap size k 400 ≡ false
    past size power three e m = sym (power_past size 6 k 400 power three many e m)

    three : within_cap 3 k 400 ≡ false
    three = past 3 729 (lit≤ tt) refl (lit< tt)

    five : within_cap 5 k 400 ≡ false
    five = past 5 15625 (lit≤ tt) refl (lit< tt)

    seven : within_cap 7 k 400 ≡ false
    seven = past 7 117649 (lit≤ tt) refl (lit< tt)

    nine : within_cap 9 k 400 ≡ false
    nine = past 9 531441 (lit≤ tt) refl (lit< tt)

    eleven : within_cap 11 k 400 ≡ false
    eleven = past 11 1771561 (lit≤ tt) refl (lit< tt)

    none : (o : Order) → first_within 400 k (down_from o) ≡ Err Cap
    none Three = rw three refl
    none Five = rw (five, three) refl
    none Seven = rw (seven, five, three) refl
    none Nine = rw (nine, seven, five, three) refl
    none Eleven = rw (eleven, nine, seven, five, three) refl

pub product_cap : (w k : ℕ) → 2 ≤ w → 6 ≤ k → product_order w k ≡ Err Cap
unfolding product_order product_capped wished capped_from
product_cap w k l many =
    let several : k ≡ 1 → ⊥ = λ e. omega arith in
    rw (le-ltb w 2 l, ne_eqb k 1 several) (none_within k many (first_order w))

-- ---- so an order choice declines for no other reason
same_reason : {d e : Decline} → ◌≡◌ {A = Result Order Decline} (Err d) (Err e) → d ≡ e
same_reason h = cc

not_both : {d : Decline} {o : Order} → ◌≡◌ {A = Result Order Decline} (Err d) (Ok o) → ⊥
not_both h = let z : ◌≡◌ {A = ℕ} 0 1 = cc in omega arith

-- the product rule: the wish, then the cap
pub product_declines : (w k : ℕ) (d : Decline) → product_order w k ≡ Err d → ((d ≡ Wish) × (w < 2)) ⊎ ((d ≡ Cap) × (2 ≤ w) × (6 ≤ k))
product_declines w k d e =
    ⊎_elim (λ (l : w < 2). inl (same_reason (sym e ∙ (wish_first w k l).1 k), l))
    (λ (l : 2 ≤ w). ⊎_elim (λ (m : k < 6). absurd (not_both (sym e ∙ (product_always w k l (omega arith)).1))) (λ (m : 6 ≤ k). inr (same_reason (sym e ∙ product_cap w k l m), l, m)) (lt_or_ge k 6))
    (lt_or_ge w 2)

-- the joint rule: the wish, then the effects
pub joint_declines : (w q : ℕ) (d : Decline) → joint_order w q ≡ Err d → ((d ≡ Wish) × (w < 2)) ⊎ ((d ≡ Effects) × (2 ≤ w) × ((q ≡ 0) ⊎ (8 < q)))
joint_declines w q d e =
    ⊎_elim (λ (l : w < 2). inl (same_reason (sym e ∙ (wish_first w q l).0), l))
    (λ (l : 2 ≤ w). inr (by l (lt_or_ge 8 q) (lt_or_ge 0 q)))
    (lt_or_ge w 2)
  where
    some : 2 ≤ w → (q ≡ 0) ⊎ (8 < q) → (d ≡ Effects) × (2 ≤ w) × ((q ≡ 0) ⊎ (8 < q))
    some l r = (same_reason (sym e ∙ effects_next w q l r), l, r)

    by : 2 ≤ w → (8 < q) ⊎ (q ≤ 8) → (0 < q) ⊎ (q ≤ 0) → (d ≡ Effects) × (2 ≤ w) × ((q ≡ 0) ⊎ (8 < q))
    by l (inl m) z = some l (inr m)
    by l (inr m) (inl z) = absurd (not_both (sym e ∙ (joint_always w q l z m).1))
    by l (inr m) (inr z) = some l (inl (omega arith))
