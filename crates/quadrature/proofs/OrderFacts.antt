-- What later crates need of a chosen order: its power is within the cap. Said once over the cap and the dims. Assumes nothing.
use Rattle.quadrature.specs.declared.orders.Decline.{Decline}
use Rattle.std.specs.Prelude.{Result, Ok, Err}
use mathlib.Core.Path.{◌≡◌, refl}
use mathlib.Core.List.{List, [], ◌∷◌}
use mathlib.Core.Bool.{Bool, true, false, ◌||◌, cond}
use mathlib.Core.Logic.{⊎_elim}
use Prim.Native.Nat.{ℕ, ◌^◌, ◌≤◌, ◌<◌}
use native.Mathlib.Omega.{arith}
use borrow.Author.Tests.{leb-true, ne_eqb, eqb-false, ltb-false}
use lib.Dec.{leb, ltb, eqb}
use Rattle.quadrature.specs.declared.orders.Order.{Order}
use Rattle.base.proofs.Sums.{lt_or_ge}
use Rattle.quadrature.specs.declared.orders.Decline.TheVariants.{Effects}
use Rattle.quadrature.specs.Orders.{size_of, wished, within_cap, down_from, first_within, capped_from, product_capped, product_order, joint_capped, joint_order}

same_order : {o l : Order} → ◌≡◌ {A = Result Order Decline} (Ok o) (Ok l) → o ≡ l
same_order e = cc

never : {d : Decline} {l : Order} → ◌≡◌ {A = Result Order Decline} (Err d) (Ok l) → ⊥
never e = let z : ◌≡◌ {A = ℕ} 0 1 = cc in omega arith

-- by the test of one order: it is the one chosen, or one of the rest is
picked : (cap dims : ℕ) (o l : Order) (rest : Result Order Decline) (b : Bool) → leb (size_of o ^ dims) cap ≡ b → (rest ≡ Ok l → size_of l ^ dims ≤ cap) → cond b (Ok o) rest ≡ Ok l → size_of l ^ dims ≤ cap
picked cap dims o l rest true t f e = rw (← same_order e) (leb-true (size_of o ^ dims) cap t)
picked cap dims o l rest false t f e = f e

-- the first order within the cap is within it
first_within_lem : (cap dims : ℕ) (os : List Order) (l : Order) → first_within cap dims os ≡ Ok l → size_of l ^ dims ≤ cap
unfolding first_within within_cap
first_within_lem cap dims [] l e = absurd (never e)
first_within_lem cap dims (o ∷ os) l e =
    picked cap dims o l (first_within cap dims os) (leb (size_of o ^ dims) cap) refl (first_within_lem cap dims os l) e

pub capped_within : (cap dims : ℕ) (o l : Order) → capped_from cap dims o ≡ Ok l → size_of l ^ dims ≤ cap
unfolding capped_from
capped_within cap dims o l e = first_within_lem cap dims (down_from o) l e

-- one block of k effects, k other than 1: at most 400 points a group
product_from_lem : (k : ℕ) (l : Order) (c : Result Order Decline) → (k ≡ 1 → ⊥) → product_capped k c ≡ Ok l → size_of l ^ k ≤ 400
unfolding product_capped
product_from_lem k l (Err d) n e = absurd (never e)
product_from_lem k l (Ok o) n e = capped_within 400 k o l (rw (ne_eqb k 1 n) at e)

pub product_within : (w k : ℕ) (l : Order) → (k ≡ 1 → ⊥) → product_order w k ≡ Ok l → size_of l ^ k ≤ 400
unfolding product_order
product_within w k l n e = product_from_lem k l (wished w) n e

-- all q effects: q is from 1 to 8, and at most 7,000 points
joint_tested : (q : ℕ) (o l : Order) (a b : Bool) → eqb q 0 ≡ a → ltb 8 q ≡ b → cond (a || b) (Err Effects) (capped_from 7000 q o) ≡ Ok l → ((0 < q) × (q ≤ 8)) × (size_of l ^ q ≤ 7000)
joint_tested q o l true b s t e = absurd (never e)
joint_tested q o l false true s t e = absurd (never e)
joint_tested q o l false false s t e =
    let n : q ≡ 0 → ⊥ = eqb-false q 0 s in
    ((⊎_elim (λ (z : 0 < q). z) (λ (z : q ≤ 0). absurd (n (omega arith))) (lt_or_ge 0 q), ltb-false 8 q t), capped_within 7000 q o l e)

joint_from : (q : ℕ) (l : Order) (c : Result Order Decline) → joint_capped q c ≡ Ok l → ((0 < q) × (q ≤ 8)) × (size_of l ^ q ≤ 7000)
unfolding joint_capped
joint_from q l (Err d) e = absurd (never e)
joint_from q l (Ok o) e = joint_tested q o l (eqb q 0) (ltb 8 q) refl refl e

pub joint_within : (w q : ℕ) (l : Order) → joint_order w q ≡ Ok l → ((0 < q) × (q ≤ 8)) × (size_of l ^ q ≤ 7000)
unfolding joint_order
joint_within w q l e = joint_from q l (wished w) e
