-- Laws of stepping down through the orders until the cap holds. Assumes nothing.
use Rattle.std.specs.Option.{ok_or}
use Rattle.std.specs.Prelude.{Option, Some, None, Result, Ok, Err}
use mathlib.Core.Path.{◌≡◌, refl}
use mathlib.Core.List.{[], ◌∷◌}
use mathlib.Core.Bool.{true, false}
use Prim.Native.Nat.{ℕ, ◌<◌, ◌≤◌}
use native.Mathlib.Omega.{arith}
use lib.Dec.{lit<, lit≤}
use Rattle.quadrature.specs.declared.orders.Order.{Order}
use Rattle.quadrature.specs.declared.orders.Order.TheVariants.{Three, Five, Seven, Nine, Eleven}
use Rattle.quadrature.specs.declared.orders.Decline.{Decline}
use Rattle.quadrature.specs.declared.orders.Decline.TheVariants.{Cap}
use Rattle.quadrature.specs.Orders.{size_of, within_cap, next_lower, down_from, first_within}

-- every order has 3 to 11 nodes
pub size_from : (o : Order) → 3 ≤ size_of o
unfolding size_of
size_from Three = lit≤ tt
size_from Five = lit≤ tt
size_from Seven = lit≤ tt
size_from Nine = lit≤ tt
size_from Eleven = lit≤ tt

pub size_to : (o : Order) → size_of o ≤ 11
unfolding size_of
size_to Three = lit≤ tt
size_to Five = lit≤ tt
size_to Seven = lit≤ tt
size_to Nine = lit≤ tt
size_to Eleven = lit≤ tt

-- the next order down, below an order that has one
lower_is : (o l : Order) → next_lower o ≡ Some l → (down_from o ≡ o ∷ down_from l) × (size_of l < size_of o)
unfolding next_lower down_from size_of
lower_is Three l h = absurd (let z : ◌≡◌ {A = ℕ} 0 1 = cc in omega arith)
lower_is Five l h = let e : Three ≡ l = cc in rw (← e) (refl, lit< tt)
lower_is Seven l h = let e : Five ≡ l = cc in rw (← e) (refl, lit< tt)
lower_is Nine l h = let e : Seven ≡ l = cc in rw (← e) (refl, lit< tt)
lower_is Eleven l h = let e : Nine ≡ l = cc in rw (← e) (refl, lit< tt)

lowest_is : (o : Order) → next_lower o ≡ None → down_from o ≡ o ∷ []
unfolding next_lower down_from
lowest_is Three h = refl
lowest_is Five h = absurd (let z : ◌≡◌ {A = ℕ} 0 1 = cc in omega arith)
lowest_is Seven h = absurd (let z : ◌≡◌ {A = ℕ} 0 1 = cc in omega arith)
lowest_is Nine h = absurd (let z : ◌≡◌ {A = ℕ} 0 1 = cc in omega arith)
lowest_is Eleven h = absurd (let z : ◌≡◌ {A = ℕ} 0 1 = cc in omega arith)

pub lower_falls : (o l : Order) → next_lower o ≡ Some l → size_of l < size_of o
lower_falls o l h = (lower_is o l h).1

-- the first order that holds is the one at hand where it does
pub first_here : (cap dims : ℕ) (o : Order) → within_cap (size_of o) dims cap ≡ true → first_within cap dims (down_from o) ≡ Ok o
unfolding first_within down_from
first_here cap dims Three h = rw h refl
first_here cap dims Five h = rw h refl
first_here cap dims Seven h = rw h refl
first_here cap dims Nine h = rw h refl
first_here cap dims Eleven h = rw h refl

-- else one of those below it
pub first_below : (cap dims : ℕ) (o l : Order) → within_cap (size_of o) dims cap ≡ false → next_lower o ≡ Some l → first_within cap dims (down_from o) ≡ first_within cap dims (down_from l)
unfolding first_within
first_below cap dims o l h q = rw ((lower_is o l q).0, h) refl

-- and none where there is none below
pub first_none : (cap dims : ℕ) (o : Order) → within_cap (size_of o) dims cap ≡ false → next_lower o ≡ None → first_within cap dims (down_from o) ≡ Err Cap
unfolding first_within
first_none cap dims o h q = rw (lowest_is o q, h) refl

-- ---- the next order down, or Cap where there is none
pub found_lower : (o : Option Order) (l : Order) → ◌≡◌ {A = Result Order Decline} (ok_or o Cap) (Ok l) → o ≡ Some l
found_lower None l e = cc
found_lower (Some m) l e = cc

pub no_lower : (o : Option Order) (d : Decline) → ◌≡◌ {A = Result Order Decline} (ok_or o Cap) (Err d) → (o ≡ None) × (d ≡ Cap)
no_lower None d e = (refl, cc)
no_lower (Some m) d e = (cc, cc)
