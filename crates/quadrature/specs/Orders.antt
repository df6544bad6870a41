-- Quadrature orders: by the wish, and by the cap on the points; and the number of each reason for none. Document 01, module 2 (`resolve_gh_order`, `_product`, `_joint`); document 02, P5. Assumes nothing.
use Rattle.std.specs.Prelude.{List, [], ◌∷◌, Bool, ◌||◌, cond, ℕ, ◌^◌, leb, ltb, eqb, Option, Some, None, Result, Ok, Err}
use Rattle.quadrature.specs.declared.orders.Order.{Order}
use Rattle.quadrature.specs.declared.orders.Order.TheVariants.{Three, Five, Seven, Nine, Eleven}
use Rattle.quadrature.specs.declared.orders.Decline.{Decline}
use Rattle.quadrature.specs.declared.orders.Decline.TheVariants.{Wish, Effects, Cap, Diagonal, Inverse, Factor, Sum}

-- how many nodes a rule has
unfoldable pub size_of : Order → ℕ
size_of Three = 3
size_of Five = 5
size_of Seven = 7
size_of Nine = 9
size_of Eleven = 11

-- the number under which each reason for declining is told: P5's list, in its order; a failed inverse and a failed factor are one reason there
abbrev pub decline_number : Decline → ℕ
decline_number Wish = 1
decline_number Effects = 2
decline_number Cap = 3
decline_number Diagonal = 4
decline_number Inverse = 5
decline_number Factor = 5
decline_number Sum = 6

-- the order of a number of nodes; any other number has no rule
unfoldable pub order_of : ℕ → Option Order
order_of n =
    cond (eqb n 3) (Some Three)
    (cond (eqb n 5) (Some Five) (cond (eqb n 7) (Some Seven) (cond (eqb n 9) (Some Nine) (cond (eqb n 11) (Some Eleven) None))))

-- the first of 3, 5, 7, 9, 11 not below the wish, and 11 above
unfoldable pub first_order : ℕ → Order
first_order w = cond (leb w 3) Three (cond (leb w 5) Five (cond (leb w 7) Seven (cond (leb w 9) Nine Eleven)))

-- `resolve_gh_order`: below 2 none
unfoldable pub wished : ℕ → Result Order Decline
wished w = cond (ltb w 2) (Err Wish) (Ok (first_order w))

-- size^dims is at most the cap
unfoldable pub within_cap : ℕ → ℕ → ℕ → Bool
within_cap size dims cap = leb (size ^ dims) cap

-- the next order down, none below 3
unfoldable pub next_lower : Order → Option Order
next_lower Three = None
next_lower Five = Some Three
next_lower Seven = Some Five
next_lower Nine = Some Seven
next_lower Eleven = Some Nine

-- an order and those below it
unfoldable pub down_from : Order → List Order
down_from Three = Three ∷ []
down_from Five = Five ∷ Three ∷ []
down_from Seven = Seven ∷ Five ∷ Three ∷ []
down_from Nine = Nine ∷ Seven ∷ Five ∷ Three ∷ []
down_from Eleven = Eleven ∷ Nine ∷ Seven ∷ Five ∷ Three ∷ []

-- the first of the orders with order^dims at most the cap
unfoldable pub first_within : ℕ → ℕ → List Order → Result Order Decline
first_within cap dims [] = Err Cap
first_within cap dims (o ∷ os) = cond (within_cap (size_of o) dims cap) (Ok o) (first_within cap dims os)

-- step down until order^dims is at most the cap, none below 3
unfoldable pub capped_from : ℕ → ℕ → Order → Result Order Decline
capped_from cap dims o = first_within cap dims (down_from o)

-- product: k = 1 keeps the order, else the cap is 400
unfoldable pub product_capped : ℕ → Result Order Decline → Result Order Decline
product_capped k (Err d) = Err d
product_capped k (Ok o) = cond (eqb k 1) (Ok o) (capped_from 400 k o)

-- `resolve_gh_order_product`
unfoldable pub product_order : ℕ → ℕ → Result Order Decline
product_order w k = product_capped k (wished w)

-- joint: none for q = 0 or q above 8, else the cap is 7,000
unfoldable pub joint_capped : ℕ → Result Order Decline → Result Order Decline
joint_capped q (Err d) = Err d
joint_capped q (Ok o) = cond (eqb q 0 || ltb 8 q) (Err Effects) (capped_from 7000 q o)

-- `resolve_gh_order_joint`
unfoldable pub joint_order : ℕ → ℕ → Result Order Decline
joint_order w q = joint_capped q (wished w)
