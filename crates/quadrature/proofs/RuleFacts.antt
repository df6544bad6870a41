-- What document 01 says of the rules, proved once over all five: a test that the checker computes over the whole of each table, and what it says of each entry. Assumes nothing.
use mathlib.Core.Path.{◌≡◌, refl, sym, ap, ◌∙◌}
use mathlib.Core.Bool.{Bool, true, false, ◌&&◌, ◌||◌}
use Prim.Native.Nat.{ℕ, ◌+◌, ◌-◌, ◌/◌, ◌<◌}
use native.Mathlib.Omega.{arith}
use borrow.Author.Tests.{eqb-true, ne_eqb}
use lib.Dec.{T, eqb}
use lib.Ieee.{Float, binary64, lt, neg, fits, to_bits, of_bits}
use lib.Ieee.Bits.{of_bits-to_bits}
use Rattle.base.specs.Number.{zero_f}
use Rattle.base.specs.Sum.{◌!◌, all_to}
use Rattle.base.proofs.Sums.{all_at, and_true}
use Rattle.quadrature.specs.declared.orders.Order.{Order}
use Rattle.quadrature.specs.declared.orders.Order.TheVariants.{Three, Five, Seven, Nine, Eleven}
use Rattle.quadrature.specs.Orders.{size_of}
use Rattle.quadrature.specs.Rules.{nodes_of, weights_of}

-- both are doubles of one pattern
same : Float → Float → Bool
same x y = (fits binary64 x && fits binary64 y) && eqb (to_bits binary64 x) (to_bits binary64 y)

truth : (b : Bool) → true ≡ b → T b
truth true e = tt
truth false e = absurd (let z : ◌≡◌ {A = ℕ} 0 1 = cc in omega arith)

same_is : (x y : Float) → true ≡ same x y → x ≡ y
unfolding same
same_is x y h =
    let p = and_true (fits binary64 x && fits binary64 y) (eqb (to_bits binary64 x) (to_bits binary64 y)) h in
    let f = and_true (fits binary64 x) (fits binary64 y) p.0 in
    sym (of_bits-to_bits binary64 x (truth (fits binary64 x) f.0))
    ∙ ap (of_bits binary64) (eqb-true (to_bits binary64 x) (to_bits binary64 y) (sym p.1))
    ∙ of_bits-to_bits binary64 y (truth (fits binary64 y) f.1)

-- the place that mirrors place i
abbrev mirror : Order → ℕ → ℕ
mirror o i = size_of o - 1 - i

-- ---- the tests of a place
above_zero_at : Order → ℕ → Bool
above_zero_at o i = lt zero_f (weights_of o ! i)

weight_mirrors_at : Order → ℕ → Bool
weight_mirrors_at o i = same (weights_of o ! i) (weights_of o ! mirror o i)

node_mirrors_at : Order → ℕ → Bool
node_mirrors_at o i = eqb i (size_of o / 2) || same (nodes_of o ! mirror o i) (neg (nodes_of o ! i))

rises_at : Order → ℕ → Bool
rises_at o i = lt (nodes_of o ! i) (nodes_of o ! (i + 1))

-- ---- computed over each table
tested : (o : Order) → ((true ≡ all_to (size_of o) (above_zero_at o)) × (true ≡ all_to (size_of o) (weight_mirrors_at o))) × ((true ≡ all_to (size_of o) (node_mirrors_at o)) × (true ≡ all_to (size_of o - 1) (rises_at o)))
unfolding size_of nodes_of weights_of all_to above_zero_at weight_mirrors_at node_mirrors_at rises_at same lt neg fits to_bits of_bits
tested Three = ((refl, refl), (refl, refl))
tested Five = ((refl, refl), (refl, refl))
tested Seven = ((refl, refl), (refl, refl))
tested Nine = ((refl, refl), (refl, refl))
tested Eleven = ((refl, refl), (refl, refl))

-- ---- so, of every order
-- weights are all above zero
pub weights_above_zero : (o : Order) (i : ℕ) → i < size_of o → lt zero_f (weights_of o ! i) ≡ true
unfolding above_zero_at
weights_above_zero o i l = all_at (above_zero_at o) (size_of o) (tested o).0.0 i l

-- they mirror bit for bit
pub weights_mirror : (o : Order) (i : ℕ) → i < size_of o → weights_of o ! i ≡ weights_of o ! (size_of o - 1 - i)
unfolding weight_mirrors_at
weights_mirror o i l = same_is (weights_of o ! i) (weights_of o ! (size_of o - 1 - i)) (sym (all_at (weight_mirrors_at o) (size_of o) (tested o).0.1 i l))

-- nodes do with the sign turned, but for the middle one
pub nodes_mirror : (o : Order) (i : ℕ) → i < size_of o → (i ≡ size_of o / 2 → ⊥) → nodes_of o ! (size_of o - 1 - i) ≡ neg (nodes_of o ! i)
unfolding node_mirrors_at
nodes_mirror o i l n =
    let h : true ≡ node_mirrors_at o i = sym (all_at (node_mirrors_at o) (size_of o) (tested o).1.0 i l) in
    same_is (nodes_of o ! (size_of o - 1 - i)) (neg (nodes_of o ! i)) (rw (ne_eqb i (size_of o / 2) n) at h)

-- which is +0.0
pub node_middle : (o : Order) → nodes_of o ! (size_of o / 2) ≡ zero_f
unfolding size_of nodes_of
node_middle Three = refl
node_middle Five = refl
node_middle Seven = refl
node_middle Nine = refl
node_middle Eleven = refl

-- nodes rise
pub nodes_rise : (o : Order) (i : ℕ) → i < size_of o - 1 → lt (nodes_of o ! i) (nodes_of o ! (i + 1)) ≡ true
unfolding rises_at
nodes_rise o i l = all_at (rises_at o) (size_of o - 1) (tested o).1.1 i l
