-- Tests joined by `and`, numbers within two bounds, and the number that a test picks. Assumes nothing.
use mathlib.Core.Path.{◌≡◌, refl, sym}
use mathlib.Core.Bool.{Bool, true, false, cond, ◌&&◌}
use Prim.Native.Nat.{ℕ, ◌≤◌}
use lib.Dec.{leb}
use borrow.Author.Tests.{leb-true, le-leb}
use Rattle.base.proofs.Sums.{and_true}
use Rattle.model.specs.Shape.{within}

-- base's `and_true`, turned as the tests of sizes are
pub both : {a b : Bool} → a && b ≡ true → (a ≡ true) × (b ≡ true)
both {a} {b} e =
    let p : (true ≡ a) × (true ≡ b) = and_true a b (sym e) in
    (sym p.0, sym p.1)

pub joined : {a b : Bool} → a ≡ true → b ≡ true → a && b ≡ true
joined p q = rw (p, q) refl

pub false_unless : {b : Bool} → (b ≡ true → ⊥) → false ≡ b
false_unless {b = true} f = absurd (f refl)
false_unless {b = false} f = refl

-- a number within two bounds
pub from_within : {lo hi a : ℕ} → within lo hi a ≡ true → (lo ≤ a) × (a ≤ hi)
from_within {lo} {hi} {a} e =
    let p : (leb lo a ≡ true) × (leb a hi ≡ true) = both e in
    (leb-true lo a p.0, leb-true a hi p.1)

pub to_within : {lo hi a : ℕ} → lo ≤ a → a ≤ hi → within lo hi a ≡ true
to_within {lo} {hi} {a} p q = joined (le-leb lo a p) (le-leb a hi q)

-- what bounds two numbers bounds the one that a test picks
pub picked_few : (b : Bool) {x y c : ℕ} → x ≤ c → y ≤ c → cond b x y ≤ c
picked_few true p q = p
picked_few false p q = q
