-- The caps of an inner fit, whatever its limit, link and shape, are within those at the largest limit, which the sums of accounts go by. Assumes nothing.
use mathlib.Core.Path.{◌≡◌}
use mathlib.Core.Bool.{cond}
use mathlib.Core.Logic.{⊎_elim}
use Prim.Native.Nat.{ℕ, ◌*◌, ◌<◌, ◌≤◌}
use native.Mathlib.Nat.{mul-le-mul, mul-le-mul_left, le-mul_of_pos_right, eq-or-lt_of_le}
use native.Mathlib.Omega.{arith}
use lib.Dec.{eqb}
use borrow.Author.Tests.{eq-eqb, ne_eqb}
use Rattle.base.specs.Sum.{◌!!◌}
use Rattle.model.specs.Names.{is_inverse}
use Rattle.model.specs.Shape.{InRange}
use Rattle.model.specs.Account.{AtMost, inner_cap}
use Rattle.model.specs.Caps.{tries_cap, points_cap, inner_cap_of}
use Rattle.model.specs.declared.names.Link.{Link}
use Rattle.model.specs.declared.sizes.Shape.{Shape}
use Rattle.model.proofs.Tests.{picked_few}
use Rattle.model.proofs.Shapes.{effects_small}

-- the tries of one solve
pub tries_few : (link : Link) → tries_cap link ≤ 100
unfolding tries_cap
tries_few link = picked_few (is_inverse link) (omega arith) (omega arith)

-- with one effect a group there are at most 32 groups, with more at most 16
groups_points : (m k : ℕ) → m * k ≤ 32 → 1 ≤ k → cond (eqb k 1) 11 400 * m ≤ 7000
groups_points m k h l =
    ⊎_elim
    (λ (e : 1 ≡ k). rw (eq-eqb k 1 (omega arith)) (omega (arith, le-mul_of_pos_right {m = k} m l)))
    (λ (g : 1 < k). rw (ne_eqb k 1 (λ e. omega arith)) (omega (arith, mul-le-mul_left m g)))
    (eq-or-lt_of_le l)

pub points_few : (s : Shape) → InRange s → points_cap s ≤ 7000
unfolding points_cap
points_few s r =
    picked_few (eqb s.count 1) (groups_points (s.m !! 0) (s.k !! 0) (omega (arith, effects_small s r 0 r.some)) (r.k_some 0 r.some))
    (omega arith)

pub inner_caps : (s : Shape) (link : Link) (L : ℕ) → InRange s → L ≤ 1000 → AtMost inner_cap (inner_cap_of s link L)
unfolding inner_cap_of
inner_caps s link L r l =
    let t : tries_cap link * L ≤ 100000 = mul-le-mul {n₂ = 100} {m₂ = 1000} (tries_few link) l
    in record { fits = omega arith; solves = l; tries = t; points = points_few s r; eta = t; mean = t; pwrss = t; ok = l }
