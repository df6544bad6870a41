-- Laws of the order of doubles: under a minus, of what is below, of `max` and `clamp`. Assumes nothing.
use mathlib.Core.Path.{◌≡◌, refl, sym, ap, ◌∙◌}
use mathlib.Core.Bool.{Bool, true, false, not, ◌&&◌, ◌||◌, beq, cond}
use Prim.Native.Nat.{ℕ, ◌+◌, ◌*◌}
use native.Mathlib.Nat.{add_comm}
use native.Mathlib.Omega.{arith}
use borrow.Author.Tests.{eq-eqb, ne_eqb, eqb-true, ltb-true}
use lib.Dec.{eqb, ltb}
use lib.Ieee.{Float, nan, inf, fin, up, down, below, level, neg, lt, eq, le, is_nan}
use Rattle.base.specs.Number.{max_f, clamp_f}
use Rattle.base.proofs.Doubles.{by_test, ff, not_both, at_most_self}
use Rattle.base.proofs.Sums.{and_true}

-- ---- a minus turns the order
below_turned : (s : Bool) (a : ℕ) (t : Bool) (b : ℕ) → below (not t) b (not s) a ≡ below s a t b
below_turned false a false b = refl
below_turned false a true b = refl
below_turned true a false b = ap (ltb 0) (add_comm b a)
below_turned true a true b = refl

lt_turned : (x y : Float) → lt x y ≡ true → lt (neg y) (neg x) ≡ true
unfolding lt neg
lt_turned nan y h = absurd (ff h)
lt_turned (inf s) nan h = absurd (ff h)
lt_turned (fin s m e) nan h = absurd (ff h)
lt_turned (inf true) (inf true) h = absurd (ff h)
lt_turned (inf true) (inf false) h = refl
lt_turned (inf false) (inf t) h = absurd (ff h)
lt_turned (inf true) (fin t n d) h = refl
lt_turned (inf false) (fin t n d) h = absurd (ff h)
lt_turned (fin s m e) (inf t) h = h
lt_turned (fin s m e) (fin t n d) h = below_turned s (m * up e * down d) t (n * up d * down e) ∙ h

level_turned : (s : Bool) (a : ℕ) (t : Bool) (b : ℕ) → level s a t b ≡ true → level (not t) b (not s) a ≡ true
level_turned s a t b h =
    let p : (true ≡ eqb a b) × (true ≡ (beq s t || eqb a 0)) = and_true (eqb a b) (beq s t || eqb a 0) (sym h) in
    let q : a ≡ b = eqb-true a b (sym p.0) in
    rw (← q, eq-eqb a a refl) (signs s t (eqb a 0) (sym p.1))
  where
    signs : (s t z : Bool) → beq s t || z ≡ true → beq (not t) (not s) || z ≡ true
    signs true true z h = refl
    signs true false z h = h
    signs false true z h = h
    signs false false z h = refl

eq_turned : (x y : Float) → eq x y ≡ true → eq (neg y) (neg x) ≡ true
unfolding eq neg
eq_turned nan y h = absurd (ff h)
eq_turned (inf s) nan h = absurd (ff h)
eq_turned (fin s m e) nan h = absurd (ff h)
eq_turned (inf true) (inf true) h = refl
eq_turned (inf true) (inf false) h = absurd (ff h)
eq_turned (inf false) (inf true) h = absurd (ff h)
eq_turned (inf false) (inf false) h = refl
eq_turned (inf s) (fin t n d) h = absurd (ff h)
eq_turned (fin s m e) (inf t) h = absurd (ff h)
eq_turned (fin s m e) (fin t n d) h = level_turned s (m * up e * down d) t (n * up d * down e) h

pub le_turned : (x y : Float) → le x y ≡ true → le (neg y) (neg x) ≡ true
unfolding le
le_turned x y h = either (lt x y) (eq x y) refl refl h
  where
    either : (s t : Bool) → lt x y ≡ s → eq x y ≡ t → s || t ≡ true → lt (neg y) (neg x) || eq (neg y) (neg x) ≡ true
    either true t p q h = rw (lt_turned x y p)
    either false true p q h = rw (eq_turned x y q) (or_true (lt (neg y) (neg x)))
      where
        or_true : (b : Bool) → b || true ≡ true
        or_true true = refl
        or_true false = refl
    either false false p q h = absurd (ff h)

-- ---- `max` is at least its second argument, also where the first is a NaN
pub max_from : (a b : Float) → is_nan b ≡ false → le b (max_f a b) ≡ true
unfolding max_f le
max_from a b h = by_test (λ z. le b z ≡ true) (lt b a || is_nan b) (λ p. rw (either (lt b a) (is_nan b) p h)) (λ _. at_most_self b h)
  where
    either : (s t : Bool) → s || t ≡ true → t ≡ false → s ≡ true
    either true t p q = refl
    either false t p q = absurd (ff (sym q ∙ p))

-- ---- a clamped number is not clamped further
pub clamp_again : (lo hi x : Float) → lt lo lo ≡ false → lt hi hi ≡ false → lt hi lo ≡ false → clamp_f lo hi (clamp_f lo hi x) ≡ clamp_f lo hi x
unfolding clamp_f
clamp_again lo hi x l h o = by_case (lt x lo) (lt hi x) refl refl
  where
    kept : (z : Float) → lt z lo ≡ false → lt hi z ≡ false → clamp_f lo hi z ≡ z
    kept z p q = rw (p, q)

    by_case : (s t : Bool) → lt x lo ≡ s → lt hi x ≡ t → clamp_f lo hi (cond s lo (cond t hi x)) ≡ cond s lo (cond t hi x)
    by_case true t p q = kept lo l o
    by_case false true p q = kept hi o h
    by_case false false p q = kept x p q

-- ---- what is below a number is not at or above it
below_not_level : (s : Bool) (a : ℕ) (t : Bool) (b : ℕ) → below s a t b ≡ true → level t b s a ≡ false
below_not_level false a false b h = rw (ne_eqb b a (omega (arith, ltb-true a b h)))
below_not_level false a true b h = absurd (ff h)
below_not_level true a false b h = by_zero (eqb b a) (eqb b 0) refl refl
  where
    by_zero : (p q : Bool) → eqb b a ≡ p → eqb b 0 ≡ q → p && q ≡ false
    by_zero true true e z =
        let never : ⊥ = omega (arith, ltb-true 0 (a + b) h, eqb-true b a e, eqb-true b 0 z) in
        absurd never
    by_zero true false e z = refl
    by_zero false q e z = refl
below_not_level true a true b h = rw (ne_eqb b a (omega (arith, ltb-true b a h)))

below_not_equal : (x y : Float) → lt x y ≡ true → eq y x ≡ false
unfolding lt eq
below_not_equal nan y h = absurd (ff h)
below_not_equal (inf s) nan h = absurd (ff h)
below_not_equal (fin s m e) nan h = absurd (ff h)
below_not_equal (inf true) (inf true) h = absurd (ff h)
below_not_equal (inf true) (inf false) h = refl
below_not_equal (inf false) (inf t) h = absurd (ff h)
below_not_equal (inf s) (fin t n d) h = refl
below_not_equal (fin s m e) (inf t) h = refl
below_not_equal (fin s m e) (fin t n d) h = below_not_level s (m * up e * down d) t (n * up d * down e) h

pub below_not_from : (x y : Float) → lt x y ≡ true → le y x ≡ false
unfolding le
below_not_from x y h = rw (not_both x y h, below_not_equal x y h)
