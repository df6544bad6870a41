-- The square root is the double nearest to the root, no double is as near, and that leaves one answer. Assumes nothing.
use Rattle.std.proofs.Common.{◌≡◌, ℕ, zero, suc, ◌+◌, ◌-◌, ◌*◌, ◌/◌, ◌%◌, ◌^◌, ◌<◌, ◌≤◌, true, false, T, ◌⊎◌, sym, refl, ap, ◌∙◌, subst, inl, inr, ⊎_elim, le_trans, le_of_eq, lt_of_lt_of_le, lt_of_le_of_lt, mul-le-mul_right, mul_assoc, add-mul, mul-le-mul, le_antisymm, lt_of_mul-lt-mul_right, eq-or-lt_of_le, mul-lt-mul_of_pos_right, pow-suc, mul-add, arith, lt→ltb, pow_pos, pow_mono, pow-add}
use native.Mathlib.Nat.{mul-mul-mul_comm}
use native.Mathlib.Omega.{by_contra}
use lib.Ieee.{Float, nan, inf, fin, binary64, of_bits, to_bits, fits, lt, size}
use lib.Ieee.Bits.{of_bits-to_bits}
use lib.Ieee.Exact.{HasValue}
use lib.Ieee.Positive.{positive, value_pos, first_pos}
use Rattle.base.specs.Number.{bits, zero_f, finite, negative}
use Rattle.base.proofs.Doubles.{ff}
use Rattle.root.specs.Sqrt.{nearest_from, root_of, units_of, sqrt_of}
use Rattle.root.specs.Near.{Near, Nearer, NearestRoot, Digits53}
use Rattle.root.proofs.Squares.{near_is, near_digits}
use Rattle.root.proofs.Place.{four, four_pos, Placed, placed, at_place}
use Rattle.root.proofs.Units.{sig, sig_lt, units_of_value, units_placed, value_bits, finite_of_value, sign_of_value}
use Rattle.root.proofs.Cases.{Above, zero_above, of_above, pattern_below}

-- ---- numbers
lt_or_le : (a b : ℕ) → (a < b) ⊎ (b ≤ a)
lt_or_le a zero = inr (omega arith)
lt_or_le zero (suc b) = inl (omega arith)
lt_or_le (suc a) (suc b) = ⊎_elim (λ (h : a < b). inl (omega arith)) (λ (h : b ≤ a). inr (omega arith)) (lt_or_le a b)

next_square : (r : ℕ) → (r + 1) * (r + 1) ≡ r * r + 2 * r + 1
next_square r = omega (arith, add-mul r 1 (r + 1), mul-add r r 1)

-- ---- doubles are multiples of their place
square : (a k : ℕ) → a * 2 ^ k * (a * 2 ^ k) ≡ a * a * 4 ^ k
square a k = mul-mul-mul_comm a (2 ^ k) a (2 ^ k) ∙ ap (λ (x : ℕ). a * a * x) (sym (four k))

record Multiple (p k : ℕ) : Type 0 where
  pub c : ℕ
  pub is : p ≡ c * 2 ^ k

-- from 2 ^ 52 places of 2 ^ k units on, a number of units of a double is a multiple of 2 ^ k
spaced : (g j k : ℕ) → g < 0x20_0000_0000_0000 → 2 ^ 52 * 2 ^ k ≤ g * 2 ^ j → Multiple (g * 2 ^ j) k
spaced g j k b h =
    let l : k ≤ j = by_contra k j (λ z.
    let up : 2 ^ suc j ≤ 2 ^ k = pow_mono z in
    let most : g * 2 ^ j ≤ 0x1f_ffff_ffff_ffff * 2 ^ j = mul-le-mul_right (2 ^ j) (omega arith) in
    omega (arith, pow-suc 2 j, pow_pos j)) in
    let z : j ≡ j - k + k = omega arith in
    record {
      c = g * 2 ^ (j - k);
      is = ap (λ (x : ℕ). g * 2 ^ x) z ∙ ap (λ (x : ℕ). g * x) (pow-add 2 (j - k) k) ∙ sym (mul_assoc g (2 ^ (j - k)) (2 ^ k));
    }

-- ---- whole numbers of units on either side of q places
apart : (a q k : ℕ) → a * 2 ^ k + q * 2 ^ k ≡ (a + q) * 2 ^ k
apart a q k = sym (add-mul a q (2 ^ k))

module _ (Y q k p : ℕ) (full : 2 ^ 52 ≤ q) (s : 2 ^ 52 * 2 ^ k ≤ p → Multiple p k) where
  above_side : 4 * Y < (2 * q + 1) * (2 * q + 1) * 4 ^ k → q * 2 ^ k < p → 4 * Y < (p + q * 2 ^ k) * (p + q * 2 ^ k)
  above_side w h =
      let g : 2 ^ 52 * 2 ^ k ≤ q * 2 ^ k = mul-le-mul_right (2 ^ k) full in
      let c = s (omega arith) in
      let l : q < c.c = lt_of_mul-lt-mul_right (2 ^ k) (subst (λ (y : ℕ). q * 2 ^ k < y) c.is h) in
      let a : (2 * q + 1) * 2 ^ k ≤ (c.c + q) * 2 ^ k = mul-le-mul_right (2 ^ k) (omega arith) in
      let b : (2 * q + 1) * 2 ^ k ≤ p + q * 2 ^ k = omega (arith, a, c.is, apart c.c q k) in
      lt_of_lt_of_le w (le_trans (le_of_eq (sym (square (2 * q + 1) k))) (mul-le-mul b b))

  -- p is at most q - 1 places, where q is not the first number of 53 digits
  one_less : 2 ^ 52 < q → p < q * 2 ^ k → p ≤ (q - 1) * 2 ^ k
  one_less more h =
      ⊎_elim
      (λ (g : p < 2 ^ 52 * 2 ^ k).
      let a : 2 ^ 52 * 2 ^ k ≤ (q - 1) * 2 ^ k = mul-le-mul_right (2 ^ k) (omega arith) in
      omega arith)
      (λ (g : 2 ^ 52 * 2 ^ k ≤ p).
      let c = s g in
      let l : c.c < q = lt_of_mul-lt-mul_right (2 ^ k) (subst (λ (y : ℕ). y < q * 2 ^ k) c.is h) in
      le_trans (le_of_eq c.is) (mul-le-mul_right (2 ^ k) (omega arith)))
      (lt_or_le p (2 ^ 52 * 2 ^ k))

  below_side : 4 ^ 52 * 4 ^ k ≤ Y → (2 * q - 1) * (2 * q - 1) * 4 ^ k < 4 * Y → p < q * 2 ^ k → (p + q * 2 ^ k) * (p + q * 2 ^ k) < 4 * Y
  below_side least w h =
      ⊎_elim
      (λ (g : 2 ^ 52 ≡ q).
      let b : p + q * 2 ^ k + 1 ≤ 2 ^ 53 * 2 ^ k = omega (arith, ap (λ (n : ℕ). n * 2 ^ k) g) in
      let c : (p + q * 2 ^ k + 1) * (p + q * 2 ^ k + 1) ≤ 4 ^ 53 * 4 ^ k = le_trans (mul-le-mul b b) (le_of_eq (square (2 ^ 53) k)) in
      omega (arith, c, next_square (p + q * 2 ^ k)))
      (λ (g : 2 ^ 52 < q).
      let a : (q - 1) * 2 ^ k + q * 2 ^ k ≡ (2 * q - 1) * 2 ^ k = apart (q - 1) q k ∙ ap (λ (y : ℕ). y * 2 ^ k) (omega arith) in
      let b : p + q * 2 ^ k ≤ (2 * q - 1) * 2 ^ k = omega (arith, a, one_less g h) in
      lt_of_le_of_lt (le_trans (mul-le-mul b b) (le_of_eq (square (2 * q - 1) k))) w)
      (eq-or-lt_of_le full)

-- ---- a double at or above zero, by its pattern
record Counted (z : Float) : Type 0 where
  pub g : ℕ
  pub j : ℕ
  pub value : HasValue z false (g * 2 ^ j) (2 ^ 1074)
  pub most : g < 0x20_0000_0000_0000
  pub last : j < 2046

counted : (z : Float) → T (fits binary64 z) → finite z ≡ true → negative z ≡ false → Counted z
counted z f a b =
    let t = to_bits binary64 z in
    let l = pattern_below z f a b in
    record {
      g = sig (t / 0x10_0000_0000_0000) (t % 0x10_0000_0000_0000);
      j = t / 0x10_0000_0000_0000 - 1;
      value = subst (λ (y : Float). HasValue y false (sig (t / 0x10_0000_0000_0000) (t % 0x10_0000_0000_0000) * 2 ^ (t / 0x10_0000_0000_0000 - 1)) (2 ^ 1074)) (of_bits-to_bits binary64 z f) (value_bits t l);
      most = sig_lt (t / 0x10_0000_0000_0000) (t % 0x10_0000_0000_0000) (omega arith);
      last = omega arith;
    }

-- ---- the theorems
-- a number above zero, by the tests
above : (x : Float) → lt zero_f x ≡ true → finite x ≡ true → Above x
unfolding lt finite of_bits
above nan h f = absurd (ff f)
above (inf s) h f = absurd (ff f)
above (fin s zero e) h f = absurd (ff (sym (zero_above s e) ∙ h))
above (fin true (suc m) e) h f = absurd (ff h)
above (fin false (suc m) e) h f = record { m = m; e = e; is = refl }

-- the root of Y units in 53 digits: q places, whose halves lie on either side
nearest_at : (x : Float) (w : Placed (units_of x * 2 ^ 1074)) → NearestRoot x (root_of (units_of x * 2 ^ 1074))
nearest_at x w =
    let q = nearest_from 53 0 w.y in
    let k = w.k in
    let n : Near w.y q = near_is w.y (omega arith) w.most in
    let d : Digits53 q = near_digits n w.least w.most in
    let is : root_of (units_of x * 2 ^ 1074) ≡ bits (k * 0x10_0000_0000_0000 + q) = ap root_of w.is ∙ at_place w.y k w.least (omega arith) in
    let v = value_bits (k * 0x10_0000_0000_0000 + q) (omega arith) in
    let up : (2 * q - 1) * (2 * q - 1) * 4 ^ k < 4 * (units_of x * 2 ^ 1074) =
    subst (λ (m : ℕ). (2 * q - 1) * (2 * q - 1) * 4 ^ k < m) (mul_assoc 4 w.y (4 ^ k) ∙ ap (λ (m : ℕ). 4 * m) (sym w.is)) (mul-lt-mul_of_pos_right n.above (four_pos k)) in
    let down : 4 * (units_of x * 2 ^ 1074) < (2 * q + 1) * (2 * q + 1) * 4 ^ k =
    subst (λ (m : ℕ). m < (2 * q + 1) * (2 * q + 1) * 4 ^ k) (mul_assoc 4 w.y (4 ^ k) ∙ ap (λ (m : ℕ). 4 * m) (sym w.is)) (mul-lt-mul_of_pos_right n.below (four_pos k)) in
    let least : 4 ^ 52 * 4 ^ k ≤ units_of x * 2 ^ 1074 = subst (λ (m : ℕ). 4 ^ 52 * 4 ^ k ≤ m) (sym w.is) (mul-le-mul_right (4 ^ k) w.least) in
    record {
      number = ap finite is ∙ finite_of_value _ _ _ _ v;
      sign = ap negative is ∙ sign_of_value _ _ _ _ v;
      nearer = λ z f a b.
          let c = counted z f a b in
          let s : 2 ^ 52 * 2 ^ k ≤ units_of z → Multiple (units_of z) k = rw (units_of_value z false _ c.value) (spaced c.g c.j k c.most) in
          let u : units_of (root_of (units_of x * 2 ^ 1074)) ≡ q * 2 ^ k = ap units_of is ∙ units_placed q k d w.place in
          rw u (record { from_below = below_side _ q k _ d.least s least up; from_above = above_side _ q k _ d.least s down });
    }

-- for every number above zero: no other double is as near to its root
pub sqrt_nearest : (x : Float) → T (fits binary64 x) → lt zero_f x ≡ true → finite x ≡ true → NearestRoot x (sqrt_of x)
unfolding negative
sqrt_nearest x f h n =
    let a = above x h n in
    let c = counted x f n (ap negative a.is) in
    let some : 0 < c.g = first_pos c.g (2 ^ c.j) (value_pos x (c.g * 2 ^ c.j) (2 ^ 1074) (subst (λ (y : Float). T (positive y)) (sym a.is) (lt→ltb 0 (suc a.m) (omega arith))) (pow_pos 1074) c.value) in
    let is : units_of x * 2 ^ 1074 ≡ c.g * 2 ^ (c.j + 1074) =
    ap (λ (u : ℕ). u * 2 ^ 1074) (units_of_value x false _ c.value) ∙ mul_assoc c.g (2 ^ c.j) (2 ^ 1074) ∙ ap (λ (u : ℕ). c.g * u) (sym (pow-add 2 c.j 1074)) in
    subst (λ (r : Float). NearestRoot x r) (of_above x a) (nearest_at x (subst Placed (sym is) (placed c.g (c.j + 1074) some c.most (omega arith) (omega (arith, c.last)))))

-- over whole numbers: no tie with another number, and one nearest
no_middle : (Y r p : ℕ) → Nearer Y r p → (p + r) * (p + r) ≡ 4 * Y → p ≡ r
no_middle Y r p n e = le_antisymm (by_contra p r (λ l. omega (arith, n.from_above l))) (by_contra r p (λ l. omega (arith, n.from_below l)))

one_nearest : (Y r s : ℕ) → Nearer Y r s → Nearer Y s r → r ≡ s
one_nearest Y r s a b =
    let m : r + s ≡ s + r = omega arith in
    let e : (r + s) * (r + s) ≡ (s + r) * (s + r) = ap (λ (n : ℕ). n * n) m in
    le_antisymm (by_contra r s (λ l. omega (arith, a.from_below l, b.from_above l))) (by_contra s r (λ l. omega (arith, a.from_above l, b.from_below l)))

-- a tie would be a double whose middle with the answer is the root: there is none but the answer itself
pub no_tie : (x r z : Float) → NearestRoot x r → T (fits binary64 z) → finite z ≡ true → negative z ≡ false
    → (units_of z + units_of r) * (units_of z + units_of r) ≡ 4 * (units_of x * 2 ^ 1074) → units_of z ≡ units_of r
no_tie x r z w f a b e = no_middle (units_of x * 2 ^ 1074) (units_of r) (units_of z) (w.nearer z f a b) e

-- a double at or above zero is known by its units, since its pattern is
abbrev units_bits : ℕ → ℕ
units_bits n = 0 + (size n - 53) * 0x10_0000_0000_0000 + n / 2 ^ (size n - 53)

pattern_units : (z : Float) → finite z ≡ true → negative z ≡ false → to_bits binary64 z ≡ units_bits (units_of z)
unfolding to_bits units_of finite negative
pattern_units nan h k = absurd (ff h)
pattern_units (inf t) h k = absurd (ff h)
pattern_units (fin true m e) h k = absurd (ff (sym k))
pattern_units (fin false m e) h k = refl

same_pattern : (r s : Float) → T (fits binary64 r) → T (fits binary64 s) → to_bits binary64 r ≡ to_bits binary64 s → r ≡ s
same_pattern r s f g e = sym (of_bits-to_bits binary64 r f) ∙ ap bits e ∙ of_bits-to_bits binary64 s g

-- what is nearest is one double
pub nearest_unique : (x r s : Float) → T (fits binary64 r) → T (fits binary64 s) → NearestRoot x r → NearestRoot x s → r ≡ s
nearest_unique x r s f g a b =
    let u : units_of r ≡ units_of s =
    one_nearest (units_of x * 2 ^ 1074) (units_of r) (units_of s) (a.nearer s g b.number b.sign) (b.nearer r f a.number a.sign) in
    same_pattern r s f g (pattern_units r a.number a.sign ∙ ap units_bits u ∙ sym (pattern_units s b.number b.sign))
