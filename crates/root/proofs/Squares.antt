-- Squares of whole numbers: the nearest root of one, by digits and by steps. Assumes nothing.
use Rattle.std.proofs.Common.{◌≡◌, ℕ, zero, suc, ◌+◌, ◌-◌, ◌*◌, ◌/◌, ◌%◌, ◌^◌, ◌<◌, ◌≤◌, Bool, true, false, sym, refl, ap, ◌∙◌, subst, mul_assoc, mul_comm, add-mul, mul-le-mul, le_antisymm, pow-suc, pow-add, pow_pos, mul-div_cancel, lt_of_not-le, mul-add, mul_right_comm, arith, ltb-false, ltb-true, le-ltb, lt-ltb}
use native.Mathlib.Nat.{mul-mul-mul_comm}
use native.Mathlib.Omega.{by_contra}
use Rattle.root.specs.Sqrt.{half_below, with_digit, nearest_from}
use Rattle.root.specs.Near.{Near, Digits53}

-- ---- squares
pub odd_square : (q : ℕ) → (2 * q + 1) * (2 * q + 1) ≡ 4 * (q * (q + 1)) + 1
odd_square q = omega (arith, add-mul (2 * q) 1 (2 * q + 1), mul-add (2 * q) (2 * q) 1, mul-mul-mul_comm 2 q 2 q, mul-add q q 1)

-- the square below q is the square above q - 1
under_square : (q : ℕ) → 1 ≤ q → (2 * q - 1) * (2 * q - 1) ≡ 4 * ((q - 1) * (q - 1 + 1)) + 1
under_square q h =
    let z : 2 * q - 1 ≡ 2 * (q - 1) + 1 = omega arith in
    ap (λ (k : ℕ). k * k) z ∙ odd_square (q - 1)

-- ---- q (q + 1) by the upper and the lower digits of q
split_square : (a b : ℕ) → (a * 0x400_0000 + b) * (a * 0x400_0000 + b) ≡ a * a * 0x10_0000_0000_0000 + 2 * a * b * 0x400_0000 + b * b
split_square a b =
    omega (
      arith,
      add-mul (a * 0x400_0000) b (a * 0x400_0000 + b),
      mul-add (a * 0x400_0000) (a * 0x400_0000) b,
      mul-add b (a * 0x400_0000) b,
      mul-mul-mul_comm a 0x400_0000 a 0x400_0000,
      mul_right_comm a 0x400_0000 b,
      mul_assoc b a 0x400_0000,
      mul_comm b a,
      mul_assoc 2 a b,
    )

-- the three products of the digits, and what is left of 64 bits
pub record Parts (a b : ℕ) : Type 0 where
  pub upper : a * a ≤ 0x7ff_ffff * 0x7ff_ffff
  pub middle : 2 * a * b ≤ 0xfff_fffe * 0x3ff_ffff
  pub lower : b * b ≤ 0x3ff_ffff * 0x3ff_ffff

pub parts : (q : ℕ) → q < 0x20_0000_0000_0000 → Parts (q / 0x400_0000) (q % 0x400_0000)
parts q h =
    let u : q / 0x400_0000 ≤ 0x7ff_ffff = omega arith in
    let w : 2 * (q / 0x400_0000) ≤ 0xfff_fffe = omega arith in
    let v : q % 0x400_0000 ≤ 0x3ff_ffff = omega arith in
    record { upper = mul-le-mul u u; middle = mul-le-mul w v; lower = mul-le-mul v v }

pub pronic_is : (q : ℕ) → (q / 0x400_0000) * (q / 0x400_0000) + 2 * (q / 0x400_0000) * (q % 0x400_0000) / 0x400_0000
    + (2 * (q / 0x400_0000) * (q % 0x400_0000) % 0x400_0000 * 0x400_0000 + (q % 0x400_0000) * (q % 0x400_0000) + q) / 0x10_0000_0000_0000
    ≡ q * (q + 1) / 0x10_0000_0000_0000
pronic_is q =
    let z : q / 0x400_0000 * 0x400_0000 + q % 0x400_0000 ≡ q = omega arith in
    omega (arith, mul-add q q 1, ap (λ (k : ℕ). k * k) z, split_square (q / 0x400_0000) (q % 0x400_0000))

-- a root of a whole number never lies halfway between two whole numbers: 4 y is even, and the square is odd
pub no_half : (y q : ℕ) → 4 * y ≡ (2 * q + 1) * (2 * q + 1) → ⊥
no_half y q e = omega (arith, odd_square q)

-- ---- one number is nearest
near_le : (y p q : ℕ) → (2 * q - 1) * (2 * q - 1) < 4 * y → 4 * y < (2 * p + 1) * (2 * p + 1) → q ≤ p
near_le y p q a b =
    by_contra q p (λ l.
    let m : (2 * p + 1) * (2 * p + 1) ≤ (2 * q - 1) * (2 * q - 1) = mul-le-mul (omega arith) (omega arith) in
    omega arith)

pub near_one_lem : {y p q : ℕ} → Near y p → Near y q → p ≡ q
near_one_lem {y} {p} {q} a b = le_antisymm (near_le y q p a.above b.below) (near_le y p q b.above a.below)

-- ---- by digits
not_reached : (q y : ℕ) → 4 * y ≤ (2 * (q + 1) - 1) * (2 * (q + 1) - 1) → 4 * y < (2 * q + 1) * (2 * q + 1)
not_reached q y h =
    let z : 2 * (q + 1) - 1 ≡ 2 * q + 1 = omega arith in
    omega (arith, ap (λ (k : ℕ). k * k) z, odd_square q)

near_from : (d q y : ℕ) → half_below q y ≡ true → half_below (q + 2 ^ d) y ≡ false → Near y (nearest_from d q y)
unfolding nearest_from with_digit
near_from zero q y a b = record {
  above = ltb-true _ _ a;
  below = not_reached q y (ltb-false _ _ b);
}
near_from (suc d) q y a b =
    go (half_below (q + 2 ^ d) y)
    (λ h. near_from d (q + 2 ^ d) y h (subst (λ (n : ℕ). half_below n y ≡ false) (omega (arith, pow-suc 2 d)) b))
    (λ h. near_from d q y a h)
  where
    go : (t : Bool) → (t ≡ true → Near y (nearest_from d (q + 2 ^ d) y)) → (t ≡ false → Near y (nearest_from d q y)) → Near y (nearest_from d (with_digit t q (2 ^ d)) y)
    go true f g = f refl
    go false f g = g refl

-- a number whose nearest root has at most 53 digits
pub near_is : (y : ℕ) → 0 < y → y ≤ 0x1f_ffff_ffff_ffff * 0x20_0000_0000_0000 → Near y (nearest_from 53 0 y)
near_is y a b = near_from 53 0 y (lt-ltb 0 (4 * y) (omega arith)) (le-ltb (0x3f_ffff_ffff_ffff * 0x3f_ffff_ffff_ffff) (4 * y) (omega arith))

pub near_digits : {y q : ℕ} → Near y q → 0x10_0000_0000_0000 * 0x10_0000_0000_0000 ≤ y → y ≤ 0x1f_ffff_ffff_ffff * 0x20_0000_0000_0000 → Digits53 q
near_digits {y} {q} w a b = record {
  least = by_contra 0x10_0000_0000_0000 q (λ l.
      let k : 2 * q + 1 ≤ 0x1f_ffff_ffff_ffff = omega arith in
      let m : (2 * q + 1) * (2 * q + 1) ≤ 0x1f_ffff_ffff_ffff * 0x1f_ffff_ffff_ffff = mul-le-mul k k in
      omega (arith, w.below));
  most = lt_of_not-le (λ (l : 0x20_0000_0000_0000 ≤ q).
      let k : 0x3f_ffff_ffff_ffff ≤ 2 * q - 1 = omega arith in
      let m : 0x3f_ffff_ffff_ffff * 0x3f_ffff_ffff_ffff ≤ (2 * q - 1) * (2 * q - 1) = mul-le-mul k k in
      omega (arith, w.above));
}

pub root_digits : (s : ℕ) → 0x10_0000_0000_0000 ≤ s → s < 0x3f_ffff_ffff_ffff → Digits53 (nearest_from 53 0 (s * 0x10_0000_0000_0000))
root_digits s a b = near_digits (near_is (s * 0x10_0000_0000_0000) (omega arith) (omega arith)) (omega arith) (omega arith)

-- ---- by steps
-- a step up stays below 2 ^ 53, and a step down at 2 ^ 52 or more
pub room_above : (s q : ℕ) → s < 0x3f_ffff_ffff_ffff → q < 0x20_0000_0000_0000 → q * (q + 1) / 0x10_0000_0000_0000 < s → q + 1 < 0x20_0000_0000_0000
room_above s q h a b =
    lt_of_not-le (λ (l : 0x20_0000_0000_0000 ≤ q + 1).
    let z : q ≡ 0x1f_ffff_ffff_ffff = omega arith in
    omega (arith, ap (λ (k : ℕ). k * (k + 1)) z))

pub room_below : (s q : ℕ) → 0x10_0000_0000_0000 ≤ s → 0x10_0000_0000_0000 ≤ q → s ≤ (q - 1) * (q - 1 + 1) / 0x10_0000_0000_0000 → 0x10_0000_0000_0000 ≤ q - 1
room_below s q h a b =
    by_contra 0x10_0000_0000_0000 (q - 1) (λ l.
    let z : q - 1 ≡ 0xf_ffff_ffff_ffff = omega arith in
    omega (arith, ap (λ (k : ℕ). k * (k + 1)) z))

-- whether q - 1/2 lies below the root, by the square that the code compares
half_below_lem : (s q : ℕ) → 1 ≤ q → (q - 1) * (q - 1 + 1) / 0x10_0000_0000_0000 < s → half_below q (s * 0x10_0000_0000_0000) ≡ true
half_below_lem s q h a = lt-ltb ((2 * q - 1) * (2 * q - 1)) (4 * (s * 0x10_0000_0000_0000)) (omega (arith, under_square q h))

half_past : (s q : ℕ) → 1 ≤ q → s ≤ (q - 1) * (q - 1 + 1) / 0x10_0000_0000_0000 → half_below q (s * 0x10_0000_0000_0000) ≡ false
half_past s q h a = le-ltb ((2 * q - 1) * (2 * q - 1)) (4 * (s * 0x10_0000_0000_0000)) (omega (arith, under_square q h))

pub digit_taken : (s q b : ℕ) → 0 < b → (q + b - 1) * (q + b - 1 + 1) / 0x10_0000_0000_0000 < s → q + b ≡ with_digit (half_below (q + b) (s * 0x10_0000_0000_0000)) q b
unfolding with_digit
digit_taken s q b h a = rw (half_below_lem s (q + b) (omega arith) a) refl

pub digit_left : (s q b : ℕ) → 0 < b → s ≤ (q + b - 1) * (q + b - 1 + 1) / 0x10_0000_0000_0000 → q ≡ with_digit (half_below (q + b) (s * 0x10_0000_0000_0000)) q b
unfolding with_digit
digit_left s q b h a = rw (half_past s (q + b) (omega arith) a) refl

-- ---- one of the 53 turns of the search by digits
pub digit_at : (k : ℕ) → k < 53 → 0x10_0000_0000_0000 / 2 ^ k ≡ 2 ^ (53 - (k + 1))
digit_at k h =
    let z : 53 - (k + 1) + k ≡ 52 = omega arith in
    ap (λ (x : ℕ). x / 2 ^ k) (sym (sym (pow-add 2 (53 - (k + 1)) k) ∙ ap (λ (d : ℕ). 2 ^ d) z)) ∙ mul-div_cancel (2 ^ (53 - (k + 1))) (pow_pos k)

pub digit_twice : (k : ℕ) → k < 53 → 2 ^ (53 - k) ≡ 2 ^ (53 - (k + 1)) + 2 ^ (53 - (k + 1))
digit_twice k h =
    let z : 53 - k ≡ suc (53 - (k + 1)) = omega arith in
    omega (arith, ap (λ (d : ℕ). 2 ^ d) z, pow-suc 2 (53 - (k + 1)))

pub digit_turn : (k q c y : ℕ) → k < 53 → c ≡ 2 ^ (53 - (k + 1)) → nearest_from (53 - (k + 1)) (with_digit (half_below (q + c) y) q c) y ≡ nearest_from (53 - k) q y
unfolding nearest_from
digit_turn k q c y h e =
    let z : 53 - k ≡ suc (53 - (k + 1)) = omega arith in
    rw (e, z) refl

pub digit_room : (t : Bool) (q c : ℕ) → with_digit t q c + c ≤ q + (c + c)
unfolding with_digit
digit_room true q c = omega arith
digit_room false q c = omega arith

pub digits_done : (k q y : ℕ) → k ≤ 53 → 53 ≤ k → nearest_from (53 - k) q y ≡ q
unfolding nearest_from
digits_done k q y a b = let z : 53 - k ≡ 0 = omega arith in rw z refl

pub near_found : (s q : ℕ) → 1 ≤ q → s ≤ q * (q + 1) / 0x10_0000_0000_0000 → (q - 1) * (q - 1 + 1) / 0x10_0000_0000_0000 < s → Near (s * 0x10_0000_0000_0000) q
near_found s q h a b = record {
  above = omega (arith, under_square q h);
  below = omega (arith, odd_square q);
}

-- the number after one whose half more is not past the root
pub near_next : (s q : ℕ) → q * (q + 1) / 0x10_0000_0000_0000 < s → s ≤ (q + 1) * (q + 1 + 1) / 0x10_0000_0000_0000 → Near (s * 0x10_0000_0000_0000) (q + 1)
near_next s q a b =
    let z : q + 1 - 1 ≡ q = omega arith in
    near_found s (q + 1) (omega arith) b (rw z a)
