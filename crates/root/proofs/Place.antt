-- The place of a root: 53 digits q of it at the place 2 ^ k, where its square is y 4 ^ k with a y of 105 or 106 digits. Assumes nothing.
use Rattle.std.proofs.Common.{◌≡◌, ℕ, zero, suc, ◌+◌, ◌-◌, ◌*◌, ◌/◌, ◌%◌, ◌^◌, ◌<◌, ◌≤◌, sym, refl, ap, ◌∙◌, subst, ⊎_elim, lt_of_lt_of_le, mul-le-mul_right, mul_assoc, lt_of_mul-lt-mul_right, eq-or-lt_of_le, mul-lt-mul_of_pos_right, pow-suc, lt_of_not-le, le_of_mul-le-mul_right, mul-div_cancel, arith, pow_pos, pow_mono, pow-add}
use native.Mathlib.Nat.{mul-mul-mul_comm, mod-eq_of_lt}
use lib.Count.{count_leading_zeros}
use Rattle.std.proofs.lemmas.Nat.{leading_le, leading_top}
use lib.Ieee.{size}
use lib.Ieee.Digits.{size-lt, size-le, size_reaches}
use Rattle.base.specs.Number.{bits}
use Rattle.root.specs.Sqrt.{nearest_from, place_of, root_of}
use Rattle.root.specs.Near.{Digits53}

-- ---- powers of four
pub four : (k : ℕ) → 4 ^ k ≡ 2 ^ k * 2 ^ k
four zero = refl
four (suc j) = pow-suc 4 j ∙ ap (λ (z : ℕ). z * 4) (four j) ∙ sym (ap (λ (z : ℕ). z * z) (pow-suc 2 j) ∙ mul-mul-mul_comm (2 ^ j) 2 (2 ^ j) 2)

pub four_pow : (k : ℕ) → 4 ^ k ≡ 2 ^ (k + k)
four_pow k = four k ∙ sym (pow-add 2 k k)

pub four_pos : (k : ℕ) → 0 < 4 ^ k
four_pos k = subst (λ (z : ℕ). 0 < z) (sym (four_pow k)) (pow_pos (k + k))

pub shift : (s c j k : ℕ) → c ≡ j + (k + k) → s * 2 ^ c ≡ s * 2 ^ j * 4 ^ k
shift s c j k e =
    ap (λ (x : ℕ). s * 2 ^ x) e ∙ ap (λ (x : ℕ). s * x) (pow-add 2 j (k + k) ∙ ap (λ (x : ℕ). 2 ^ j * x) (sym (four_pow k))) ∙ sym (mul_assoc s (2 ^ j) (4 ^ k))

-- ---- the place of the root of y 4 ^ k
place_is : (y k : ℕ) → 4 ^ 52 ≤ y → y < 4 ^ 53 → place_of (y * 4 ^ k) ≡ k
unfolding place_of
place_is y k a b =
    let Y = y * 4 ^ k in
    let up : Y < 2 ^ (106 + (k + k)) =
    subst (λ (z : ℕ). Y < z) (ap (λ (z : ℕ). 2 ^ 106 * z) (four_pow k) ∙ sym (pow-add 2 106 (k + k))) (mul-lt-mul_of_pos_right b (four_pos k)) in
    let down : 2 ^ (104 + (k + k)) ≤ Y =
    subst (λ (z : ℕ). z ≤ Y) (ap (λ (z : ℕ). 2 ^ 104 * z) (four_pow k) ∙ sym (pow-add 2 104 (k + k))) (mul-le-mul_right (4 ^ k) a) in
    let most : size Y ≤ 106 + (k + k) = size-le Y (106 + (k + k)) up in
    let least : 104 + (k + k) < size Y = lt_of_not-le (λ l.
    let p : 2 ^ size Y ≤ 2 ^ (104 + (k + k)) = pow_mono l in
    omega (arith, size-lt Y)) in
    omega arith

pub at_place : (y k : ℕ) → 4 ^ 52 ≤ y → y < 4 ^ 53 → root_of (y * 4 ^ k) ≡ bits (k * 2 ^ 52 + nearest_from 53 0 y)
unfolding root_of
at_place y k a b =
    rw (place_is y k a b, mul-div_cancel y (four_pos k)) refl

-- ---- every number of at most 53 digits and enough zeros behind them has such a place
pub record Placed (Y : ℕ) : Type 0 where
  pub y : ℕ
  pub k : ℕ
  pub is : Y ≡ y * 4 ^ k
  pub least : 4 ^ 52 ≤ y
  pub most : y ≤ 0x1f_ffff_ffff_ffff * 0x20_0000_0000_0000
  pub place : k < 2046

-- a multiple of 2 ^ 53 below 4 ^ 53 is at most the last of them; a number of 53 digits times 2 ^ 52 is less
last_multiple : (g j : ℕ) → g < 0x20_0000_0000_0000 → 52 ≤ j → g * 2 ^ j < 4 ^ 53 → g * 2 ^ j ≤ 0x1f_ffff_ffff_ffff * 0x20_0000_0000_0000
last_multiple g j a h b =
    ⊎_elim (λ (e : 52 ≡ j). omega (arith, ap (λ (i : ℕ). g * 2 ^ i) e))
    (λ (l : 52 < j).
    let z : j ≡ j - 53 + 53 = omega arith in
    let m : g * 2 ^ j ≡ g * 2 ^ (j - 53) * 2 ^ 53 = ap (λ (i : ℕ). g * 2 ^ i) z ∙ ap (λ (i : ℕ). g * i) (pow-add 2 (j - 53) 53) ∙ sym (mul_assoc g (2 ^ (j - 53)) (2 ^ 53)) in
    omega arith)
    (eq-or-lt_of_le h)

pub placed : (g c : ℕ) → 0 < g → g < 0x20_0000_0000_0000 → 1074 ≤ c → c < 3120 → Placed (g * 2 ^ c)
placed g c a b l u =
    let Y = g * 2 ^ c in
    let n = size Y in
    let k = (n + 1) / 2 - 53 in
    let up : Y < 2 ^ (53 + c) = subst (λ (z : ℕ). Y < z) (sym (pow-add 2 53 c)) (mul-lt-mul_of_pos_right b (pow_pos c)) in
    let most : n ≤ 53 + c = size-le Y (53 + c) up in
    let some : 1 * 2 ^ c ≤ Y = mul-le-mul_right (2 ^ c) a in
    let least : c < n = lt_of_not-le (λ (h : n ≤ c). let p : 2 ^ n ≤ 2 ^ c = pow_mono h in omega (arith, size-lt Y)) in
    let j = c - (k + k) in
    let is : Y ≡ g * 2 ^ j * 4 ^ k = shift g c j k (omega arith) in
    let low : 2 ^ (104 + (k + k)) ≤ Y = size_reaches Y (104 + (k + k)) (omega arith) in
    let low' : 4 ^ 52 * 4 ^ k ≤ g * 2 ^ j * 4 ^ k = subst (λ (z : ℕ). z ≤ g * 2 ^ j * 4 ^ k) (pow-add 2 104 (k + k) ∙ ap (λ (z : ℕ). 2 ^ 104 * z) (sym (four_pow k))) (subst (λ (z : ℕ). 2 ^ (104 + (k + k)) ≤ z) is low) in
    let high : 2 ^ n ≤ 2 ^ (106 + (k + k)) = pow_mono (omega arith) in
    let high' : g * 2 ^ j * 4 ^ k < 4 ^ 53 * 4 ^ k =
    subst (λ (z : ℕ). g * 2 ^ j * 4 ^ k < z) (pow-add 2 106 (k + k) ∙ ap (λ (z : ℕ). 2 ^ 106 * z) (sym (four_pow k))) (subst (λ (z : ℕ). z < 2 ^ (106 + (k + k))) is (lt_of_lt_of_le (size-lt Y) high)) in
    record {
      y = g * 2 ^ j;
      k = k;
      is = is;
      least = le_of_mul-le-mul_right low' (four_pos k);
      most = last_multiple g j b (omega arith) (lt_of_mul-lt-mul_right (4 ^ k) high');
      place = omega arith;
    }

-- ---- a significand s of 53 digits, at an even and at an odd exponent
pub at_even : (s e : ℕ) → Digits53 s → e % 2 ≡ 0
    → bits ((e + 957) / 2 * 0x10_0000_0000_0000 + nearest_from 53 0 (s * 2 * 0x10_0000_0000_0000)) ≡ root_of (s * 2 ^ (e + 1009))
at_even s e d h =
    let k = (e + 957) / 2 in
    let z : s * 2 ^ 53 ≡ s * 2 * 0x10_0000_0000_0000 = omega arith in
    sym (ap root_of (shift s (e + 1009) 53 k (omega arith) ∙ ap (λ (x : ℕ). x * 4 ^ k) z) ∙ at_place (s * 2 * 0x10_0000_0000_0000) k (omega arith) (omega arith))

pub at_odd : (s e : ℕ) → Digits53 s → (e % 2 ≡ 0 → ⊥)
    → bits ((e + 957) / 2 * 0x10_0000_0000_0000 + nearest_from 53 0 (s * 0x10_0000_0000_0000)) ≡ root_of (s * 2 ^ (e + 1009))
at_odd s e d f =
    let k = (e + 957) / 2 in
    let h : e % 2 ≡ 1 = omega arith in
    sym (ap root_of (shift s (e + 1009) 52 k (omega arith)) ∙ at_place (s * 0x10_0000_0000_0000) k (omega arith) (omega arith))

-- ---- a number t of at most 52 digits, shifted until it has 53
-- at most 53 doublings, whatever t is
pub turns_few : (t : ℕ) → count_leading_zeros 64 t - 11 ≤ 53
turns_few t = omega (arith, leading_le 64 t)

-- the shift n of t
pub record Shifted (t n : ℕ) : Type 0 where
  pub enough : 11 ≤ count_leading_zeros 64 t
  pub few : n < 53
  pub whole : t * 2 ^ n % 2 ^ 64 ≡ t * 2 ^ n
  pub digits : Digits53 (t * 2 ^ n)

pub shifted : (t : ℕ) → 0 < t → t < 0x10_0000_0000_0000 → Shifted t (count_leading_zeros 64 t - 11)
shifted t a b =
    let n = count_leading_zeros 64 t - 11 in
    let top = leading_top 64 t a (omega arith) in
    let j = top.0 in
    let l : j < 52 = lt_of_not-le (λ (g : 52 ≤ j). let p : 2 ^ 52 ≤ 2 ^ j = pow_mono g in omega (arith, top.2)) in
    let low : 2 ^ j * 2 ^ n ≤ t * 2 ^ n = mul-le-mul_right (2 ^ n) top.2 in
    let high : t * 2 ^ n < 2 ^ suc j * 2 ^ n = mul-lt-mul_of_pos_right top.3 (pow_pos n) in
    let e : j + n ≡ 52 = omega (arith, top.1) in
    let f : suc j + n ≡ 53 = omega (arith, top.1) in
    let least : 2 ^ j * 2 ^ n ≡ 2 ^ 52 = sym (pow-add 2 j n) ∙ ap (λ (d : ℕ). 2 ^ d) e in
    let most : 2 ^ suc j * 2 ^ n ≡ 2 ^ 53 = sym (pow-add 2 (suc j) n) ∙ ap (λ (d : ℕ). 2 ^ d) f in
    record {
      enough = omega (arith, top.1);
      few = omega (arith, top.1);
      whole = mod-eq_of_lt (omega (arith, high, most));
      digits = record { least = omega (arith, low, least); most = omega (arith, high, most) };
    }

pub halved : (t s n : ℕ) → n < 53 → t * 2 ^ n ≡ s → s * 2 ^ (65 - n + 1009) ≡ t * 2 ^ 1074
halved t s n a h =
    let z : n + (65 - n + 1009) ≡ 1074 = omega arith in
    ap (λ (x : ℕ). x * 2 ^ (65 - n + 1009)) (sym h) ∙ mul_assoc t (2 ^ n) (2 ^ (65 - n + 1009)) ∙ ap (λ (x : ℕ). t * x) (sym (pow-add 2 n (65 - n + 1009)) ∙ ap (λ (x : ℕ). 2 ^ x) z)
