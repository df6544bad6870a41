-- Doubles and the whole numbers of units 2 ^ -1074 that they stand for, by their bit patterns. Assumes nothing.
use Rattle.std.proofs.Common.{◌≡◌, ℕ, zero, suc, ◌+◌, ◌-◌, ◌*◌, ◌/◌, ◌%◌, ◌^◌, ◌<◌, Bool, true, false, leb, sym, refl, ap, ◌∙◌, subst, mul_assoc, mul-div_cancel, arith, pow-add, ne_eqb}
use borrow.Author.Tests.{lt-leb}
use lib.Ieee.{Float, nan, inf, fin, binary64, of_bits, of_fields, odd}
use lib.Ieee.Exact.{HasValue, odd_sign}
use lib.Ieee.Fits.{down_pos}
use Rattle.base.specs.Number.{bits, finite, negative}
use Rattle.root.specs.Sqrt.{units_of}
use Rattle.root.specs.Near.{Digits53}

-- the significand of a pattern with the exponent's field e and the digits t
abbrev pub sig : ℕ → ℕ → ℕ
sig zero t = t
sig (suc e) t = 0x10_0000_0000_0000 + t

pub sig_lt : (e t : ℕ) → t < 0x10_0000_0000_0000 → sig e t < 0x20_0000_0000_0000
sig_lt zero t h = omega arith
sig_lt (suc e) t h = omega arith

pub sig_normal : (e t : ℕ) → (e ≡ 0 → ⊥) → sig e t ≡ t + 0x10_0000_0000_0000
sig_normal zero t f = absurd (f refl)
sig_normal (suc e) t f = omega arith

fields_value : (s : Bool) (e t : ℕ) → e < 2047 → HasValue (of_fields binary64 s e t) s (sig e t * 2 ^ (e - 1)) (2 ^ 1074)
unfolding of_fields
fields_value s zero t h = odd_sign 53 s t 0 1074
fields_value s (suc e) t h =
    let z : e ≡ suc e - 1 = omega arith in
    rw (ne_eqb (suc e) 2047 (λ q. omega arith)) (subst (λ (k : ℕ). HasValue (odd 53 s (0x10_0000_0000_0000 + t) e 1074) s ((0x10_0000_0000_0000 + t) * 2 ^ k) (2 ^ 1074)) z (odd_sign 53 s (0x10_0000_0000_0000 + t) e 1074))

pub units_of_value : (x : Float) (s : Bool) (n : ℕ) → HasValue x s n (2 ^ 1074) → units_of x ≡ n
unfolding units_of
units_of_value nan s n v = absurd v
units_of_value (inf t) s n v = absurd v
units_of_value (fin t m e) s n v = rw v.1 (mul-div_cancel n (down_pos e))

-- what has a value is finite and has the value's sign
pub finite_of_value : (x : Float) (s : Bool) (n c : ℕ) → HasValue x s n c → finite x ≡ true
unfolding finite
finite_of_value nan s n c v = absurd v
finite_of_value (inf t) s n c v = absurd v
finite_of_value (fin t m e) s n c v = refl

pub sign_of_value : (x : Float) (s : Bool) (n c : ℕ) → HasValue x s n c → negative x ≡ s
unfolding negative
sign_of_value nan s n c v = absurd v
sign_of_value (inf t) s n c v = absurd v
sign_of_value (fin t m e) s n c v = v.0

-- the units of a finite number at or above zero, by its pattern
pub value_bits : (b : ℕ) → b < 0x7ff0_0000_0000_0000 → HasValue (bits b) false (sig (b / 0x10_0000_0000_0000) (b % 0x10_0000_0000_0000) * 2 ^ (b / 0x10_0000_0000_0000 - 1)) (2 ^ 1074)
unfolding of_bits
value_bits b h =
    let s : leb 0x8000_0000_0000_0000 b ≡ false = lt-leb 0x8000_0000_0000_0000 b (omega arith) in
    let z : b % 0x8000_0000_0000_0000 / 0x10_0000_0000_0000 ≡ b / 0x10_0000_0000_0000 = omega arith in
    rw (s, z) (fields_value false (b / 0x10_0000_0000_0000) (b % 0x10_0000_0000_0000) (omega arith))

pub units_bits_lem : (b : ℕ) → b < 0x7ff0_0000_0000_0000 → units_of (bits b) ≡ sig (b / 0x10_0000_0000_0000) (b % 0x10_0000_0000_0000) * 2 ^ (b / 0x10_0000_0000_0000 - 1)
units_bits_lem b h = units_of_value (bits b) false _ (value_bits b h)

pub units_small : (b : ℕ) → b / 0x10_0000_0000_0000 ≡ 0 → units_of (bits b) ≡ b % 0x10_0000_0000_0000
units_small b z = units_bits_lem b (omega arith) ∙ ap (λ (e : ℕ). sig e (b % 0x10_0000_0000_0000) * 2 ^ (e - 1)) z ∙ omega arith

pub units_normal : (b : ℕ) → b < 0x7ff0_0000_0000_0000 → (b / 0x10_0000_0000_0000 ≡ 0 → ⊥)
    → units_of (bits b) * 2 ^ 1074 ≡ (b % 0x10_0000_0000_0000 + 0x10_0000_0000_0000) * 2 ^ (b / 0x10_0000_0000_0000 + 64 + 1009)
units_normal b h f =
    let e = b / 0x10_0000_0000_0000 in
    let s = b % 0x10_0000_0000_0000 + 0x10_0000_0000_0000 in
    let z : e - 1 + 1074 ≡ e + 64 + 1009 = omega arith in
    ap (λ (n : ℕ). n * 2 ^ 1074) (units_bits_lem b h ∙ ap (λ (n : ℕ). n * 2 ^ (e - 1)) (sig_normal e (b % 0x10_0000_0000_0000) f))
    ∙ mul_assoc s (2 ^ (e - 1)) (2 ^ 1074) ∙ ap (λ (n : ℕ). s * n) (sym (pow-add 2 (e - 1) 1074) ∙ ap (λ (n : ℕ). 2 ^ n) z)

-- 53 digits q at the place 2 ^ k
pub units_placed : (q k : ℕ) → Digits53 q → k < 2046 → units_of (bits (k * 0x10_0000_0000_0000 + q)) ≡ q * 2 ^ k
units_placed q k d c =
    let n = k * 0x10_0000_0000_0000 + q in
    let f : n / 0x10_0000_0000_0000 ≡ suc k = omega arith in
    let t : n % 0x10_0000_0000_0000 ≡ q - 0x10_0000_0000_0000 = omega arith in
    let z : 0x10_0000_0000_0000 + (q - 0x10_0000_0000_0000) ≡ q = omega arith in
    let w : suc k - 1 ≡ k = omega arith in
    units_bits_lem n (omega arith) ∙ ap (λ (e : ℕ). sig e (n % 0x10_0000_0000_0000) * 2 ^ (e - 1)) f ∙ ap (λ (j : ℕ). (0x10_0000_0000_0000 + j) * 2 ^ (suc k - 1)) t ∙ ap (λ (j : ℕ). j * 2 ^ (suc k - 1)) z ∙ ap (λ (j : ℕ). q * 2 ^ j) w
