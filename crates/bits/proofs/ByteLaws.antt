-- Laws of whole bytes: a number of a + b bits is two numbers, eight bits are a byte, and so a number of whole bytes goes on by its next byte. Assumes nothing.
use mathlib.Core.Path.{◌≡◌, ap, ◌∙◌}
use mathlib.Core.List.{List}
use Prim.Native.Nat.{ℕ, zero, suc, ◌+◌, ◌*◌, ◌-◌, ◌<◌, ◌≤◌, ◌/◌, ◌%◌, ◌^◌}
use native.Mathlib.Nat.{two-pow-succ, add-zero, zero-add, zero-mul, div-one, mul-add, div-div-eq-div-mul, div-eq_of_lt, mod-eq_of_lt, mul-add-div_right, mul-add-mod_self_right, one-le-pow}
use native.Mathlib.Omega.{arith}
use lib.Dec.{lit<}
use Rattle.base.specs.Sum.{◌!!◌}
use Rattle.std.specs.Int.{from_be_bytes, w64}
use Rattle.bits.specs.Bits.{bit_of, bits_of}
use Rattle.bits.proofs.BitLaws.{bits_below}

-- ---- a number of a + b bits is one of a bits and one of b bits
pub split : (s : List ℕ) (at a b : ℕ) → bits_of s at (a + b) ≡ bits_of s at a * 2 ^ b + bits_of s (at + a) b
unfolding bits_of
split s at a zero = rw add-zero (omega arith)
split s at a (suc b) =
    let e : a + suc b ≡ suc (a + b) = omega arith in
    let n : at + (a + b) ≡ at + a + b = omega arith in
    let p : 2 ^ suc b ≡ 2 ^ b + 2 ^ b = two-pow-succ b in
    let m : bits_of s at a * (2 ^ b + 2 ^ b) ≡ bits_of s at a * 2 ^ b + bits_of s at a * 2 ^ b = mul-add (bits_of s at a) (2 ^ b) (2 ^ b) in
    rw (e, n, split s at a b, p, m) (omega arith)

-- ---- eight bits from 8 * i on are byte i
halved : (y : ℕ) → y / 2 * 2 + y % 2 ≡ y
halved y = omega arith

top : (x : ℕ) → x < 256 → x / 128 % 2 ≡ x / 128
top x l = omega arith

digits : (x : ℕ) → x < 256
    → (((((((x / 128 % 2 * 2 + x / 64 % 2) * 2 + x / 32 % 2) * 2 + x / 16 % 2) * 2 + x / 8 % 2) * 2 + x / 4 % 2) * 2 + x / 2 % 2) * 2 + x % 2) ≡ x
digits x l =
    let a : x / 128 * 2 + x / 64 % 2 ≡ x / 64 = rw (← div-div-eq-div-mul x 64 2) (halved (x / 64)) in
    let b : x / 64 * 2 + x / 32 % 2 ≡ x / 32 = rw (← div-div-eq-div-mul x 32 2) (halved (x / 32)) in
    let d : x / 32 * 2 + x / 16 % 2 ≡ x / 16 = rw (← div-div-eq-div-mul x 16 2) (halved (x / 16)) in
    let e : x / 16 * 2 + x / 8 % 2 ≡ x / 8 = rw (← div-div-eq-div-mul x 8 2) (halved (x / 8)) in
    let f : x / 8 * 2 + x / 4 % 2 ≡ x / 4 = rw (← div-div-eq-div-mul x 4 2) (halved (x / 4)) in
    let g : x / 4 * 2 + x / 2 % 2 ≡ x / 2 = rw (← div-div-eq-div-mul x 2 2) (halved (x / 2)) in
    rw (top x l, a, b, d, e, f, g) (halved x)

bit_is : (s : List ℕ) (i k : ℕ) → k < 8 → bit_of s (8 * i + k) ≡ (s !! i) / 2 ^ (7 - k) % 2
bit_is s i k l =
    let a : (8 * i + k) / 8 ≡ i = omega arith in
    let b : (8 * i + k) % 8 ≡ k = omega arith in
    rw (a, b)

pub byte_is : (s : List ℕ) (i : ℕ) → (s !! i) < 256 → bits_of s (8 * i) 8 ≡ (s !! i)
unfolding bits_of
byte_is s i h =
    rw (
      bit_is s i 0 (lit< tt),
      bit_is s i 1 (lit< tt),
      bit_is s i 2 (lit< tt),
      bit_is s i 3 (lit< tt),
      bit_is s i 4 (lit< tt),
      bit_is s i 5 (lit< tt),
      bit_is s i 6 (lit< tt),
      bit_is s i 7 (lit< tt),
      zero-mul,
      zero-add,
      div-one,
    )
    (digits (s !! i) h)

-- ---- a number of whole bytes, and the byte behind them
pub next_byte : (s : List ℕ) (i n v b : ℕ) → v ≡ bits_of s (8 * i) (8 * n) → b ≡ (s !! (i + n)) → b < 256 → v * 256 + b ≡ bits_of s (8 * i) (8 * (n + 1))
next_byte s i n v b e g l =
    let w : 8 * (n + 1) ≡ 8 * n + 8 = omega arith in
    let p : 8 * i + 8 * n ≡ 8 * (i + n) = omega arith in
    rw (w, split s (8 * i) (8 * n) 8, p, byte_is s (i + n) (rw (← g) l), ← e, ← g)

pub first_byte : (s : List ℕ) (i b : ℕ) → b ≡ (s !! i) → b < 256 → b ≡ bits_of s (8 * i) 8
first_byte s i b g l = rw (byte_is s i (rw (← g) l), ← g)

-- b is byte i
abbrev pub IsByte : List ℕ → ℕ → ℕ → Type 0
IsByte s i b = (b ≡ (s !! i)) × (b < 256)

-- eight bytes are the number of their 64 bits
pub eight_bytes : (s : List ℕ) (p a b c d e f g h : ℕ)
    → IsByte s p a → IsByte s (p + 1) b → IsByte s (p + 2) c → IsByte s (p + 3) d → IsByte s (p + 4) e → IsByte s (p + 5) f → IsByte s (p + 6) g → IsByte s (p + 7) h
    → (((((((a * 256 + b) * 256 + c) * 256 + d) * 256 + e) * 256 + f) * 256 + g) * 256 + h) ≡ bits_of s (8 * p) 64
eight_bytes s p a b c d e f g h ka kb kc kd ke kf kg kh =
    let one = first_byte s p a ka.0 ka.1 in
    let two = next_byte s p 1 _ _ one kb.0 kb.1 in
    let three = next_byte s p 2 _ _ two kc.0 kc.1 in
    let four = next_byte s p 3 _ _ three kd.0 kd.1 in
    let five = next_byte s p 4 _ _ four ke.0 ke.1 in
    let six = next_byte s p 5 _ _ five kf.0 kf.1 in
    let seven = next_byte s p 6 _ _ six kg.0 kg.1 in
    next_byte s p 7 _ _ seven kh.0 kh.1

-- read by std, first byte highest
pub word_is : (s bs : List ℕ) (p : ℕ) → ((i : ℕ) → i < 8 → (bs !! i) ≡ (s !! (p + i))) → ((i : ℕ) → (s !! i) < 256) → from_be_bytes w64 bs ≡ bits_of s (8 * p) 64
word_is s bs p same small =
    let one : IsByte s p (bs !! 0) = let e = same 0 (omega arith) in (rw add-zero at e, rw e (small (p + 0))) in
    let byte : (i : ℕ) → i < 8 → IsByte s (p + i) (bs !! i) = λ i l. (same i l, rw (same i l) (small (p + i))) in
    let e = eight_bytes s p _ _ _ _ _ _ _ _ one (byte 1 (omega arith)) (byte 2 (omega arith)) (byte 3 (omega arith)) (byte 4 (omega arith)) (byte 5 (omega arith)) (byte 6 (omega arith)) (byte 7 (omega arith)) in
    omega (arith, e)

-- ---- a field of at most 16 bits lies in the three bytes from its first one on
pub field_is : (s : List ℕ) (at w a b c : ℕ) → w ≤ 16 → IsByte s (at / 8) a → IsByte s (at / 8 + 1) b → IsByte s (at / 8 + 2) c
    → ((a * 256 + b) * 256 + c) / 2 ^ (24 - at % 8 - w) % 2 ^ w ≡ bits_of s at w
field_is s at w a b c l ka kb kc =
    let i = at / 8 in
    let o = at % 8 in
    let r = 24 - at % 8 - w in
    let one = first_byte s i a ka.0 ka.1 in
    let two = next_byte s i 1 _ _ one kb.0 kb.1 in
    let three : (a * 256 + b) * 256 + c ≡ bits_of s (8 * i) 24 = next_byte s i 2 _ _ two kc.0 kc.1 in
    let whole : 24 ≡ o + w + r = omega arith in
    let place : 8 * i + o ≡ at = omega arith in
    let all : bits_of s (8 * i) 24 ≡ bits_of s (8 * i) (o + w) * 2 ^ r + bits_of s (8 * i + (o + w)) r = ap (bits_of s (8 * i)) whole ∙ split s (8 * i) (o + w) r in
    let cut : bits_of s (8 * i + (o + w)) r / 2 ^ r ≡ 0 = div-eq_of_lt (bits_below s (8 * i + (o + w)) r) in
    let rest : bits_of s at w % 2 ^ w ≡ bits_of s at w = mod-eq_of_lt (bits_below s at w) in
    rw (three, all, mul-add-div_right (one-le-pow r 2 (lit< tt)) (bits_of s (8 * i) (o + w)) (bits_of s (8 * i + (o + w)) r), cut, add-zero, split s (8 * i) o w, place, mul-add-mod_self_right (bits_of s (8 * i) o) (2 ^ w) (bits_of s at w), rest)
