-- A double is written in one way: two that fit and have one sign and one size are the same, so a double that is rounded once more stays as it is. Assumes nothing.
use mathlib.Core.Path.{◌≡◌, refl, sym, ap, ◌∙◌}
use mathlib.Core.Bool.{Bool, ◌&&◌, cond}
use Prim.Native.Nat.{ℕ, zero, suc, ◌+◌, ◌-◌, ◌*◌, ◌/◌, ◌%◌, ◌^◌, ◌≤◌, ◌<◌}
use native.Mathlib.Nat.{zero-lt-suc, zero-mul, mul-one, mul_assoc, mul_right_comm, eq_of_mul-eq-mul_right, lt_of_lt_of_le, lt_of_not-le, not-le_of_lt}
use native.Mathlib.Omega.{arith}
use lib.Dec.{T, leb, ltb, eqb, ltb→lt, leb→le, eqb→eq}
use lib.IntN.{ℤ, pos, negsuc}
use lib.Pow.{pow-add, pow_pos, pow-lt, pow_mono, shl_lt}
use lib.Ieee.{Float, fin, Format, prec, emax, low, up, down, size, hid, top, round, fits, to_bits, of_bits}
use lib.Ieee.Bits.{of_bits-to_bits}
use lib.Ieee.Digits.{back}
use lib.Ieee.Exact.{HasValue, round_exact}
use lib.Ieee.Fits.{down_pos, round-fits, reach, and_l, and_r}
use lib.Ieee.Nearest.{div_same}

-- ---- one way
same_bits : (f : Format) (s : Bool) (m : ℕ) (e : ℤ) (n : ℕ) (d : ℤ) → m * up e * down d ≡ n * up d * down e → to_bits f (fin s m e) ≡ to_bits f (fin s n d)
unfolding to_bits
same_bits f s m e n d h =
    let q : m * up e * 2 ^ low f / down e ≡ n * up d * 2 ^ low f / down d =
    div_same (m * up e * 2 ^ low f) (down e) (n * up d * 2 ^ low f) (down d) (down_pos e) (down_pos d)
    (mul_right_comm (m * up e) (2 ^ low f) (down d) ∙ ap (λ (x : ℕ). x * 2 ^ low f) h ∙ mul_right_comm (n * up d) (down e) (2 ^ low f)) in
    ap (λ (x : ℕ). cond s (top f) 0 + (size x - prec f) * hid f + x / 2 ^ (size x - prec f)) q

pub same_value : (f : Format) (x y : Float) (s : Bool) (a c : ℕ) → 0 < c → T (fits f x) → T (fits f y) → HasValue x s a c → HasValue y s a c → x ≡ y
same_value f (fin t m e) (fin u n d) s a c l p q v w =
    let cross : m * up e * down d ≡ n * up d * down e =
    eq_of_mul-eq-mul_right c l (m * up e * down d) (n * up d * down e)
    (mul_right_comm (m * up e) (down d) c
    ∙ ap (λ (x : ℕ). x * down d) v.1
    ∙ mul_right_comm a (down e) (down d)
    ∙ ap (λ (x : ℕ). x * down e) (sym w.1)
    ∙ mul_right_comm (n * up d) c (down e)) in
    sym (of_bits-to_bits f (fin t m e) p)
    ∙ ap (λ (b : Bool). of_bits f (to_bits f (fin b m e))) (v.0 ∙ sym w.0)
    ∙ ap (λ (b : ℕ). of_bits f b) (same_bits f u m e n d cross)
    ∙ of_bits-to_bits f (fin u n d) q
same_value f lib.Ieee.nan y s a c l p q v w = elim v [ ]
same_value f (lib.Ieee.inf _) y s a c l p q v w = elim v [ ]
same_value f (fin t m e) lib.Ieee.nan s a c l p q v w = elim w [ ]
same_value f (fin t m e) (lib.Ieee.inf _) s a c l p q v w = elim w [ ]

-- ---- what fits
no_higher : (a l : ℕ) → 2 ^ a ≤ 2 ^ l → a ≤ l
no_higher a l h = by_omega (lt_of_not-le (λ (g : suc l ≤ a). not-le_of_lt (pow-lt g) h))
  where
    by_omega : a < suc l → a ≤ l
    by_omega g = omega arith

-- the exponent is not too low
pub fits_down : (f : Format) (s : Bool) (m : ℕ) (e : ℤ) → T (fits f (fin s m e)) → down e ≤ 2 ^ low f
unfolding fits
fits_down f s zero (pos k) t = pow_pos (low f)
fits_down f s zero (negsuc k) t = absurd (two_up (2 ^ suc k) (pow_mono {i = 1} {j = suc k} (omega arith)) (eqb→eq (1 * 2 ^ suc k) 1 t))
  where
    two_up : (x : ℕ) → 2 ≤ x → 1 * x ≡ 1 → ⊥
    two_up x l h = omega arith
fits_down f s (suc m) e t =
    leb→le (down e) (2 ^ low f) (and_r (eqb (suc m % 2) 1 && ltb (suc m) (2 ^ prec f)) (leb (down e) (2 ^ low f))
    (and_l (eqb (suc m % 2) 1 && ltb (suc m) (2 ^ prec f) && leb (down e) (2 ^ low f)) (ltb (suc m * up e) (2 ^ suc (emax f) * down e)) t))

-- and the digits are not too many
fits_digits : (f : Format) (s : Bool) (m : ℕ) (e : ℤ) → T (fits f (fin s (suc m) e)) → suc m < 2 ^ prec f
unfolding fits
fits_digits f s m e t =
    ltb→lt (suc m) (2 ^ prec f) (and_r (eqb (suc m % 2) 1) (ltb (suc m) (2 ^ prec f)) (and_l (eqb (suc m % 2) 1 && ltb (suc m) (2 ^ prec f)) (leb (down e) (2 ^ low f))
    (and_l (eqb (suc m % 2) 1 && ltb (suc m) (2 ^ prec f) && leb (down e) (2 ^ low f)) (ltb (suc m * up e) (2 ^ suc (emax f) * down e)) t)))

fits_top : (f : Format) (s : Bool) (m : ℕ) (e : ℤ) → T (fits f (fin s (suc m) e)) → suc m * up e < 2 ^ suc (emax f) * down e
unfolding fits
fits_top f s m e t =
    ltb→lt (suc m * up e) (2 ^ suc (emax f) * down e) (and_r (eqb (suc m % 2) 1 && ltb (suc m) (2 ^ prec f) && leb (down e) (2 ^ low f)) (ltb (suc m * up e) (2 ^ suc (emax f) * down e)) t)

-- ---- rounded once more
own_value : (f : Format) (s : Bool) (m : ℕ) (e : ℤ) → T (fits f (fin s m e)) → HasValue (round f s (m * up e) (down e)) s (m * up e) (down e)
own_value f s zero e t =
    round_exact f s (0 * up e) (down e) 0 0 (down_pos e) (pow_pos (prec f)) (pow_pos (low f + suc (emax f)))
    (ap (λ (x : ℕ). x * 2 ^ low f) (zero-mul (up e)) ∙ zero-mul (2 ^ low f) ∙ sym (zero-mul (down e)))
own_value f s (suc m) (pos k) t =
    round_exact f s (suc m * 2 ^ k) 1 (suc m) (k + low f) (zero-lt-suc 0) (fits_digits f s m (pos k) t)
    (high (fits_top f s m (pos k) t))
    (mul_assoc (suc m) (2 ^ k) (2 ^ low f) ∙ ap (λ (x : ℕ). suc m * x) (sym (pow-add 2 k (low f))) ∙ sym (mul-one (suc m * 2 ^ (k + low f))))
  where
    flip : (a b : ℕ) → a + b ≡ b + a
    flip a b = omega arith

    high : suc m * 2 ^ k < 2 ^ suc (emax f) * 1 → suc m * 2 ^ (k + low f) < 2 ^ (low f + suc (emax f))
    high h =
        rw (pow-add 2 k (low f), ← mul_assoc (suc m) (2 ^ k) (2 ^ low f), flip (low f) (suc (emax f)))
        (shl_lt (suc (emax f)) (low f) (rw (mul-one (2 ^ suc (emax f))) at h))
own_value f s (suc m) (negsuc k) t =
    let l : suc k ≤ low f = no_higher (suc k) (low f) (fits_down f s (suc m) (negsuc k) t) in
    let j = low f - suc k in
    round_exact f s (suc m * 1) (2 ^ suc k) (suc m) j (pow_pos (suc k)) (fits_digits f s m (negsuc k) t)
    (lt_of_lt_of_le (shl_lt (prec f) j (fits_digits f s m (negsuc k) t)) (pow_mono (room (prec f) (low f) (suc k) (suc (emax f)) (reach f))))
    (ap (λ (x : ℕ). x * 2 ^ low f) (mul-one (suc m)) ∙ ap (λ (x : ℕ). suc m * 2 ^ x) (sym (back (low f) (suc k) l)) ∙ ap (λ (x : ℕ). suc m * x) (pow-add 2 j (suc k)) ∙ sym (mul_assoc (suc m) (2 ^ j) (2 ^ suc k)))
  where
    room : (p l k e : ℕ) → p ≤ e → p + (l - k) ≤ l + e
    room p l k e h = omega arith

pub round_own : (f : Format) (s : Bool) (m : ℕ) (e : ℤ) → T (fits f (fin s m e)) → round f s (m * up e) (down e) ≡ fin s m e
round_own f s m e t = same_value f (round f s (m * up e) (down e)) (fin s m e) s (m * up e) (down e) (down_pos e) (round-fits f s (m * up e) (down e)) t (own_value f s m e t) (refl, refl)

-- nothing, rounded, is the zero of its sign
pub round_nothing : (f : Format) (s : Bool) (c : ℕ) → 0 < c → round f s 0 c ≡ fin s 0 (pos 0)
round_nothing f s c l =
    same_value f (round f s 0 c) (fin s 0 (pos 0)) s 0 c l (round-fits f s 0 c) (unfold fits in tt)
    (round_exact f s 0 c 0 0 l (pow_pos (prec f)) (pow_pos (low f + suc (emax f))) (zero-mul (2 ^ low f) ∙ sym (zero-mul c)))
    (refl, zero-mul c ∙ sym (zero-mul 1))
