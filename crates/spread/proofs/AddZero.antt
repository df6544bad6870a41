-- A zero that is added to a double other than -0.0 changes nothing, and a sum from +0.0 is never -0.0: so zeros at the end of a sum can be left out. Assumes nothing.
use mathlib.Core.Path.{◌≡◌, refl, sym, ap, ◌∙◌}
use mathlib.Core.Bool.{Bool, true, false, ◌&&◌, ◌||◌, beq, cond}
use mathlib.Core.Logic.{◌⊎◌, inl, inr, ⊎_elim}
use Prim.Native.Nat.{ℕ, zero, suc, ◌+◌, ◌-◌, ◌*◌, ◌^◌, ◌≤◌, ◌<◌}
use native.Mathlib.Nat.{zero-lt-suc, zero-mul, one-mul, mul-one, sub-zero, mul_assoc, mul_comm, mul-pos, suc-mul, mul-le-mul_right, lt_of_mul-lt-mul_right, not-suc-le-zero, eq-or-lt_of_le, lt_irrefl}
use native.Mathlib.Omega.{arith}
use borrow.Author.Tests.{lt-ltb, le-ltb, ne_eqb, ltb-true}
use lib.Dec.{T, ltb, eqb}
use lib.IntN.{ℤ, pos, negsuc}
use lib.Pow.{pow-add, pow_pos}
use lib.Ieee.{Float, nan, inf, fin, Format, binary64, prec, emax, low, up, down, unlike, odd, units, round, sum, neg, add, mul, le, lt, eq, fits, of_bits}
use lib.Ieee.Digits.{back}
use lib.Ieee.Fits.{up_pos, down_pos, add-fits}
use lib.Ieee.Order.{round_mono}
use Rattle.base.specs.Number.{◌⊕◌, ◌⊗◌, zero_f, finite}
use Rattle.base.specs.Sum.{sum_to}
use Rattle.base.proofs.Doubles.{ff}
use Rattle.base.proofs.Sums.{lt_or_ge}
use Rattle.spread.proofs.Same.{fits_down, round_own, round_nothing}

-- other than -0.0
abbrev pub no_minus_zero : Float → Bool
no_minus_zero nan = true
no_minus_zero (inf s) = true
no_minus_zero (fin false m e) = true
no_minus_zero (fin true m e) = ltb 0 m

-- the zero of a sign
abbrev pub zero_of : Bool → Float
zero_of s = fin s 0 (pos 0)

-- ---- a zero added
sum_nothing : (f : Format) (s t : Bool) (a c : ℕ) → (s ≡ true → 0 < a) → sum f s a t 0 c ≡ round f s a c
unfolding sum
sum_nothing f true true a c h = ap (λ (x : ℕ). round f true x c) (omega arith)
sum_nothing f false false a c h = ap (λ (x : ℕ). round f false x c) (omega arith)
sum_nothing f false true a c h = rw (le-ltb a 0 (omega arith), sub-zero a) refl
sum_nothing f true false a c h = rw (le-ltb a 0 (omega arith), lt-ltb 0 a (h refl), sub-zero a) refl

times_pos : (m : ℕ) (e : ℤ) → ltb 0 m ≡ true → 0 < m * up e
times_pos m e h = mul-pos (ltb-true 0 m h) (up_pos e)

minus_size : (s : Bool) (m : ℕ) (e : ℤ) → no_minus_zero (fin s m e) ≡ true → s ≡ true → 0 < m * up e
minus_size true m e h q = times_pos m e h
minus_size false m e h q = absurd (ff q)

pub add_zero : (x : Float) (t : Bool) → T (fits binary64 x) → no_minus_zero x ≡ true → x ⊕ zero_of t ≡ x
unfolding add
add_zero nan t p h = refl
add_zero (inf s) t p h = refl
add_zero (fin s m e) t p h =
    rw (mul-one (m * up e), zero-mul (down e), mul-one (down e))
    (sum_nothing binary64 s t (m * up e) (down e) (minus_size s m e h) ∙ round_own binary64 s m e p)

-- +0.0 times a finite number is a zero
pub zero_times : (z : Float) → finite z ≡ true → (s : Bool) × (zero_f ⊗ z ≡ zero_of s)
unfolding mul finite of_bits
zero_times nan h = absurd (ff h)
zero_times (inf s) h = absurd (ff h)
zero_times (fin s n d) h = (unlike false s, rw (zero-mul (n * up d), one-mul (down d)) (round_nothing binary64 (unlike false s) (down d) (down_pos d)))

-- ---- the sign of what is rounded is the sign that is given
turned_odd : (d : ℕ) (q k l : ℕ) → odd d true q k l ≡ neg (odd d false q k l)
unfolding odd neg
turned_odd d zero k l = refl
turned_odd d (suc q) k l = refl

turned_size : (b : Bool) (f : Format) (q k : ℕ) → cond b (odd (suc (prec f)) true q k (low f)) (inf true) ≡ neg (cond b (odd (suc (prec f)) false q k (low f)) (inf false))
unfolding neg
turned_size true f q k = turned_odd (suc (prec f)) q k (low f)
turned_size false f q k = refl

turned_units : (f : Format) (q k : ℕ) → units f true q k ≡ neg (units f false q k)
unfolding units
turned_units f q k = turned_size (ltb (q * 2 ^ k) (2 ^ (low f + suc (emax f)))) f q k

turned_round : (f : Format) (n c : ℕ) → round f true n c ≡ neg (round f false n c)
unfolding round
turned_round f n c = turned_units f _ _

plus_odd : (d q k l : ℕ) → no_minus_zero (odd d false q k l) ≡ true
unfolding odd
plus_odd d zero k l = refl
plus_odd d (suc q) k l = refl

plus_size : (b : Bool) (f : Format) (q k : ℕ) → no_minus_zero (cond b (odd (suc (prec f)) false q k (low f)) (inf false)) ≡ true
plus_size true f q k = plus_odd (suc (prec f)) q k (low f)
plus_size false f q k = refl

plus_units : (f : Format) (q k : ℕ) → no_minus_zero (units f false q k) ≡ true
unfolding units
plus_units f q k = plus_size (ltb (q * 2 ^ k) (2 ^ (low f + suc (emax f)))) f q k

plus_round : (f : Format) (n c : ℕ) → no_minus_zero (round f false n c) ≡ true
unfolding round
plus_round f n c = plus_units f _ _

-- ---- a fraction of at least the smallest double is not rounded to zero
not_zero : (a b : ℕ) → 0 < a → b ≡ 0 → T (ltb a b || (eqb a b && true)) → ⊥
not_zero a b l q t = rw (q, le-ltb a 0 (omega arith), ne_eqb a 0 (λ e. lt_irrefl 0 (rw e at l))) at t

above_tiny : (x : Float) → T (le (fin false 1 (negsuc 1073)) x) → no_minus_zero (neg x) ≡ true
unfolding le lt eq neg
above_tiny nan h = refl
above_tiny (inf s) h = refl
above_tiny (fin true m e) h = refl
above_tiny (fin false zero e) h = absurd (not_zero (1 * 1 * down e) (0 * up e * 2 ^ 1074) (mul-pos (zero-lt-suc 0) (down_pos e)) (ap (λ (x : ℕ). x * 2 ^ 1074) (zero-mul (up e))) h)
above_tiny (fin false (suc m) e) h = lt-ltb 0 (suc m) (omega arith)

tiny_is : round binary64 false 1 (2 ^ low binary64) ≡ fin false 1 (negsuc 1073)
unfolding round
tiny_is = refl

minus_round : (n c : ℕ) → 0 < c → c ≤ n * 2 ^ low binary64 → no_minus_zero (round binary64 true n c) ≡ true
minus_round n c l h =
    let m : T (le (fin false 1 (negsuc 1073)) (round binary64 false n c)) =
    rw (← tiny_is) (round_mono binary64 1 (2 ^ low binary64) n c (pow_pos (low binary64)) l (rw (one-mul c) h)) in
    rw (turned_round binary64 n c) (above_tiny (round binary64 false n c) m)

-- ---- a difference of two doubles is at least the smallest one
-- of two powers of two, one is a multiple of the other
multiple : (e d : ℤ) → ((r : ℕ) × (down e ≡ r * down d)) ⊎ ((r : ℕ) × (down d ≡ r * down e))
multiple (pos j) d = inr (down d, sym (mul-one (down d)))
multiple (negsuc j) (pos k) = inl (2 ^ suc j, sym (mul-one (2 ^ suc j)))
multiple (negsuc j) (negsuc k) = ⊎_elim (λ (l : j < k). inr (2 ^ (suc k - suc j), by_power (suc k) (suc j) (omega arith))) (λ (l : k ≤ j). inl (2 ^ (suc j - suc k), by_power (suc j) (suc k) (omega arith))) (lt_or_ge j k)
  where
    by_power : (a b : ℕ) → b ≤ a → 2 ^ a ≡ 2 ^ (a - b) * 2 ^ b
    by_power a b l = ap (λ (x : ℕ). 2 ^ x) (sym (back a b l)) ∙ pow-add 2 (a - b) b

-- two multiples of g are g apart
apart : (x y g : ℕ) → x * g < y * g → g ≤ y * g - x * g
apart x y g h =
    let l : suc x * g ≤ y * g = mul-le-mul_right g (lt_of_mul-lt-mul_right g h) in
    omega (arith, suc-mul x g)

wide : (x y g r p : ℕ) → x * g < y * g → r ≤ p → g * r ≤ (y * g - x * g) * p
wide x y g r p h l =
    let a : r * g ≤ p * g = mul-le-mul_right g l in
    let b : g * p ≤ (y * g - x * g) * p = mul-le-mul_right p (apart x y g h) in
    omega (arith, mul_comm g r, mul_comm p g)

-- a double less another, both in units of 1 / (down e · down d)
pub gap : (a : ℕ) (e : ℤ) (b : ℕ) (d : ℤ) (p : ℕ) → down e ≤ p → down d ≤ p → b * down e < a * down d → down e * down d ≤ (a * down d - b * down e) * p
gap a e b d p le ld h = ⊎_elim
    (λ (q : (r : ℕ) × (down e ≡ r * down d)).
    let i : b * down e ≡ b * q.0 * down d = ap (λ (x : ℕ). b * x) q.1 ∙ sym (mul_assoc b q.0 (down d)) in
    rw (mul_comm (down e) (down d), i) (wide (b * q.0) a (down d) (down e) p (rw i at h) le))
    (λ (q : (r : ℕ) × (down d ≡ r * down e)).
    let i : a * down d ≡ a * q.0 * down e = ap (λ (x : ℕ). a * x) q.1 ∙ sym (mul_assoc a q.0 (down e)) in
    rw i (wide b (a * q.0) (down e) (down d) p (rw i at h) ld))
    (multiple e d)

-- ---- a sum is never -0.0 where its first part is not
module _ (a b c : ℕ) (some : 0 < c) where
  sum_signed : (s t : Bool) → (s ≡ true → c ≤ (a + b) * 2 ^ low binary64) → (b < a → c ≤ (a - b) * 2 ^ low binary64) → (a < b → c ≤ (b - a) * 2 ^ low binary64) → no_minus_zero (sum binary64 s a t b c) ≡ true
  unfolding sum
  sum_signed true true o g h = minus_round (a + b) c some (o refl)
  sum_signed false false o g h = plus_round binary64 (a + b) c
  sum_signed false true o g h = below (ltb a b) refl
    where
      below : (x : Bool) → ltb a b ≡ x → no_minus_zero (cond x (round binary64 true (b - a) c) (round binary64 false (a - b) c)) ≡ true
      below true e = minus_round (b - a) c some (h (ltb-true a b e))
      below false e = plus_round binary64 (a - b) c
  sum_signed true false o g h = below (ltb a b)
    where
      above : (x : Bool) → ltb b a ≡ x → no_minus_zero (round binary64 (true && x) (a - b) c) ≡ true
      above true e = minus_round (a - b) c some (g (ltb-true b a e))
      above false e = plus_round binary64 (a - b) c

      below : (x : Bool) → no_minus_zero (cond x (round binary64 false (b - a) c) (round binary64 (true && ltb b a) (a - b) c)) ≡ true
      below true = plus_round binary64 (b - a) c
      below false = above (ltb b a) refl

-- two parts of one sign are together at least as much as the first
together : (a : ℕ) (e : ℤ) (b : ℕ) (d : ℤ) (p : ℕ) → 0 < a → down e ≤ p → down e * down d ≤ (a * down d + b) * p
together a e b d p l h =
    let x : down e * down d ≤ p * down d = mul-le-mul_right (down d) h in
    let y : 1 * down d ≤ a * down d = mul-le-mul_right (down d) l in
    let z : down d * p ≤ (a * down d + b) * p = mul-le-mul_right p (omega arith) in
    omega (arith, mul_comm p (down d))

pub add_signed : (x y : Float) → T (fits binary64 x) → T (fits binary64 y) → no_minus_zero x ≡ true → no_minus_zero (x ⊕ y) ≡ true
unfolding add
add_signed nan y p q h = refl
add_signed (inf s) nan p q h = refl
add_signed (inf s) (inf t) p q h = like (beq s t)
  where
    like : (b : Bool) → no_minus_zero (cond b (inf s) nan) ≡ true
    like true = refl
    like false = refl
add_signed (inf s) (fin t n d) p q h = refl
add_signed (fin s m e) nan p q h = refl
add_signed (fin s m e) (inf t) p q h = refl
add_signed (fin s m e) (fin t n d) p q h =
    let P = 2 ^ low binary64 in
    let le : down e ≤ P = fits_down binary64 s m e p in
    let ld : down d ≤ P = fits_down binary64 t n d q in
    sum_signed (m * up e * down d) (n * up d * down e) (down e * down d) (mul-pos (down_pos e) (down_pos d)) s t
    (λ o. together (m * up e) e (n * up d * down e) d P (minus_size s m e h o) le)
    (λ l. gap (m * up e) e (n * up d) d P le ld l)
    (λ l. rw (mul_comm (down e) (down d)) (gap (n * up d) d (m * up e) e P ld le l))

-- ---- sums from +0.0
module _ (f : ℕ → Float) (fitting : (j : ℕ) → T (fits binary64 (f j))) where
  sum_fits : (n : ℕ) → T (fits binary64 (sum_to n f))
  unfolding sum_to fits of_bits
  sum_fits zero = tt
  sum_fits (suc n) = add-fits binary64 (sum_to n f) (f n)

  pub sum_signed_to : (n : ℕ) → no_minus_zero (sum_to n f) ≡ true
  unfolding sum_to of_bits
  sum_signed_to zero = refl
  sum_signed_to (suc n) = add_signed (sum_to n f) (f n) (sum_fits n) (fitting n) (sum_signed_to n)

  -- zeros at its end add nothing
  pub zeros_after : (m n : ℕ) → m ≤ n → ((j : ℕ) → m ≤ j → j < n → (s : Bool) × (f j ≡ zero_of s)) → sum_to n f ≡ sum_to m f
  unfolding sum_to
  zeros_after zero zero l z = refl
  zeros_after (suc m) zero l z = absurd (not-suc-le-zero l)
  zeros_after m (suc n) l z = ⊎_elim
      (λ (e : m ≡ suc n). rw e refl)
      (λ (k : m < suc n).
      let here : (s : Bool) × (f n ≡ zero_of s) = z n (omega arith) (omega arith) in
      rw here.1 (add_zero (sum_to n f) here.0 (sum_fits n) (sum_signed_to n)) ∙ zeros_after m n (omega arith) (λ j p q. z j p (omega arith)))
      (eq-or-lt_of_le l)
