-- Pieces of a list of bytes: where a piece stands, and the number that its bits make. Assumes nothing.
use mathlib.Core.Path.{◌≡◌, refl, sym, ◌∙◌}
use mathlib.Core.List.{List, [], ◌∷◌, ◌++◌}
use mathlib.Core.Logic.{⊎_elim}
use Prim.Native.Nat.{ℕ, zero, suc, ◌+◌, ◌*◌, ◌≤◌, ◌<◌, ◌/◌, ◌%◌, ◌^◌}
use native.Mathlib.Nat.{mul-suc, suc-mul, mul-le-mul_right, add-zero}
use native.Mathlib.Omega.{arith}
use lib.Dec.{T}
use lib.Ieee.{Float, fits, binary64}
use lib.Ieee.Bits.{of_bits-to_bits, to_bits-lt}
use lib.ListN.{length, length-append, get_or-append}
use lib.Pow.{pow-add}
use lib.Seq.{get_or-append-add}
use Rattle.base.specs.Sum.{◌!!◌}
use Rattle.base.proofs.Sums.{lt_or_ge, last_or_before}
use Rattle.bits.specs.Bits.{bits_of, double_of}
use Rattle.bits.proofs.BitLaws.{bits_below}
use Rattle.job.specs.Lists.{join_to}
use Rattle.job.specs.Write.{bytes_of, number_bytes}
use Rattle.job.proofs.ListLaws.{join_at}
use Rattle.bits.proofs.ByteLaws.{split, byte_is}
use Rattle.job.proofs.ByteLaws.{Bytes}

-- ---- every entry is a byte
pub bytes_none : Bytes []
bytes_none i = omega arith

one_byte : (v : ℕ) → Bytes (v % 256 ∷ [])
one_byte v zero = omega arith
one_byte v (suc i) = omega arith

pub bytes_both : (xs ys : List ℕ) → Bytes xs → Bytes ys → Bytes (xs ++ ys)
bytes_both [] ys a b i = b i
bytes_both (x ∷ xs) ys a b zero = a 0
bytes_both (x ∷ xs) ys a b (suc i) = bytes_both xs ys (λ k. a (suc k)) b i

pub bytes_of_lem : (n v : ℕ) → Bytes (bytes_of n v)
unfolding bytes_of
bytes_of_lem zero v = bytes_none
bytes_of_lem (suc n) v = bytes_both (bytes_of n (v / 256)) (v % 256 ∷ []) (bytes_of_lem n (v / 256)) (one_byte v)

pub bytes_join : (n : ℕ) (f : ℕ → List ℕ) → ((i : ℕ) → Bytes (f i)) → Bytes (join_to n f)
unfolding join_to
bytes_join zero f h = bytes_none
bytes_join (suc n) f h = bytes_both (join_to n f) (f n) (bytes_join n f h) (h n)

-- ---- lengths
pub bytes_length : (n v : ℕ) → length (bytes_of n v) ≡ n
unfolding bytes_of
bytes_length zero v = refl
bytes_length (suc n) v = length-append (bytes_of n (v / 256)) (v % 256 ∷ []) ∙ rw (bytes_length n (v / 256)) (omega arith)

pub join_length : (n w : ℕ) (f : ℕ → List ℕ) → ((i : ℕ) → length (f i) ≡ w) → length (join_to n f) ≡ w * n
unfolding join_to
join_length zero w f h = omega arith
join_length (suc n) w f h = length-append (join_to n f) (f n) ∙ rw (join_length n w f h, h n) (omega (arith, mul-suc w n))

-- ---- a piece stands in s from byte i on
abbrev pub Has : List ℕ → ℕ → List ℕ → Type 0
Has s i piece = (k : ℕ) → k < length piece → s !! (i + k) ≡ (piece !! k)

pub has_whole : (s : List ℕ) → Has s 0 s
has_whole s k l = let e : 0 + k ≡ k = omega arith in rw e

pub has_left : (s : List ℕ) (i : ℕ) (xs ys : List ℕ) → Has s i (xs ++ ys) → Has s i xs
has_left s i xs ys h k l = h k (omega (arith, length-append xs ys)) ∙ get_or-append xs ys 0 k l

pub has_right : (s : List ℕ) (i n : ℕ) (xs ys : List ℕ) → length xs ≡ n → Has s i (xs ++ ys) → Has s (i + n) ys
has_right s i n xs ys e h k l =
    let m : i + n + k ≡ i + (length xs + k) = omega arith in
    rw m (h (length xs + k) (omega (arith, length-append xs ys)) ∙ get_or-append-add xs ys k 0)

join_longer : (f : ℕ → List ℕ) (n r k : ℕ) → r < n → k < length (f r) → length (join_to r f) + k < length (join_to n f)
unfolding join_to
join_longer f zero r k l m = absurd (omega arith)
join_longer f (suc n) r k l m =
    let e = length-append (join_to n f) (f n) in
    ⊎_elim (λ (q : r ≡ n). let t : k < length (f n) = rw q at m in rw q (omega arith)) (λ (q : r < n). omega (arith, join_longer f n r k q m)) (last_or_before l)

pub has_join : (s : List ℕ) (a n r : ℕ) (f : ℕ → List ℕ) → Has s a (join_to n f) → r < n → Has s (a + length (join_to r f)) (f r)
has_join s a n r f h l k m =
    let e : a + length (join_to r f) + k ≡ a + (length (join_to r f) + k) = omega arith in
    rw e (h (length (join_to r f) + k) (join_longer f n r k l m) ∙ join_at f n r k 0 l m)

-- ---- its bytes make a number
pub has_number : (s : List ℕ) (i n v : ℕ) → Bytes s → Has s i (bytes_of n v) → v < 2 ^ (8 * n) → bits_of s (8 * i) (8 * n) ≡ v
unfolding bytes_of bits_of
has_number s i zero v b h l = omega arith
has_number s i (suc n) v b h l =
    let w : 8 * suc n ≡ 8 * n + 8 = omega arith in
    let p : 2 ^ (8 * n + 8) ≡ 2 ^ (8 * n) * 256 = pow-add 2 (8 * n) 8 in
    let high : v < 2 ^ (8 * n) * 256 = rw p at (rw w at l) in
    let front = has_number s i n (v / 256) b (has_left s i (bytes_of n (v / 256)) (v % 256 ∷ []) h) (omega arith) in
    let last : s !! (i + n) ≡ v % 256 = rw add-zero at (has_right s i n (bytes_of n (v / 256)) (v % 256 ∷ []) (bytes_length n (v / 256)) h 0 (omega arith)) in
    let place : 8 * i + 8 * n ≡ 8 * (i + n) = omega arith in
    rw (w, split s (8 * i) (8 * n) 8, place, front, byte_is s (i + n) (b (i + n)), last) (omega arith)

-- ---- a number of two fields
below_not : (m x a y b : ℕ) → x * m + a ≡ y * m + b → a < m → x < y → ⊥
below_not m x a y b e l h =
    let g : suc x * m ≤ y * m = mul-le-mul_right m h in
    omega (arith, suc-mul x m)

two_fields : (m x a y b : ℕ) → x * m + a ≡ y * m + b → a < m → b < m → (x ≡ y) × (a ≡ b)
two_fields m x a y b e l k =
    let q : x ≡ y =
    ⊎_elim
    (λ (h : x < y). absurd (below_not m x a y b e l h))
    (λ (h : y ≤ x). ⊎_elim (λ (g : y < x). absurd (below_not m y b x a (sym e) k g)) (λ (g : x ≤ y). omega arith) (lt_or_ge y x))
    (lt_or_ge x y) in
    let t : x * m ≡ y * m = rw q in
    (q, omega arith)

-- the field behind the first a bits, and those
pub peel : (s : List ℕ) (at a b v f : ℕ) → bits_of s at (a + b) ≡ v * 2 ^ b + f → f < 2 ^ b → (bits_of s at a ≡ v) × (bits_of s (at + a) b ≡ f)
peel s at a b v f e l = two_fields (2 ^ b) (bits_of s at a) (bits_of s (at + a) b) v f (sym (split s at a b) ∙ e) (bits_below s (at + a) b) l

-- ---- a double
pub has_double : (s : List ℕ) (i : ℕ) (x : Float) → Bytes s → Has s i (number_bytes x) → T (fits binary64 x) → double_of s i ≡ x
unfolding number_bytes double_of
has_double s i x b h f = rw (has_number s i 8 _ b h (to_bits-lt binary64 x f)) (of_bits-to_bits binary64 x f)
