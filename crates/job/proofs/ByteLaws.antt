-- Laws of whole bytes: the number of n bytes is written as these bytes. Assumes nothing.
use mathlib.Core.Path.{◌≡◌, refl, sym, ap, ◌∙◌}
use mathlib.Core.List.{List, [], ◌++◌}
use Prim.Native.Nat.{ℕ, zero, suc, ◌+◌, ◌*◌, ◌≤◌, ◌<◌, ◌/◌, ◌%◌}
use native.Mathlib.Nat.{mul-suc, mul-zero}
use native.Mathlib.Omega.{arith}
use lib.ListN.{length, take, drop, length-drop}
use lib.Seq.{take_all, take-suc, get_or-drop, take-add, drop-drop}
use Rattle.base.specs.Sum.{◌!!◌}
use Rattle.bits.specs.Bits.{bits_of}
use Rattle.bits.proofs.ByteLaws.{split, byte_is}
use Rattle.job.specs.Lists.{join_to}
use Rattle.job.specs.Write.{bytes_of}

-- every entry is a byte
abbrev pub Bytes : List ℕ → Type 0
Bytes s = (i : ℕ) → (s !! i) < 256

-- ---- n whole bytes from byte i on, as a number, are written as these bytes
pub part : List ℕ → ℕ → ℕ → List ℕ
part s i n = take n (drop i s)

pub part_none : (s : List ℕ) (i : ℕ) → [] ≡ part s i 0
unfolding part
part_none s i = refl

high : (v b : ℕ) → b < 256 → (v * 256 + b) / 256 ≡ v
high v b l = omega arith

low : (v b : ℕ) → b < 256 → (v * 256 + b) % 256 ≡ b
low v b l = omega arith

pub bytes_are : (s : List ℕ) (i n : ℕ) → Bytes s → i + n ≤ length s → bytes_of n (bits_of s (8 * i) (8 * n)) ≡ part s i n
unfolding bytes_of part
bytes_are s i zero h l = refl
bytes_are s i (suc n) h l =
    let e : 8 * suc n ≡ 8 * n + 8 = omega arith in
    let f : 8 * i + 8 * n ≡ 8 * (i + n) = omega arith in
    let v = bits_of s (8 * i) (8 * n) in
    let b = s !! (i + n) in
    let k : n < length (drop i s) = rw length-drop (omega arith) in
    rw (
      e,
      split s (8 * i) (8 * n) 8,
      f,
      byte_is s (i + n) (h (i + n)),
      high v b (h (i + n)),
      low v b (h (i + n)),
      bytes_are s i n h (omega arith),
      take-suc (drop i s) n 0 k,
      get_or-drop i s n 0,
    )

pub part_add : (s : List ℕ) (i m n : ℕ) → part s i (m + n) ≡ part s i m ++ part s (i + m) n
unfolding part
part_add s i m n = take-add m n (drop i s) ∙ ap (λ (l : List ℕ). take m (drop i s) ++ take n l) (drop-drop m i s)

-- ---- the parts of one width behind one another
pub join_parts : (s : List ℕ) (f : ℕ → List ℕ) (a w n : ℕ) → ((i : ℕ) → i < n → f i ≡ part s (a + w * i) w) → join_to n f ≡ part s a (w * n)
unfolding join_to part
join_parts s f a w zero h = rw mul-zero
join_parts s f a w (suc n) h =
    rw (join_parts s f a w n (λ i l. h i (omega arith)), h n (omega arith)) (sym (part_add s a (w * n) w) ∙ ap (part s a) (sym (mul-suc w n)))

-- the first part, and then the rest
pub joined : (s : List ℕ) (a m n e : ℕ) (xs ys : List ℕ) → xs ≡ part s a m → ys ≡ part s (a + m) n → m + n ≡ e → xs ++ ys ≡ part s a e
joined s a m n e xs ys h k g = rw (h, k, ← g) (sym (part_add s a m n))

pub whole : (s : List ℕ) → part s 0 (length s) ≡ s
unfolding part
whole s = take_all (length s) s (omega arith)
