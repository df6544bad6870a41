-- Laws of trimming: where the blanks at the front and at the end stop. Assumes nothing.
use mathlib.Core.Path.{◌≡◌, sym, ap, ◌∙◌}
use mathlib.Core.Bool.{true, false}
use mathlib.Core.List.{List, [], ◌∷◌, ◌++◌, reverse, reverse-cons, reverse-append, reverse-reverse}
use Prim.Native.Nat.{ℕ, suc, ◌+◌, ◌-◌, ◌<◌, ◌≤◌}
use native.Mathlib.Nat.{sub-zero}
use native.Mathlib.Numerals.{add-one}
use native.Mathlib.Omega.{arith}
use lib.ListN.{length, get_or, take, drop, drop_of_length-le, length-drop}
use lib.Seq.{drop-cons, take-suc, take_all}
use Rattle.names.specs.Names.{is_blank, trim_front, trim_end}
use Rattle.names.specs.Trimmed.{FrontAt, EndAt}

-- ---- at the front
pub front_next : (s : List ℕ) (i : ℕ) → i < length s → is_blank (get_or s i 0) ≡ true → trim_front (drop i s) ≡ trim_front s → trim_front (drop (i + 1) s) ≡ trim_front s
unfolding trim_front
front_next s i l h e =
    let one : trim_front (get_or s i 0 ∷ drop (suc i) s) ≡ trim_front (drop (suc i) s) = rw h in
    rw add-one (sym one ∙ sym (ap trim_front (drop-cons s i 0 l)) ∙ e)

pub front_stop : (s : List ℕ) (i : ℕ) → i < length s → is_blank (get_or s i 0) ≡ false → trim_front (drop i s) ≡ trim_front s → drop i s ≡ trim_front s
unfolding trim_front
front_stop s i l h e =
    let one : trim_front (get_or s i 0 ∷ drop (suc i) s) ≡ get_or s i 0 ∷ drop (suc i) s = rw h in
    drop-cons s i 0 l ∙ sym one ∙ sym (ap trim_front (drop-cons s i 0 l)) ∙ e

pub front_all : (s : List ℕ) (i : ℕ) → length s ≤ i → trim_front (drop i s) ≡ trim_front s → drop i s ≡ trim_front s
unfolding trim_front
front_all s i l e = let none : drop i s ≡ [] = drop_of_length-le s l in none ∙ sym (ap trim_front none) ∙ e

-- ---- at the end
last_turned : (xs : List ℕ) (b : ℕ) → reverse (xs ++ (b ∷ [])) ≡ b ∷ reverse xs
last_turned xs b = reverse-append xs (b ∷ [])

end_blank : (xs : List ℕ) (b : ℕ) → is_blank b ≡ true → trim_end (xs ++ (b ∷ [])) ≡ trim_end xs
unfolding trim_end trim_front
end_blank xs b h = rw (last_turned xs b, h)

end_kept : (xs : List ℕ) (b : ℕ) → is_blank b ≡ false → trim_end (xs ++ (b ∷ [])) ≡ xs ++ (b ∷ [])
unfolding trim_end trim_front
end_kept xs b h = rw (last_turned xs b, h) (reverse-cons b (reverse xs) ∙ ap (λ (l : List ℕ). l ++ (b ∷ [])) (reverse-reverse xs))

-- the first e bytes are the first e - 1 and one more
first_of : (s : List ℕ) (e : ℕ) → 0 < e → e ≤ length s → take e s ≡ take (e - 1) s ++ (get_or s (e - 1) 0 ∷ [])
first_of s e p l =
    let q : e ≡ suc (e - 1) = omega arith in
    ap (λ (k : ℕ). take k s) q ∙ take-suc s (e - 1) 0 (omega arith)

pub end_next : (s : List ℕ) (e : ℕ) → 0 < e → e ≤ length s → is_blank (get_or s (e - 1) 0) ≡ true → trim_end (take e s) ≡ trim_end s → trim_end (take (e - 1) s) ≡ trim_end s
end_next s e p l h q = sym (end_blank (take (e - 1) s) (get_or s (e - 1) 0) h) ∙ sym (ap trim_end (first_of s e p l)) ∙ q

pub end_stop : (s : List ℕ) (e : ℕ) → 0 < e → e ≤ length s → is_blank (get_or s (e - 1) 0) ≡ false → trim_end (take e s) ≡ trim_end s → take e s ≡ trim_end s
end_stop s e p l h q = first_of s e p l ∙ sym (end_kept (take (e - 1) s) (get_or s (e - 1) 0) h) ∙ sym (ap trim_end (first_of s e p l)) ∙ q

pub end_all : (s : List ℕ) (e : ℕ) → e ≤ 0 → trim_end (take e s) ≡ trim_end s → take e s ≡ trim_end s
unfolding trim_end trim_front
end_all s e l q =
    let none : e ≡ 0 = omega arith in
    let empty : take e s ≡ [] = ap (λ (k : ℕ). take k s) none in
    empty ∙ sym (ap trim_end empty) ∙ q

-- ---- at both: the part from a on, and its first e
pub both_ends : (s : List ℕ) (a e : ℕ) → FrontAt s a → EndAt (take (length s - a) (drop a s)) e → take (e - 0) (take (length s - a) (drop a s)) ≡ trim_end (trim_front s)
both_ends s a e f k =
    let whole : take (length s - a) (drop a s) ≡ drop a s = take_all (length s - a) (drop a s) (omega (arith, length-drop a s)) in
    rw sub-zero (k.rest ∙ ap trim_end (whole ∙ f.rest))
