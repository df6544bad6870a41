-- Laws of looking a word up: which words std finds to be a name in either case, and the links one after another. Assumes nothing.
use Rattle.std.specs.Prelude.{Some, None}
use Rattle.std.specs.Char.{to_ascii_lowercase}
use mathlib.Core.Path.{◌≡◌, refl, sym, ap, ◌∙◌}
use mathlib.Core.Bool.{Bool, true, false, true≢false}
use mathlib.Core.List.{List, [], ◌∷◌, map}
use Prim.Native.Nat.{ℕ, suc, ◌+◌, ◌<◌, ◌≤◌}
use native.Mathlib.Numerals.{add-one}
use native.Mathlib.Omega.{arith}
use borrow.Author.Tests.{eq-eqb, eqb-true}
use lib.Dec.{eqb}
use lib.ListN.{length, get_or, drop, drop_of_length-le}
use lib.Seq.{drop-cons}
use Rattle.base.proofs.Sums.{and_true}
use Rattle.model.specs.declared.names.Link.{Link}
use Rattle.model.specs.declared.names.Link.TheVariants.{Logit, Probit, Cloglog, Log, Identity, Inverse, Sqrt}
use Rattle.names.specs.Names.{lower_of, name_of, same_bytes, named_among}

-- ---- the same bytes
pub same_bytes_lem : (xs ys : List ℕ) → same_bytes xs ys ≡ true → xs ≡ ys
unfolding same_bytes
same_bytes_lem [] [] h = refl
same_bytes_lem [] (y ∷ ys) h = absurd (true≢false (sym h))
same_bytes_lem (x ∷ xs) [] h = absurd (true≢false (sym h))
same_bytes_lem (x ∷ xs) (y ∷ ys) h =
    let p : (true ≡ eqb x y) × (true ≡ same_bytes xs ys) = and_true (eqb x y) (same_bytes xs ys) (sym h) in
    let head : x ≡ y = eqb-true x y (sym p.0) in
    let tail : xs ≡ ys = same_bytes_lem xs ys (sym p.1) in
    cc

bytes_same : (xs : List ℕ) → same_bytes xs xs ≡ true
unfolding same_bytes
bytes_same [] = refl
bytes_same (x ∷ xs) = rw (eq-eqb x x refl, bytes_same xs)

-- ---- std's small letters are those of the definition, and a name has no others
lower_same : (b : ℕ) → to_ascii_lowercase b ≡ lower_of b
unfolding lower_of
lower_same b = grind arith

words_lower : (w : List ℕ) → map to_ascii_lowercase w ≡ map lower_of w
words_lower [] = refl
words_lower (b ∷ bs) = rw (lower_same b, words_lower bs)

name_lower : (l : Link) → map to_ascii_lowercase (name_of l) ≡ name_of l
name_lower Logit = refl
name_lower Probit = refl
name_lower Cloglog = refl
name_lower Log = refl
name_lower Identity = refl
name_lower Inverse = refl
name_lower Sqrt = refl

-- ---- whether the word w is the text t of a link
module _ (w t : List ℕ) (l : Link) (e : t ≡ name_of l) where
  text_lower : map to_ascii_lowercase t ≡ name_of l
  text_lower = ap (map to_ascii_lowercase) e ∙ name_lower l

  spelled : map to_ascii_lowercase w ≡ map to_ascii_lowercase t → same_bytes (map lower_of w) (name_of l) ≡ true
  spelled h =
      let q : map lower_of w ≡ name_of l = sym (words_lower w) ∙ h ∙ text_lower in
      rw q (bytes_same (name_of l))

  not_spelled : (map to_ascii_lowercase w ≡ map to_ascii_lowercase t → ⊥) → same_bytes (map lower_of w) (name_of l) ≡ false
  not_spelled h = unless (same_bytes (map lower_of w) (name_of l)) refl
    where
      unless : (b : Bool) → same_bytes (map lower_of w) (name_of l) ≡ b → b ≡ false
      unless true q = absurd (h (words_lower w ∙ same_bytes_lem _ _ q ∙ sym text_lower))
      unless false q = refl

-- ---- the links from place k on: the one there, if the word is its text, or else the links behind it
module _ (ls : List Link) (k : ℕ) (d : Link) (w t : List ℕ) (e : t ≡ name_of (get_or ls k d)) (s : k < length ls) where
  pub named_here : map to_ascii_lowercase w ≡ map to_ascii_lowercase t → named_among (drop k ls) (map lower_of w) ≡ named_among ls (map lower_of w) → Some (get_or ls k d) ≡ named_among ls (map lower_of w)
  unfolding named_among
  named_here h q =
      let this : named_among (drop k ls) (map lower_of w) ≡ Some (get_or ls k d) = rw (drop-cons ls k d s, spelled w t (get_or ls k d) e h) in
      sym this ∙ q

  pub named_behind : (map to_ascii_lowercase w ≡ map to_ascii_lowercase t → ⊥) → named_among (drop k ls) (map lower_of w) ≡ named_among ls (map lower_of w) → named_among (drop (k + 1) ls) (map lower_of w) ≡ named_among ls (map lower_of w)
  unfolding named_among
  named_behind h q =
      let this : named_among (drop k ls) (map lower_of w) ≡ named_among (drop (suc k) ls) (map lower_of w) = rw (drop-cons ls k d s, not_spelled w t (get_or ls k d) e h) in
      rw add-one (sym this ∙ q)

-- behind all links nothing has the name
pub named_by_none : (ls : List Link) (k : ℕ) (w : List ℕ) → length ls ≤ k → named_among (drop k ls) w ≡ named_among ls w → None ≡ named_among ls w
unfolding named_among
named_by_none ls k w l q =
    let none : named_among (drop k ls) w ≡ None = rw (drop_of_length-le ls l) in
    sym none ∙ q
