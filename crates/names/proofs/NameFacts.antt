-- What document 01 fixes of the names: which bytes are a link's name, and that nothing else is. Assumes nothing.
use Rattle.std.specs.Prelude.{Some}
use mathlib.Core.Path.{◌≡◌, refl, sym, ap, ◌∙◌}
use mathlib.Core.Bool.{Bool, true, false, ◌&&◌, ◌||◌, cond}
use mathlib.Core.List.{List, [], ◌∷◌, map, reverse, reverse_aux, reverse-reverse}
use mathlib.Core.Logic.{⊎_elim}
use Prim.Native.Nat.{ℕ, ◌+◌, ◌≤◌, ◌<◌}
use native.Mathlib.Omega.{arith}
use borrow.Author.Rules.{rules}
use borrow.Author.Tests.{lt-leb, ne_eqb}
use lib.Dec.{leb}
use lib.ListN.{take}
use Rattle.base.proofs.Doubles.{ff}
use Rattle.base.proofs.Sums.{lt_or_ge}
use Rattle.model.specs.declared.names.Link.{Link}
use Rattle.model.specs.declared.names.Link.TheVariants.{Logit, Probit, Cloglog, Log, Identity, Inverse, Sqrt}
use Rattle.names.proofs.Spelled.{same_bytes_lem}
use Rattle.names.specs.Names.{is_blank, trim_front, trim_end, lower_of, name_of, same_bytes, named_among, all_links, parse_of, name_bytes}

-- ---- `parse` of `name` gives the link back
pub parse_of_name : (l : Link) → parse_of (name_of l) ≡ Some l
unfolding parse_of trim_end trim_front is_blank lower_of same_bytes named_among
parse_of_name Logit = refl
parse_of_name Probit = refl
parse_of_name Cloglog = refl
parse_of_name Log = refl
parse_of_name Identity = refl
parse_of_name Inverse = refl
parse_of_name Sqrt = refl

-- also as the bytes that the function `name` gives
pub parse_of_bytes : (l : Link) → parse_of (take (name_bytes l).count (name_bytes l).bytes) ≡ Some l
unfolding parse_of trim_end trim_front is_blank lower_of same_bytes named_among name_bytes
parse_of_bytes Logit = refl
parse_of_bytes Probit = refl
parse_of_bytes Cloglog = refl
parse_of_bytes Log = refl
parse_of_bytes Identity = refl
parse_of_bytes Inverse = refl
parse_of_bytes Sqrt = refl

-- ---- what is parsed to a link is its name, trimmed and in small letters, and that is parsed to it
pub named_is_found : (s : List ℕ) (l : Link) → map lower_of (trim_end (trim_front s)) ≡ name_of l → parse_of s ≡ Some l
unfolding parse_of same_bytes named_among
named_is_found s Logit e = rw e
named_is_found s Probit e = rw e
named_is_found s Cloglog e = rw e
named_is_found s Log e = rw e
named_is_found s Identity e = rw e
named_is_found s Inverse e = rw e
named_is_found s Sqrt e = rw e

among_only : (ls : List Link) (w : List ℕ) (l : Link) → named_among ls w ≡ Some l → w ≡ name_of l
unfolding named_among
among_only [] w l e = let z : ◌≡◌ {A = ℕ} 0 1 = cc in let never : ⊥ = omega arith in absurd never
among_only (k ∷ ls) w l e = picked (same_bytes w (name_of k)) refl (among_only ls w l) e
  where
    picked : (b : Bool) → same_bytes w (name_of k) ≡ b → (named_among ls w ≡ Some l → w ≡ name_of l) → cond b (Some k) (named_among ls w) ≡ Some l → w ≡ name_of l
    picked true h rest q = let same : k ≡ l = cc in same_bytes_lem w (name_of k) h ∙ ap name_of same
    picked false h rest q = rest q

pub found_is_named : (s : List ℕ) (l : Link) → parse_of s ≡ Some l → map lower_of (trim_end (trim_front s)) ≡ name_of l
unfolding parse_of
found_is_named s l e = among_only all_links _ l e

-- ---- what is parsed to a link has no byte outside ASCII
abbrev pub Ascii : List ℕ → Type 0
Ascii [] = Unit {0}
Ascii (b ∷ bs) = (b < 128) × Ascii bs

blank_ascii : (b : ℕ) → is_blank b ≡ true → b < 128
unfolding is_blank
blank_ascii b h = ⊎_elim (λ (l : b < 128). l) (λ (l : 128 ≤ b). absurd (ff (sym (high l) ∙ h))) (lt_or_ge b 128)
  where
    high : 128 ≤ b → is_blank b ≡ false
    high l = rw (lt-leb b 13 (omega arith), ne_eqb b 32 (omega arith)) (none (leb 9 b))
      where
        none : (t : Bool) → (t && false || false) ≡ false
        none true = refl
        none false = refl

front_ascii : (s : List ℕ) → Ascii (trim_front s) → Ascii s
unfolding trim_front
front_ascii [] a = a
front_ascii (b ∷ bs) a = picked (is_blank b) refl (front_ascii bs) a
  where
    picked : (t : Bool) → is_blank b ≡ t → (Ascii (trim_front bs) → Ascii bs) → Ascii (cond t (trim_front bs) (b ∷ bs)) → Ascii (b ∷ bs)
    picked true h rest a = (blank_ascii b h, rest a)
    picked false h rest a = a

turned_ascii : (s r : List ℕ) → Ascii (reverse_aux s r) → Ascii s × Ascii r
turned_ascii [] r a = (tt, a)
turned_ascii (b ∷ bs) r a = let q = turned_ascii bs (b ∷ r) a in ((q.1.0, q.0), q.1.1)

end_ascii : (s : List ℕ) → Ascii (trim_end s) → Ascii s
unfolding trim_end
end_ascii s a = rw reverse-reverse at (turned (reverse s) (front_ascii (reverse s) (turned_ascii (trim_front (reverse s)) [] a).0))
  where
    turned : (t : List ℕ) → Ascii t → Ascii (reverse t)
    turned t a = (turned_ascii (reverse t) [] (rw reverse-reverse a)).0

low_ascii : (w : List ℕ) → Ascii (map lower_of w) → Ascii w
unfolding lower_of
low_ascii [] a = a
low_ascii (b ∷ bs) a = (below (leb 65 b && leb b 90) refl a.0, low_ascii bs a.1)
  where
    below : (t : Bool) → (leb 65 b && leb b 90) ≡ t → lower_of b < 128 → b < 128
    below true h l = let m : b + 32 < 128 = rw h at l in omega arith
    below false h l = rw h at l

name_ascii : (l : Link) → Ascii (name_of l)
name_ascii Logit = search rules
name_ascii Probit = search rules
name_ascii Cloglog = search rules
name_ascii Log = search rules
name_ascii Identity = search rules
name_ascii Inverse = search rules
name_ascii Sqrt = search rules

pub found_is_ascii : (s : List ℕ) (l : Link) → parse_of s ≡ Some l → Ascii s
found_is_ascii s l e = front_ascii s (end_ascii (trim_front s) (low_ascii (trim_end (trim_front s)) (rw (found_is_named s l e) (name_ascii l))))
