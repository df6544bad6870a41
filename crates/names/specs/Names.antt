-- The names of the links. Document 01, module 3, its last sentence; `Link::parse` and `Link::name` of family.rs. Assumes nothing.
use Rattle.std.specs.Prelude.{Option, Some, None}
use Rattle.std.specs.Prelude.{List, [], ◌∷◌, ◌++◌, map, reverse, Bool, true, false, ◌&&◌, ◌||◌, cond, ℕ, ◌+◌, ◌-◌, leb, eqb, length, replicate}
use Rattle.model.specs.declared.names.Link.{Link}
use Rattle.model.specs.declared.names.Link.TheVariants.{Logit, Probit, Cloglog, Log, Identity, Inverse, Sqrt}
use Rattle.names.specs.declared.LinkName.{LinkName}

-- a byte that is trimmed: 9 to 13, and 32
unfoldable pub is_blank : ℕ → Bool
is_blank b = leb 9 b && leb b 13 || eqb b 32

-- without the blanks at the front
unfoldable pub trim_front : List ℕ → List ℕ
trim_front [] = []
trim_front (b ∷ bs) = cond (is_blank b) (trim_front bs) (b ∷ bs)

-- without the blanks at the end
unfoldable pub trim_end : List ℕ → List ℕ
trim_end bs = reverse (trim_front (reverse bs))

-- a capital letter, 65 to 90, as the small one
unfoldable pub lower_of : ℕ → ℕ
lower_of b = cond (leb 65 b && leb b 90) (b + 32) b

-- the name of a link, in ASCII
abbrev pub name_of : Link → List ℕ
-- logit
name_of Logit = 108 ∷ 111 ∷ 103 ∷ 105 ∷ 116 ∷ []
-- probit
name_of Probit = 112 ∷ 114 ∷ 111 ∷ 98 ∷ 105 ∷ 116 ∷ []
-- cloglog
name_of Cloglog = 99 ∷ 108 ∷ 111 ∷ 103 ∷ 108 ∷ 111 ∷ 103 ∷ []
-- log
name_of Log = 108 ∷ 111 ∷ 103 ∷ []
-- identity
name_of Identity = 105 ∷ 100 ∷ 101 ∷ 110 ∷ 116 ∷ 105 ∷ 116 ∷ 121 ∷ []
-- inverse
name_of Inverse = 105 ∷ 110 ∷ 118 ∷ 101 ∷ 114 ∷ 115 ∷ 101 ∷ []
-- sqrt
name_of Sqrt = 115 ∷ 113 ∷ 114 ∷ 116 ∷ []

-- two lists of bytes are the same
unfoldable pub same_bytes : List ℕ → List ℕ → Bool
same_bytes [] [] = true
same_bytes [] (y ∷ ys) = false
same_bytes (x ∷ xs) [] = false
same_bytes (x ∷ xs) (y ∷ ys) = eqb x y && same_bytes xs ys

-- the first of some links that has this name
unfoldable pub named_among : List Link → List ℕ → Option Link
named_among [] w = None
named_among (l ∷ ls) w = cond (same_bytes w (name_of l)) (Some l) (named_among ls w)

-- all links
abbrev pub all_links : List Link
all_links = Logit ∷ Probit ∷ Cloglog ∷ Log ∷ Identity ∷ Inverse ∷ Sqrt ∷ []

-- `parse`: the link whose name the bytes are, trimmed and in small letters
unfoldable pub parse_of : List ℕ → Option Link
parse_of s = named_among all_links (map lower_of (trim_end (trim_front s)))

-- `name`, as the first bytes of an array of 8 with zeros behind them
unfoldable pub name_bytes : Link → LinkName
name_bytes l = record { bytes = name_of l ++ replicate (8 - length (name_of l)) 0; count = length (name_of l) }
