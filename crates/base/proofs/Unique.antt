-- One answer, one content: every contract of this crate is an equation with its definition, and an equation leaves one value.
-- What is said by a relation is unique by `wrote_unique` (rows), `follows_unique` and `follows_down_unique` (in-place rules). Assumes nothing.
use mathlib.Core.Path.{◌≡◌, sym, ◌∙◌}

-- two values that equal one definition are equal
pub one_value : {A : Type 0} {x y d : A} → x ≡ d → y ≡ d → x ≡ y
one_value p q = p ∙ sym q
