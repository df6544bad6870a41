-- Laws of hexadecimal digits: one more digit, found from the lowest on. Assumes nothing.
use mathlib.Core.Path.{◌≡◌, refl, sym, ◌∙◌}
use mathlib.Core.List.{List, ◌∷◌, ◌++◌}
use Prim.Native.Nat.{ℕ, zero, suc, ◌-◌, ◌/◌, ◌%◌, ◌<◌, ◌≤◌}
use native.Mathlib.Omega.{arith}
use lib.ListN.{length, drop, set}
use lib.Seq.{append_snoc, drop-cons, drop-set-lt, get_or-set_same, lt-length-set}
use Rattle.text.specs.Hex.{hex_digit, hex_digits}

-- where the digits of rest stand before those stored from place i on, the lowest of them may be stored too
pub digit_stored : (i rest : ℕ) (out whole : List ℕ) → 0 < i → i ≤ length out → hex_digits i rest ++ drop i out ≡ whole
    → hex_digits (i - 1) (rest / 16) ++ drop (i - 1) (set out (i - 1) (hex_digit (rest % 16))) ≡ whole
unfolding hex_digits
digit_stored zero rest out whole l m e = absurd (omega arith)
digit_stored (suc j) rest out whole l m e =
    let q : suc j - 1 ≡ j = omega arith in
    let g = hex_digit (rest % 16) in
    let here : drop j (set out j g) ≡ g ∷ drop (suc j) out =
    drop-cons (set out j g) j 0 (lt-length-set out j g (omega arith)) ∙ rw (get_or-set_same out j g 0 (omega arith), drop-set-lt (suc j) out j g (omega arith)) refl in
    rw (q, here) (sym (append_snoc (hex_digits j (rest / 16)) g (drop (suc j) out)) ∙ e)
