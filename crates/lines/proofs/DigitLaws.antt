-- Laws of decimal digits: one more digit, found from the lowest on, and zeros in front. Assumes nothing.
use mathlib.Core.Path.{◌≡◌, refl, sym, ◌∙◌}
use mathlib.Core.Bool.{Bool, true, false, cond}
use mathlib.Core.List.{List, [], ◌∷◌, ◌++◌}
use Prim.Native.Nat.{ℕ, zero, suc, ◌+◌, ◌-◌, ◌/◌, ◌%◌, ◌<◌, ◌≤◌}
use native.Mathlib.Omega.{arith}
use borrow.Author.Tests.{eq-eqb, ne_eqb}
use lib.Dec.{eqb}
use lib.ListN.{length, take, drop, set, length-drop, length-append}
use lib.Seq.{take_all, append_snoc, drop-cons, drop-set-lt, get_or-set_same, lt-length-set}
use Rattle.base.specs.Sum.{◌!!◌}
use Rattle.lines.specs.Decimals.{decimals, trimmed, decimal_of}

-- where the digits of rest stand before those stored from place i on, the lowest of them may be stored too
pub digit_stored : (i rest : ℕ) (out whole : List ℕ) → 0 < i → i ≤ length out → decimals i rest ++ drop i out ≡ whole
    → decimals (i - 1) (rest / 10) ++ drop (i - 1) (set out (i - 1) (48 + rest % 10)) ≡ whole
unfolding decimals
digit_stored zero rest out whole l m e = absurd (omega arith)
digit_stored (suc j) rest out whole l m e =
    let q : suc j - 1 ≡ j = omega arith in
    let g = 48 + rest % 10 in
    let here : drop j (set out j g) ≡ g ∷ drop (suc j) out =
    drop-cons (set out j g) j 0 (lt-length-set out j g (omega arith)) ∙ rw (get_or-set_same out j g 0 (omega arith), drop-set-lt (suc j) out j g (omega arith)) refl in
    rw (q, here) (sym (append_snoc (decimals j (rest / 10)) g (drop (suc j) out)) ∙ e)

decimals_length : (k n : ℕ) → length (decimals k n) ≡ k
unfolding decimals
decimals_length zero n = refl
decimals_length (suc k) n = length-append (decimals k (n / 10)) ((48 + n % 10) ∷ []) ∙ rw (decimals_length k (n / 10)) (omega arith)

-- ---- zeros in front of a digit
two_on : (ds : List ℕ) (i : ℕ) → i + 1 < length ds → drop i ds ≡ (ds !! i) ∷ (ds !! (i + 1)) ∷ drop (suc (suc i)) ds
two_on ds i l =
    let n : i + 1 ≡ suc i = omega arith in
    rw n (drop-cons ds i 0 (omega arith) ∙ rw (drop-cons ds (suc i) 0 (omega arith)) refl)

one_on : (ds : List ℕ) (i : ℕ) → i + 1 < length ds → drop (suc i) ds ≡ (ds !! (i + 1)) ∷ drop (suc (suc i)) ds
one_on ds i l =
    let n : i + 1 ≡ suc i = omega arith in
    rw n (drop-cons ds (suc i) 0 (omega arith))

-- a zero that is not the last digit goes
pub zero_goes : (ds whole : List ℕ) (i : ℕ) → i + 1 < length ds → ds !! i ≡ 48 → trimmed (drop i ds) ≡ whole → trimmed (drop (i + 1) ds) ≡ whole
unfolding trimmed
zero_goes ds whole i l z e =
    let n : i + 1 ≡ suc i = omega arith in
    let h : trimmed ((ds !! i) ∷ (ds !! (i + 1)) ∷ drop (suc (suc i)) ds) ≡ whole = rw (two_on ds i l) at e in
    let k : trimmed ((ds !! (i + 1)) ∷ drop (suc (suc i)) ds) ≡ whole = rw (eq-eqb (ds !! i) 48 z) at h in
    rw (n, one_on ds i l) k

-- another digit stays
pub digit_stays : (ds whole : List ℕ) (i : ℕ) → i + 1 < length ds → (ds !! i ≡ 48 → ⊥) → trimmed (drop i ds) ≡ whole → drop i ds ≡ whole
unfolding trimmed
digit_stays ds whole i l z e =
    let h : trimmed ((ds !! i) ∷ (ds !! (i + 1)) ∷ drop (suc (suc i)) ds) ≡ whole = rw (two_on ds i l) at e in
    two_on ds i l ∙ rw (ne_eqb (ds !! i) 48 z) at h

-- the last digit stays
pub last_stays : (ds whole : List ℕ) (i : ℕ) → length ds ≡ i + 1 → trimmed (drop i ds) ≡ whole → drop i ds ≡ whole
unfolding trimmed
last_stays ds whole i l e = single (drop i ds) (length-drop i ds ∙ omega arith) ∙ e
  where
    single : (xs : List ℕ) → length xs ≡ 1 → xs ≡ trimmed xs
    single [] h = absurd (omega arith)
    single (x ∷ []) h = refl
    single (x ∷ y ∷ ys) h = absurd (omega arith)

-- a count has at most 20 digits
trimmed_few : (ds : List ℕ) → length (trimmed ds) ≤ length ds
unfolding trimmed
trimmed_few [] = omega arith
trimmed_few (d ∷ []) = omega arith
trimmed_few (d ∷ e ∷ ds) = by (eqb d 48) (trimmed_few (e ∷ ds))
  where
    by : (b : Bool) → length (trimmed (e ∷ ds)) ≤ length (e ∷ ds) → length (cond b (trimmed (e ∷ ds)) (d ∷ e ∷ ds)) ≤ length (d ∷ e ∷ ds)
    by true h = omega arith
    by false h = omega arith

pub decimal_few : (n : ℕ) → length (decimal_of n) ≤ 20
unfolding decimal_of
decimal_few n = omega (arith, trimmed_few (decimals 20 n), decimals_length 20 n)

-- the digits from the first on
pub decimal_part : (n first : ℕ) (ds : List ℕ) → ds ≡ decimals 20 n → drop first ds ≡ trimmed ds → take (20 - first) (drop first ds) ≡ decimal_of n
unfolding decimal_of
decimal_part n first ds e h =
    let l : length ds ≡ 20 = rw e (decimals_length 20 n) in
    take_all (20 - first) (drop first ds) (omega (arith, length-drop first ds)) ∙ h ∙ rw e

-- nothing is left out yet
pub none_out : (ds : List ℕ) → trimmed (drop 0 ds) ≡ trimmed ds
none_out ds = refl
