-- What `all` over a range and over the front of a slice answers, and what `fill` leaves at the front of one. Assumes nothing.
use mathlib.Core.Path.{◌≡◌, refl, sym, ap, ◌∙◌}
use mathlib.Core.Bool.{Bool, true, false, ◌&&◌}
use mathlib.Core.List.{List, [], ◌∷◌, ◌++◌}
use Prim.Native.Nat.{ℕ, zero, suc, ◌+◌, ◌-◌, ◌<◌, ◌≤◌}
use native.Mathlib.Nat.{not-suc-le-zero}
use native.Mathlib.Omega.{arith}
use lib.ListN.{length, take, drop, length-append, length-drop}
use lib.Ieee.{Float, nan}
use Rattle.std.specs.List.{list_all, range_with_len}
use Rattle.std.proofs.lemmas.List.{get_or_append_left, get_or-append_right, get_or-drop}
use Rattle.base.specs.Sum.{◌!◌, all_to}
use Rattle.base.specs.List.{fill_to}
use Rattle.base.proofs.Sums.{all_cong}
use Rattle.base.proofs.Fills.{fill_is}

-- ---- a test of every index, from the first one on
and_with_true : (b : Bool) → true && b ≡ b && true
and_with_true true = refl
and_with_true false = refl

and_assoc : (a b c : Bool) → (a && b) && c ≡ a && (b && c)
and_assoc true b c = refl
and_assoc false b c = refl

all_front : (t : ℕ → Bool) (n : ℕ) → t 0 && all_to n (λ i. t (suc i)) ≡ all_to (suc n) t
unfolding all_to
all_front t zero = sym (and_with_true (t 0))
all_front t (suc n) = sym (and_assoc (t 0) (all_to n (λ i. t (suc i))) (t (suc n))) ∙ ap (λ (b : Bool). b && t (suc n)) (all_front t n)

-- over n numbers from a on
indices_from : (t : ℕ → Bool) (a n : ℕ) → list_all t (range_with_len a n) ≡ all_to n (λ i. t (a + i))
unfolding all_to
indices_from t a zero = refl
indices_from t a (suc n) =
    let later : all_to n (λ i. t (a + 1 + i)) ≡ all_to n (λ i. t (a + suc i)) = all_cong n _ _ (λ i l. let e : a + 1 + i ≡ a + suc i = omega arith in ap t e) in
    let first : a + 0 ≡ a = omega arith in
    rw (← all_front (λ i. t (a + i)) n, first) (ap (λ (b : Bool). t a && b) (indices_from t (a + 1) n ∙ later))

-- over the indices below n
pub every_index : (t : ℕ → Bool) (n : ℕ) → list_all t (range_with_len 0 n) ≡ all_to n t
every_index t n = indices_from t 0 n ∙ all_cong n _ _ (λ i l. let e : 0 + i ≡ i = omega arith in ap t e)

-- over the first n entries
pub every_entry : (test : Float → Bool) (xs : List Float) (n : ℕ) → n ≤ length xs → list_all test (take n xs) ≡ all_to n (λ i. test (xs ! i))
unfolding all_to
every_entry test xs zero h = refl
every_entry test [] (suc n) h = absurd (not-suc-le-zero h)
every_entry test (x ∷ xs) (suc n) h =
    ap (λ (b : Bool). test x && b) (every_entry test xs n (omega arith)) ∙ all_front (λ i. test ((x ∷ xs) ! i)) n

-- ---- a front p of n entries, the rest of b behind it
pub front_filled : (n : ℕ) (f : ℕ → Float) (b p : List Float) → n ≤ length b → length p ≡ n → ((i : ℕ) → i < n → p ! i ≡ f i) → p ++ drop n b ≡ fill_to n f b
front_filled n f b p h e inside =
    fill_is n f b (p ++ drop n b) h (omega (arith, length-append p (drop n b), length-drop n b))
    (λ i l. get_or_append_left p (drop n b) nan i (omega arith) ∙ inside i l)
    (λ i l. get_or-append_right p (drop n b) n i nan e l ∙ get_or-drop n b (i - n) nan ∙ (let q : n + (i - n) ≡ i = omega arith in ap (λ (j : ℕ). b ! j) q))
