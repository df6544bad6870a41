-- What `ldl` leaves satisfies the textbook's equations, which fix the lower triangle; what stood in the buffer, and above A's diagonal, has no part in it. Assumes nothing.
use Rattle.std.specs.Prelude.{Result, Ok, Err, ⊤}
use Prim.{tt}
use mathlib.Core.Path.{◌≡◌, refl, sym, ap, ◌∙◌}
use mathlib.Core.List.{List}
use mathlib.Core.Bool.{true, false}
use mathlib.Core.Logic.{⊎_elim}
use Prim.Native.Nat.{ℕ, zero, suc, ◌+◌, ◌*◌, ◌<◌, ◌≤◌}
use native.Mathlib.Nat.{not-suc-le-zero, eq-or-lt_of_le, mul-le-mul_right}
use native.Mathlib.Omega.{arith}
use lib.ListN.{length}
use lib.Ieee.{Float}
use Rattle.base.specs.Sum.{◌!◌}
use Rattle.base.specs.List.{at}
use Rattle.base.specs.InPlace.{fill_by}
use Rattle.base.specs.Rows.{Only}
use Rattle.base.proofs.Sums.{sum_cong}
use Rattle.base.proofs.Fills.{row_fits}
use Rattle.base.proofs.InPlace.{length_by}
use Rattle.factor.specs.Triangle.{cell, SameBelow, usable, reach}
use Rattle.factor.specs.Factor.{ldl_term, ldl_sum, ldl_pivot, ldl_below, ldl_rule, ldl_of, ldl_passes, ldl_end, LdlLeaves}
use Rattle.factor.specs.Textbook.{LdlTextbook, KeptAbove}
use Rattle.factor.proofs.PivotTests.{first_done, first_bad_lem, first_cong, FirstBad}
use Rattle.factor.proofs.RowByRow.{inside, by_rest, by_kept, by_entry}
use Rattle.factor.proofs.LdlRows.{ldl_below_lem, ldl_on, ldl_above}

-- ---- the rule looks at the lower triangle before its place only
module _ (s i j : ℕ) (x y : ℕ → Float) (l : j ≤ i) (same : (a c : ℕ) → c ≤ a → a * s + c < i * s + j → cell s x a c ≡ cell s y a c) where
  ldl_sum_same : ldl_sum s x i j ≡ ldl_sum s y i j
  unfolding ldl_sum ldl_term
  ldl_sum_same =
      sum_cong j _ _
      (λ k m.
      let up : j * s ≤ i * s = mul-le-mul_right s l in
      let row : k * s ≤ j * s = mul-le-mul_right s (omega arith) in
      rw (same i k (omega arith) (omega arith), same j k (omega arith) (omega arith), same k k (omega arith) (omega arith)) refl)

  ldl_below_same : (a b : Float) → i < s → j < i → a ≡ b → ldl_below s i j x a ≡ ldl_below s i j y b
  unfolding ldl_below
  ldl_below_same a b n m e = rw (e, ldl_sum_same, same j j (omega arith) (omega (arith, row_fits j i s m))) refl

ldl_pivot_same : (s i : ℕ) (x y : ℕ → Float) (a b : Float) → ((p c : ℕ) → c ≤ p → p * s + c < i * s + i → cell s x p c ≡ cell s y p c) → a ≡ b → ldl_pivot s i x a ≡ ldl_pivot s i y b
unfolding ldl_pivot
ldl_pivot_same s i x y a b same e = rw (e, ldl_sum_same s i i x y (omega arith) same) refl

-- ---- the textbook's equations
module _ (s : ℕ) (A b : List Float) (h : s * s ≤ length b) where
  written : (i j : ℕ) → i < s → j < s → at s (ldl_of s A b) i j ≡ ldl_rule s A (i * s + j) (λ k. fill_by (ldl_rule s A) (i * s + j) b ! k) (fill_by (ldl_rule s A) (i * s + j) b ! (i * s + j))
  unfolding ldl_of
  written i j l m = by_entry (ldl_rule s A) (s * s) b (i * s + j) (omega (arith, row_fits i s s l)) h

  earlier : (i j : ℕ) → i < s → j < s → (a c : ℕ) → a * s + c < i * s + j → fill_by (ldl_rule s A) (i * s + j) b ! (a * s + c) ≡ ldl_of s A b ! (a * s + c)
  unfolding ldl_of
  earlier i j l m a c q = sym (by_kept (ldl_rule s A) (i * s + j) (s * s) b (a * s + c) q (omega (arith, row_fits i s s l)))

  pivot_of : (i : ℕ) → i < s → at s (ldl_of s A b) i i ≡ ldl_pivot s i (λ k. ldl_of s A b ! k) (at s A i i)
  pivot_of i l = written i i l l ∙ ldl_on s A i _ _ l ∙ ldl_pivot_same s i _ _ _ _ (λ a c m q. earlier i i l l a c q) refl

  below_of : (i j : ℕ) → i < s → j < i → at s (ldl_of s A b) i j ≡ ldl_below s i j (λ k. ldl_of s A b ! k) (at s A i j)
  below_of i j l m =
      let m' : j < s = omega arith in
      written i j l m' ∙ ldl_below_lem s A i j _ _ l m ∙ ldl_below_same s i j _ _ (omega arith) (λ a c n q. earlier i j l m' a c q) _ _ l m refl

  pub ldl_of_textbook : LdlTextbook s A (ldl_of s A b)
  unfolding ldl_pivot ldl_below ldl_sum ldl_term
  ldl_of_textbook = record { pivot = pivot_of; below = below_of }

  pub ldl_of_keeps : KeptAbove s b (ldl_of s A b)
  unfolding ldl_of
  ldl_of_keeps =
      record {
        above = λ i j m l. written i j (omega arith) l ∙ ldl_above s A i j m l _ _ ∙ by_rest (ldl_rule s A) (i * s + j) b (i * s + j) (omega arith);
        past = λ t l. by_rest (ldl_rule s A) (s * s) b t l;
      }

-- ---- what `ldl` leaves
pub ldl_textbook : (s : ℕ) (A b X : List Float) → s * s ≤ length b → LdlLeaves s A b (Ok tt) X → LdlTextbook s A X × KeptAbove s b X
unfolding reach ldl_of
ldl_textbook s A b X h d = rw d.out (ldl_of_textbook s A b h, ldl_of_keeps s A b h)

-- every pivot can be divided by
pub ldl_pivots : (s : ℕ) (A b X : List Float) → LdlLeaves s A b (Ok tt) X → (i : ℕ) → i < s → usable (at s X i i) ≡ true
unfolding reach ldl_of ldl_end ldl_passes
ldl_pivots s A b X d = rw d.out (first_done (ldl_passes s (ldl_of s A b)) s d.end)

-- pivot i, from the entries of its row, cannot; those before it can
pub ldl_bad_pivot : (s : ℕ) (A b X : List Float) (i : ℕ) → s * s ≤ length b → LdlLeaves s A b (Err i) X
    → (i < s) × (usable (ldl_pivot s i (λ k. X ! k) (at s A i i)) ≡ false) × ((j : ℕ) → j < i → usable (at s X j j) ≡ true)
unfolding reach ldl_of ldl_end ldl_passes
ldl_bad_pivot s A b X i h d =
    let f : FirstBad (ldl_passes s (ldl_of s A b)) s i = first_bad_lem (ldl_passes s (ldl_of s A b)) s i d.end in
    let l : i < s = f.below in
    rw d.out (
      l,
      ap usable (sym (written s A b h i i l l ∙ ldl_on s A i _ _ l)) ∙ f.fails,
      λ j m. ap usable (earlier s A b h i i l l j j (omega (arith, row_fits j i s m))) ∙ f.before j m,
    )

-- one answer and one buffer
pub ldl_unique : (s : ℕ) (A b X Y : List Float) (q r : Result ⊤ ℕ) → LdlLeaves s A b q X → LdlLeaves s A b r Y → (q ≡ r) × (X ≡ Y)
ldl_unique s A b X Y q r d e =
    let same : q ≡ r = d.end ∙ sym e.end in
    (same, d.out ∙ ap (λ (z : Result ⊤ ℕ). fill_by (ldl_rule s A) (reach s z) b) same ∙ sym e.out)

-- ---- the equations fix the lower triangle, from the lower triangle of the matrix
pub ldl_fixes : (s : ℕ) (A B F G : List Float) → SameBelow s A B → LdlTextbook s A F → LdlTextbook s B G → SameBelow s F G
unfolding ldl_pivot ldl_below ldl_sum ldl_term
ldl_fixes s A B F G ab f g i j l m = go (suc (i * s + j)) i j l m (omega arith)
  where
    go : (n i j : ℕ) → i < s → j ≤ i → i * s + j < n → at s F i j ≡ at s G i j
    go zero i j l m q = absurd (not-suc-le-zero q)
    go (suc n) i j l m q =
        ⊎_elim
        (λ (e : j ≡ i). rw e
        (f.pivot i l ∙ ldl_pivot_same s i (λ k. F ! k) (λ k. G ! k) _ _ (λ a c p r. go n a c (inside s a c i i p l (omega arith) r) p (omega arith)) (ab i i l (omega arith)) ∙ sym (g.pivot i l)))
        (λ (p : j < i).
        f.below i j l p ∙ ldl_below_same s i j (λ k. F ! k) (λ k. G ! k) m (λ a c p' r. go n a c (inside s a c i j p' l m r) p' (omega arith)) _ _ l p (ab i j l m) ∙ sym (g.below i j l p))
        (eq-or-lt_of_le m)

-- so neither what the buffer held nor what stands above A's diagonal has a part in it
pub ldl_lower : (s : ℕ) (A B b c : List Float) → s * s ≤ length b → s * s ≤ length c → SameBelow s A B → SameBelow s (ldl_of s A b) (ldl_of s B c)
ldl_lower s A B b c h k ab = ldl_fixes s A B (ldl_of s A b) (ldl_of s B c) ab (ldl_of_textbook s A b h) (ldl_of_textbook s B c k)

-- nor in the end
pub ldl_end_same : (s : ℕ) (F G : List Float) → SameBelow s F G → ldl_end s F ≡ ldl_end s G
unfolding ldl_end ldl_passes
ldl_end_same s F G h = first_cong (ldl_passes s F) (ldl_passes s G) s (λ k l. ap usable (h k k l (omega arith)))

-- a factorisation writes within its square
reach_fits : (s : ℕ) (F : List Float) (r : Result ⊤ ℕ) → r ≡ ldl_end s F → reach s r ≤ s * s
unfolding reach ldl_end
reach_fits s F (Ok tt) e = omega arith
reach_fits s F (Err i) e =
    let f : FirstBad (ldl_passes s F) s i = first_bad_lem (ldl_passes s F) s i e in
    let l : i < s = f.below in
    omega (arith, row_fits i s s l)

-- and leaves the rest of its slice
pub ldl_only : (s : ℕ) (A b X : List Float) (r : Result ⊤ ℕ) → LdlLeaves s A b r X → Only 0 (s * s) b X
ldl_only s A b X r d =
    let h : reach s r ≤ s * s = reach_fits s (ldl_of s A b) r d.end in
    rw d.out
    (record {
      len = length_by (ldl_rule s A) (reach s r) b;
      kept = λ j o. by_rest (ldl_rule s A) (reach s r) b j (⊎_elim (λ a. absurd (omega arith)) (λ a. omega arith) o);
    })
