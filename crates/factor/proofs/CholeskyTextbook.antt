-- What `cholesky` leaves satisfies the textbook's equations, which fix the lower triangle; what stands above A's diagonal has no part in it. Assumes nothing.
use Rattle.std.specs.Prelude.{Result, Ok, Err, ⊤}
use Prim.{tt}
use mathlib.Core.Path.{◌≡◌, refl, sym, ap, ◌∙◌}
use mathlib.Core.List.{List}
use mathlib.Core.Bool.{true, false}
use mathlib.Core.Logic.{⊎_elim}
use Prim.Native.Nat.{ℕ, zero, suc, ◌+◌, ◌*◌, ◌<◌, ◌≤◌}
use native.Mathlib.Nat.{not-suc-le-zero, eq-or-lt_of_le, mul-le-mul_right}
use native.Mathlib.Omega.{arith}
use lib.ListN.{length}
use lib.Ieee.{Float}
use Rattle.base.specs.Sum.{◌!◌}
use Rattle.base.specs.List.{at}
use Rattle.base.specs.InPlace.{fill_by}
use Rattle.base.proofs.Sums.{sum_cong}
use Rattle.base.proofs.Fills.{row_fits}
use Rattle.root.specs.Sqrt.{sqrt_of}
use Rattle.factor.specs.Triangle.{cell, rows_dot, SameBelow, positive, reach}
use Rattle.factor.specs.Factor.{cholesky_pivot, cholesky_below, cholesky_rule, cholesky_of, cholesky_passes, cholesky_end, CholeskyLeaves}
use Rattle.factor.specs.Textbook.{CholeskyTextbook, KeptAbove}
use Rattle.factor.proofs.PivotTests.{first_done, first_bad_lem, first_cong, FirstBad}
use Rattle.factor.proofs.RowByRow.{inside, by_rest, by_kept, by_entry}
use Rattle.factor.proofs.CholeskyRows.{cholesky_below_lem, cholesky_on, cholesky_above}

-- ---- the rule looks at the lower triangle before its place only
module _ (s i j : ℕ) (x y : ℕ → Float) (l : j ≤ i) (same : (a c : ℕ) → c ≤ a → a * s + c < i * s + j → cell s x a c ≡ cell s y a c) where
  dot_same : rows_dot s x i j j ≡ rows_dot s y i j j
  unfolding rows_dot
  dot_same =
      sum_cong j _ _
      (λ k m.
      let up : j * s ≤ i * s = mul-le-mul_right s l in
      rw (same i k (omega arith) (omega arith), same j k (omega arith) (omega arith)) refl)

  cholesky_below_same : (a b : Float) → i < s → j < i → a ≡ b → cholesky_below s i j x a ≡ cholesky_below s i j y b
  unfolding cholesky_below
  cholesky_below_same a b n m e = rw (e, dot_same, same j j (omega arith) (omega (arith, row_fits j i s m))) refl

cholesky_pivot_same : (s i : ℕ) (x y : ℕ → Float) (a b : Float) → ((p c : ℕ) → c ≤ p → p * s + c < i * s + i → cell s x p c ≡ cell s y p c) → a ≡ b → cholesky_pivot s i x a ≡ cholesky_pivot s i y b
unfolding cholesky_pivot
cholesky_pivot_same s i x y a b same e = rw (e, dot_same s i i x y (omega arith) same) refl

-- ---- the textbook's equations
module _ (s : ℕ) (A : List Float) (h : s * s ≤ length A) where
  -- an entry is the rule's value at the time it was written, from the matrix entry
  written : (i j : ℕ) → i < s → j < s → at s (cholesky_of s A) i j ≡ cholesky_rule s (i * s + j) (λ k. fill_by (cholesky_rule s) (i * s + j) A ! k) (at s A i j)
  unfolding cholesky_of
  written i j l m =
      by_entry (cholesky_rule s) (s * s) A (i * s + j) (omega (arith, row_fits i s s l)) h
      ∙ ap (cholesky_rule s (i * s + j) (λ k. fill_by (cholesky_rule s) (i * s + j) A ! k)) (by_rest (cholesky_rule s) (i * s + j) A (i * s + j) (omega arith))

  earlier : (i j : ℕ) → i < s → j < s → (a c : ℕ) → a * s + c < i * s + j → fill_by (cholesky_rule s) (i * s + j) A ! (a * s + c) ≡ cholesky_of s A ! (a * s + c)
  unfolding cholesky_of
  earlier i j l m a c q = sym (by_kept (cholesky_rule s) (i * s + j) (s * s) A (a * s + c) q (omega (arith, row_fits i s s l)))

  root_of_lem : (i : ℕ) → i < s → at s (cholesky_of s A) i i ≡ sqrt_of (cholesky_pivot s i (λ k. cholesky_of s A ! k) (at s A i i))
  root_of_lem i l = written i i l l ∙ cholesky_on s i _ _ l ∙ ap sqrt_of (cholesky_pivot_same s i _ _ _ _ (λ a c m q. earlier i i l l a c q) refl)

  below_of : (i j : ℕ) → i < s → j < i → at s (cholesky_of s A) i j ≡ cholesky_below s i j (λ k. cholesky_of s A ! k) (at s A i j)
  below_of i j l m =
      let m' : j < s = omega arith in
      written i j l m' ∙ cholesky_below_lem s i j _ _ l m ∙ cholesky_below_same s i j _ _ (omega arith) (λ a c n q. earlier i j l m' a c q) _ _ l m refl

  pub cholesky_of_textbook : CholeskyTextbook s A (cholesky_of s A)
  unfolding cholesky_pivot cholesky_below rows_dot
  cholesky_of_textbook = record { root = root_of_lem; below = below_of }

  pub cholesky_of_keeps : KeptAbove s A (cholesky_of s A)
  unfolding cholesky_of
  cholesky_of_keeps =
      record {
        above = λ i j m l. written i j (omega arith) l ∙ cholesky_above s i j m l _ _;
        past = λ t l. by_rest (cholesky_rule s) (s * s) A t l;
      }

-- ---- what `cholesky` leaves
pub cholesky_textbook : (s : ℕ) (A X : List Float) → s * s ≤ length A → CholeskyLeaves s A (Ok tt) X → CholeskyTextbook s A X × KeptAbove s A X
unfolding reach cholesky_of
cholesky_textbook s A X h d = rw d.out (cholesky_of_textbook s A h, cholesky_of_keeps s A h)

-- every pivot is above zero and finite
pub cholesky_pivots : (s : ℕ) (A X : List Float) → CholeskyLeaves s A (Ok tt) X → (i : ℕ) → i < s → positive (cholesky_pivot s i (λ k. X ! k) (at s A i i)) ≡ true
unfolding reach cholesky_of cholesky_end cholesky_passes
cholesky_pivots s A X d = rw d.out (first_done (cholesky_passes s A (cholesky_of s A)) s d.end)

-- pivot i, from the entries of its row, is not; those before it are
pub cholesky_bad_pivot : (s : ℕ) (A X : List Float) (i : ℕ) → s * s ≤ length A → CholeskyLeaves s A (Err i) X
    → (i < s) × (positive (cholesky_pivot s i (λ k. X ! k) (at s A i i)) ≡ false) × ((j : ℕ) → j < i → positive (cholesky_pivot s j (λ k. X ! k) (at s A j j)) ≡ true)
unfolding reach cholesky_of cholesky_end cholesky_passes
cholesky_bad_pivot s A X i h d =
    let f : FirstBad (cholesky_passes s A (cholesky_of s A)) s i = first_bad_lem (cholesky_passes s A (cholesky_of s A)) s i d.end in
    let l : i < s = f.below in
    rw d.out (
      l,
      ap positive (cholesky_pivot_same s i _ _ _ _ (λ a c p q. earlier s A h i i l l a c q) refl) ∙ f.fails,
      λ j m. ap positive (cholesky_pivot_same s j _ _ _ _ (λ a c p q. earlier s A h i i l l a c (omega (arith, row_fits j i s m))) refl) ∙ f.before j m,
    )

-- one answer and one buffer
pub cholesky_unique : (s : ℕ) (A X Y : List Float) (q r : Result ⊤ ℕ) → CholeskyLeaves s A q X → CholeskyLeaves s A r Y → (q ≡ r) × (X ≡ Y)
cholesky_unique s A X Y q r d e =
    let same : q ≡ r = d.end ∙ sym e.end in
    (same, d.out ∙ ap (λ (z : Result ⊤ ℕ). fill_by (cholesky_rule s) (reach s z) A) same ∙ sym e.out)

-- ---- the equations fix the lower triangle, from the lower triangle of the matrix
pub cholesky_fixes : (s : ℕ) (A B F G : List Float) → SameBelow s A B → CholeskyTextbook s A F → CholeskyTextbook s B G → SameBelow s F G
unfolding cholesky_pivot cholesky_below rows_dot
cholesky_fixes s A B F G ab f g i j l m = go (suc (i * s + j)) i j l m (omega arith)
  where
    go : (n i j : ℕ) → i < s → j ≤ i → i * s + j < n → at s F i j ≡ at s G i j
    go zero i j l m q = absurd (not-suc-le-zero q)
    go (suc n) i j l m q =
        ⊎_elim
        (λ (e : j ≡ i). rw e
        (f.root i l ∙ ap sqrt_of (cholesky_pivot_same s i (λ k. F ! k) (λ k. G ! k) _ _ (λ a c p r. go n a c (inside s a c i i p l (omega arith) r) p (omega arith)) (ab i i l (omega arith))) ∙ sym (g.root i l)))
        (λ (p : j < i).
        f.below i j l p ∙ cholesky_below_same s i j (λ k. F ! k) (λ k. G ! k) m (λ a c p' r. go n a c (inside s a c i j p' l m r) p' (omega arith)) _ _ l p (ab i j l m) ∙ sym (g.below i j l p))
        (eq-or-lt_of_le m)

pub cholesky_lower : (s : ℕ) (A B : List Float) → s * s ≤ length A → s * s ≤ length B → SameBelow s A B → SameBelow s (cholesky_of s A) (cholesky_of s B)
cholesky_lower s A B h k ab = cholesky_fixes s A B (cholesky_of s A) (cholesky_of s B) ab (cholesky_of_textbook s A h) (cholesky_of_textbook s B k)

pub cholesky_end_same : (s : ℕ) (A B F G : List Float) → SameBelow s A B → SameBelow s F G → cholesky_end s A F ≡ cholesky_end s B G
unfolding cholesky_end cholesky_passes
cholesky_end_same s A B F G ab h =
    first_cong (cholesky_passes s A F) (cholesky_passes s B G) s
    (λ i l. ap positive (cholesky_pivot_same s i (λ k. F ! k) (λ k. G ! k) _ _ (λ a c p r. h a c (inside s a c i i p l (omega arith) r) p) (ab i i l (omega arith))))
