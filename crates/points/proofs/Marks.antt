-- Marks, as the loops set them: entry after entry of a row of Z', row after row of a group. Assumes nothing.
use mathlib.Core.Path.{◌≡◌, refl, sym, ap, ◌∙◌}
use mathlib.Core.List.{List}
use mathlib.Core.Logic.{⊎_elim}
use mathlib.Core.Bool.{Bool, true, false, ◌||◌, cond}
use Prim.Native.Nat.{ℕ, ◌+◌, ◌-◌, ◌<◌, ◌≤◌}
use native.Mathlib.Nat.{sub_self}
use native.Mathlib.Numerals.{add-one}
use native.Mathlib.Omega.{arith}
use borrow.Author.Tests.{eqb-true, eqb-false}
use lib.Dec.{eqb}
use lib.ListN.{length, set, length-set, replicate, length-replicate}
use borrow.Rule.Slice.PartMut.{put_mid, mid_of, mid_len}
use Rattle.std.proofs.lemmas.List.{get_or-replicate}
use lib.Seq.{get_or-set_same, get_or-set_other}
use lib.Ieee.{Float, nan}
use Rattle.base.specs.Number.{zero_f, one_f}
use Rattle.base.specs.Sum.{◌!◌, ◌!!◌, any_to}
use Rattle.base.specs.List.{build, zero_at}
use Rattle.base.specs.Rows.{row, Only, Wrote}
use Rattle.base.specs.Sparse.{Sparse, stored_in, stored}
use Rattle.base.proofs.Fills.{build_at, build_is}
use Rattle.base.proofs.Rows.{row_at, row_build, only_trans, part_wrote}
use Rattle.agq_rule.specs.Term.{belongs}
use Rattle.points.specs.Gain.{mark_at, MarkedIn}

-- ---- a part that came back filled with x
pub part_set : (b n e : ℕ) (x : Float) (w ys : List Float) → e ≡ b + n → e ≤ length w → ys ≡ replicate (length (mid_of b (e - b) w)) x → Wrote b n (build (λ i. x) n) w (put_mid b (e - b) w ys)
part_set b n e x w ys eb h y =
    let k : length (mid_of b (e - b) w) ≡ n = mid_len b e w h ∙ omega arith in
    let z : ys ≡ replicate n x = y ∙ ap (λ (m : ℕ). replicate m x) k in
    let v : Wrote b n ys w (put_mid b (e - b) w ys) = part_wrote b n e w ys eb h (ap length z ∙ length-replicate n x) in
    record { row' = v.row' ∙ z ∙ build_is (λ i. x) n (replicate n x) (length-replicate n x) (λ i l. get_or-replicate n i x nan l); only = v.only }

-- ---- a row of Z', as far as its entry k
abbrev pub MarkedTo : List ℕ → ℕ → ℕ → ℕ → ℕ → List Float → List Float → Type 0
MarkedTo columns s k b n v w = (i : ℕ) → i < n → w ! (b + i) ≡ cond (stored_in columns s k i) one_f (v ! (b + i))

pub marked_none : (columns : List ℕ) (s b n : ℕ) (v : List Float) → MarkedTo columns s s b n v v
unfolding stored_in any_to
marked_none columns s b n v i l = rw (sub_self s) refl

one_more : (columns : List ℕ) (s k i : ℕ) → s ≤ k → stored_in columns s (k + 1) i ≡ stored_in columns s k i || eqb (columns !! k) i
unfolding stored_in any_to
one_more columns s k i l =
    let q : k + 1 - s ≡ (k - s) + 1 = omega arith in
    let p : s + (k - s) ≡ k = omega arith in
    rw (q, add-one) (ap (λ (j : ℕ). any_to (k - s) (λ t. eqb (columns !! (s + t)) i) || eqb (columns !! j) i) p)

pub marked_step : (columns : List ℕ) (s k b n : ℕ) (v w : List Float) → s ≤ k → columns !! k < n → b + n ≤ length w → MarkedTo columns s k b n v w → MarkedTo columns s (k + 1) b n v (set w (b + columns !! k) one_f)
marked_step columns s k b n v w l c h m i g = rw (one_more columns s k i l) (by_test (eqb (columns !! k) i) refl)
  where
    by_test : (t : Bool) → eqb (columns !! k) i ≡ t → set w (b + columns !! k) one_f ! (b + i) ≡ cond (stored_in columns s k i || t) one_f (v ! (b + i))
    by_test true e =
        let q : columns !! k ≡ i = eqb-true (columns !! k) i e in
        rw q (get_or-set_same w (b + i) one_f nan (omega arith) ∙ sym (or_true (stored_in columns s k i)))
      where
        or_true : (x : Bool) → cond (x || true) one_f (v ! (b + i)) ≡ one_f
        or_true true = refl
        or_true false = refl
    by_test false e =
        get_or-set_other w (b + columns !! k) (b + i) one_f nan (λ q. eqb-false (columns !! k) i e (omega arith)) ∙ m i g ∙ or_false (stored_in columns s k i)
      where
        or_false : (x : Bool) → cond x one_f (v ! (b + i)) ≡ cond (x || false) one_f (v ! (b + i))
        or_false true = refl
        or_false false = refl

-- ---- a place of a row that is set
pub only_set : (b n c : ℕ) (x : Float) (v w : List Float) → c < n → Only b n v w → Only b n v (set w (b + c) x)
only_set b n c x v w l o =
    record {
      len = simp length-set o.len;
      kept = λ j p. get_or-set_other w (b + c) j x nan (λ q. ⊎_elim (λ (a : j < b). omega arith) (λ (a : b + n ≤ j). omega arith) p) ∙ o.kept j p;
    }

-- the whole row of Z'
pub marked_end : (Z : Sparse) (a b n k : ℕ) (v w : List Float) → k ≤ Z.starts !! (a + 1) → Z.starts !! (a + 1) ≤ k → MarkedTo Z.columns (Z.starts !! a) k b n v w → Only b n v w → MarkedIn Z a b n v w
unfolding stored
marked_end Z a b n k v w l m f o = let q : k ≡ Z.starts !! (a + 1) = omega arith in record { here = λ i g. rw (← q) (f i g); only = o }

-- ---- the rows of a group: before row j of k the marks are those of the first j
pub group_none : (Z : Sparse) (s b n : ℕ) (v : List Float) → row b n v ≡ build zero_at n → b + n ≤ length v → (i : ℕ) → i < n → v ! (b + i) ≡ mark_at Z s 0 i
unfolding mark_at belongs any_to
group_none Z s b n v z h i l = sym (row_at b n v h i l) ∙ ap (λ (y : List Float). y ! i) z ∙ build_at zero_at n i l

pub group_step : (Z : Sparse) (s j b n : ℕ) (w x : List Float) → ((i : ℕ) → i < n → w ! (b + i) ≡ mark_at Z s j i) → MarkedIn Z (s + j) b n w x → (i : ℕ) → i < n → x ! (b + i) ≡ mark_at Z s (j + 1) i
unfolding mark_at belongs any_to
group_step Z s j b n w x g m i l = m.here i l ∙ rw (g i l, add-one j) (both (any_to j (λ r. stored Z (s + r) i)) (stored Z (s + j) i))
  where
    both : (p q : Bool) → cond q one_f (cond p one_f zero_f) ≡ cond (p || q) one_f zero_f
    both true true = refl
    both true false = refl
    both false true = refl
    both false false = refl

pub group_end : (Z : Sparse) (s k j b n : ℕ) (v w x : List Float) → j ≤ k → k ≤ j → b + n ≤ length v → Only b n v w → Only b n w x → ((i : ℕ) → i < n → x ! (b + i) ≡ mark_at Z s j i) → Wrote b n (build (mark_at Z s k) n) v x
group_end Z s k j b n v w x m g h o p f =
    let q : j ≡ k = omega arith in
    rw (← q) (record { row' = row_build b n x (omega (arith, o.len, p.len)) (mark_at Z s j) f; only = only_trans o p })
