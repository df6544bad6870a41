-- A row's mark is not above its number, so rows on the two sides of a least mark share no observation, and their entry of Z'WZ is +0.0. Assumes nothing.
use mathlib.Core.Path.{◌≡◌, refl, sym, ◌∙◌}
use mathlib.Core.List.{List}
use mathlib.Core.Logic.{⊎_elim}
use mathlib.Core.Bool.{Bool, true, false, ◌&&◌, and-false}
use Prim.Native.Nat.{ℕ, zero, suc, ◌+◌, ◌-◌, ◌<◌, ◌≤◌, min}
use Rattle.std.specs.Prelude.{Result, Ok, Err}
use Rattle.std.specs.Result.{OkIff, result_unwrap_or}
use native.Mathlib.Nat.{sub_self, le_refl, mod-lt, not-suc-le-zero}
use native.Mathlib.Numerals.{add-one}
use native.Mathlib.Omega.{arith}
use borrow.Author.Tests.{lt-ltb, le-ltb}
use lib.ListN.{length, set, length-set}
use lib.Seq.{get_or-set_same, get_or-set_other}
use lib.Ieee.{Float}
use Rattle.base.specs.Number.{zero_f}
use Rattle.base.specs.Sum.{◌!!◌}
use Rattle.base.specs.Sparse.{Rows, Sparse, stored, stored_in, both_sum}
use Rattle.base.proofs.Doubles.{ff}
use Rattle.base.proofs.Sums.{lt_or_ge, last_or_before, where_none, where_gap}
use Rattle.base.proofs.SparseRows.{stored_none}
use Rattle.stored.specs.Stored.{weighted_term, ztwz_at}
use Rattle.stored.specs.Marks.{lesser, place_of, least_mark, lowered, Disjoint}
use Rattle.stored.proofs.Symmetry.{same_or_not}

-- ---- the lesser of two
pub lesser_second : (a b : ℕ) → b < a → b ≡ lesser a b
unfolding lesser
lesser_second a b l = rw (lt-ltb b a l) refl

pub lesser_first : (a b : ℕ) → a ≤ b → a ≡ lesser a b
unfolding lesser
lesser_first a b l = rw (le-ltb b a l) refl

pub lesser_below : (a b : ℕ) → (lesser a b ≤ a) × (lesser a b ≤ b)
lesser_below a b =
    ⊎_elim
    (λ (l : b < a). let e : b ≡ lesser a b = lesser_second a b l in (omega arith, omega arith))
    (λ (l : a ≤ b). let e : a ≡ lesser a b = lesser_first a b l in (omega arith, omega arith))
    (lt_or_ge b a)

pub min_lesser : (a b : ℕ) → min a b ≡ lesser a b
min_lesser a b =
    ⊎_elim
    (λ (l : b < a). let e : min a b ≡ b = omega arith in e ∙ lesser_second a b l)
    (λ (l : a ≤ b). let e : min a b ≡ a = omega arith in e ∙ lesser_first a b l)
    (lt_or_ge b a)

-- a number that is a byte, or else 255
pub byte_lesser : {E : Type 0} → (r : Result ℕ E) (x : ℕ) → OkIff r (x < 256) x → result_unwrap_or r 255 ≡ lesser 255 x
byte_lesser (Ok y) x h = let e : y ≡ min 255 x = omega (arith, h.0, h.1) in e ∙ min_lesser 255 x
byte_lesser (Err e) x h = let e' : 255 ≡ min 255 x = omega (arith, h) in e' ∙ min_lesser 255 x

-- ---- the least mark of a row
pub least_none : (columns marks : List ℕ) (b : ℕ) → 255 ≡ least_mark columns b (b - b) marks
unfolding least_mark
least_none columns marks b = rw (sub_self b) refl

pub least_step : (columns marks : List ℕ) (b k x : ℕ) → b ≤ k → x ≡ least_mark columns b (k - b) marks → lesser x (marks !! place_of (columns !! k)) ≡ least_mark columns b (k + 1 - b) marks
unfolding least_mark
least_step columns marks b k x l e =
    let q : k + 1 - b ≡ suc (k - b) = omega arith in
    let r : b + (k - b) ≡ k = omega arith in
    rw (q, e, r) refl

least_under : (columns marks : List ℕ) (b t k : ℕ) → k < t → least_mark columns b t marks ≤ marks !! place_of (columns !! (b + k))
unfolding least_mark
least_under columns marks b zero k l = absurd (not-suc-le-zero l)
least_under columns marks b (suc t) k l =
    let here = lesser_below (least_mark columns b t marks) (marks !! place_of (columns !! (b + t))) in
    ⊎_elim
    (λ (e : k ≡ t). rw e here.1)
    (λ (m : k < t). let below : least_mark columns b t marks ≤ marks !! place_of (columns !! (b + k)) = least_under columns marks b t k m in omega (arith, here.0, below))
    (last_or_before l)

-- ---- the marks of a row, lowered
module _ (columns : List ℕ) (b x : ℕ) where
  pub lowered_none : (v : List ℕ) → v ≡ lowered columns b x (b - b) v
  unfolding lowered
  lowered_none v = rw (sub_self b) refl

  pub lowered_step : (k : ℕ) (v w : List ℕ) → b ≤ k → w ≡ lowered columns b x (k - b) v → set w (place_of (columns !! k)) (lesser (w !! place_of (columns !! k)) x) ≡ lowered columns b x (k + 1 - b) v
  unfolding lowered
  lowered_step k v w l e =
      let q : k + 1 - b ≡ suc (k - b) = omega arith in
      let r : b + (k - b) ≡ k = omega arith in
      rw (q, e, r) refl

  pub lowered_length : (t : ℕ) (v : List ℕ) → length (lowered columns b x t v) ≡ length v
  unfolding lowered
  lowered_length zero v = refl
  lowered_length (suc t) v = length-set (lowered columns b x t v) (place_of (columns !! (b + t))) _ ∙ lowered_length t v

-- one mark lowered: no mark rises, and it is at most x
lower_other : (v : List ℕ) (p x i : ℕ) → p < length v → set v p (lesser (v !! p) x) !! i ≤ v !! i
lower_other v p x i l =
    ⊎_elim
    (λ (e : i ≡ p). rw (e, get_or-set_same v p (lesser (v !! p) x) 0 l) (lesser_below (v !! p) x).0)
    (λ (d : i ≡ p → ⊥). rw (get_or-set_other v p i (lesser (v !! p) x) 0 d) (le_refl _))
    (same_or_not i p)

lower_here : (v : List ℕ) (p x : ℕ) → p < length v → set v p (lesser (v !! p) x) !! p ≤ x
lower_here v p x l = rw (get_or-set_same v p (lesser (v !! p) x) 0 l) (lesser_below (v !! p) x).1

module _ (columns : List ℕ) (b x : ℕ) (v : List ℕ) (h : length v ≡ 512) where
  inside : (t : ℕ) → place_of (columns !! (b + t)) < length (lowered columns b x t v)
  inside t = let m : place_of (columns !! (b + t)) < 512 = mod-lt (columns !! (b + t)) (omega arith) in omega (arith, m, h, lowered_length columns b x t v)

  lowered_under : (t i : ℕ) → lowered columns b x t v !! i ≤ v !! i
  unfolding lowered
  lowered_under zero i = le_refl _
  lowered_under (suc t) i = omega (arith, lower_other (lowered columns b x t v) (place_of (columns !! (b + t))) x i (inside t), lowered_under t i)

  lowered_entry : (t k : ℕ) → k < t → lowered columns b x t v !! place_of (columns !! (b + k)) ≤ x
  unfolding lowered
  lowered_entry zero k l = absurd (not-suc-le-zero l)
  lowered_entry (suc t) k l =
      ⊎_elim
      (λ (e : k ≡ t). rw e (lower_here (lowered columns b x t v) (place_of (columns !! (b + t))) x (inside t)))
      (λ (m : k < t). omega (arith, lower_other (lowered columns b x t v) (place_of (columns !! (b + t))) x (place_of (columns !! (b + k))) (inside t), lowered_entry t k m))
      (last_or_before l)

-- ---- row after row: g numbers the rows, and no observation of a row before a has a mark above the row's number
pub record Marked (Z : Sparse) (g : ℕ → ℕ) (a : ℕ) (marks : List ℕ) : Type 0 where
  pub len : length marks ≡ 512
  pub under : (b : ℕ) → b < a → (k : ℕ) → Z.starts !! b ≤ k → k < Z.starts !! (b + 1) → marks !! place_of (Z.columns !! k) ≤ g b

-- a row's own number, and that of the rows behind it
abbrev pub itself : ℕ → ℕ
itself b = b

abbrev pub others : ℕ → ℕ → ℕ
others rows b = rows - 1 - b

pub marked_none : (Z : Sparse) (g : ℕ → ℕ) (marks : List ℕ) → length marks ≡ 512 → Marked Z g 0 marks
marked_none Z g marks h = record { len = h; under = λ b l. absurd (not-suc-le-zero l) }

pub marked_step : (Z : Sparse) (g : ℕ → ℕ) (a x : ℕ) (marks X : List ℕ) → Marked Z g a marks → x ≤ g a → X ≡ lowered Z.columns (Z.starts !! a) x (Z.starts !! (a + 1) - Z.starts !! a) marks → Marked Z g (a + 1) X
marked_step Z g a x marks X p l e =
    rw e
    (record {
      len = lowered_length Z.columns (Z.starts !! a) x (Z.starts !! (a + 1) - Z.starts !! a) marks ∙ p.len;
      under = λ b m k u v. ⊎_elim
          (λ (q : b ≡ a). own b q k u v)
          (λ (m' : b < a). omega (arith, lowered_under Z.columns (Z.starts !! a) x marks p.len (Z.starts !! (a + 1) - Z.starts !! a) (place_of (Z.columns !! k)), p.under b m' k u v))
          (last_or_before (rw add-one at m));
    })
  where
    own : (b : ℕ) → b ≡ a → (k : ℕ) → Z.starts !! b ≤ k → k < Z.starts !! (b + 1) → lowered Z.columns (Z.starts !! a) x (Z.starts !! (a + 1) - Z.starts !! a) marks !! place_of (Z.columns !! k) ≤ g b
    own b q k u v =
        let u' : Z.starts !! a ≤ k = rw q at u in
        let v' : k < Z.starts !! (a + 1) = rw q at v in
        let r : Z.starts !! a + (k - Z.starts !! a) ≡ k = omega arith in
        let entry = rw r at (lowered_entry Z.columns (Z.starts !! a) x marks p.len (Z.starts !! (a + 1) - Z.starts !! a) (k - Z.starts !! a) (omega arith)) in
        rw q (omega (arith, entry, l))

-- a row with a number below the least mark of row a
pub marked_apart : (Z : Sparse) (g : ℕ → ℕ) (a : ℕ) (marks : List ℕ) (least : ℕ) → Marked Z g a marks → least ≡ least_mark Z.columns (Z.starts !! a) (Z.starts !! (a + 1) - Z.starts !! a) marks
    → (b : ℕ) → b < a → g b < least → Disjoint Z a b
marked_apart Z g a marks least p e b l m k j u v u' v' same =
    let r : Z.starts !! a + (k - Z.starts !! a) ≡ k = omega arith in
    let over = rw r at (least_under Z.columns marks (Z.starts !! a) (Z.starts !! (a + 1) - Z.starts !! a) (k - Z.starts !! a) (omega arith)) in
    let under : marks !! place_of (Z.columns !! k) ≤ g b = rw same (p.under b l j u' v') in
    omega (arith, over, under, e, m)

-- ---- no observation, no sum
module _ (Z : Sparse) (rows n : ℕ) (w : List Float) (a b : ℕ) (r : Rows Z.starts Z.columns Z.values rows n) (l : a < rows) (m : b < rows) (d : Disjoint Z a b) where
  second_none : (i : ℕ) → stored_in Z.columns (Z.starts !! a) (Z.starts !! (a + 1)) i ≡ true → stored_in Z.columns (Z.starts !! b) (Z.starts !! (b + 1)) i ≡ false
  second_none i e =
      stored_none (r.each b m) i
      (λ j p q z. ff (sym (stored_none (r.each a l) i (λ k p' q' z'. d k j p' q' p q (z' ∙ sym z))) ∙ e))

  not_both : (i : ℕ) (t : Bool) → stored_in Z.columns (Z.starts !! a) (Z.starts !! (a + 1)) i ≡ t → stored Z a i && stored Z b i ≡ false
  unfolding stored
  not_both i false e = rw e refl
  not_both i true e = rw (second_none i e) (and-false (stored_in Z.columns (Z.starts !! a) (Z.starts !! (a + 1)) i))

  pub disjoint_sum : zero_f ≡ ztwz_at Z n w a b
  unfolding ztwz_at both_sum
  disjoint_sum =
      where_none (λ i. stored Z a i && stored Z b i) (weighted_term Z w a b)
      ∙ where_gap (λ i. stored Z a i && stored Z b i) (weighted_term Z w a b) 0 n (omega arith) (λ i p q. not_both i (stored_in Z.columns (Z.starts !! a) (Z.starts !! (a + 1)) i) refl)
