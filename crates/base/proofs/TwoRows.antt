-- Laws of a change within two stretches, of a store and of a part that is put back. Assumes nothing.
use mathlib.Core.Path.{◌≡◌, refl, sym, ◌∙◌}
use mathlib.Core.List.{List}
use mathlib.Core.Logic.{inl, inr, ⊎_elim}
use Prim.Native.Nat.{ℕ, ◌+◌, ◌-◌, ◌*◌, ◌/◌, ◌%◌, ◌<◌, ◌≤◌}
use native.Mathlib.Omega.{arith}
use borrow.Rule.Slice.PartMut.{put_mid, mid_of, mid_len}
use lib.ListN.{length, set, length-set}
use lib.Seq.{get_or-set_other, ext_get_or}
use lib.Ieee.{Float, nan}
use Rattle.base.specs.List.{matrix, at}
use Rattle.base.specs.Rows.{row, Apart, Only, OnlyTwo, Wrote}
use Rattle.base.proofs.Fills.{build_is, by_place}
use Rattle.base.proofs.Rows.{row_at, row_length, part_wrote}

-- ---- two stretches
pub two_none : (b n c k : ℕ) (v : List Float) → OnlyTwo b n c k v v
two_none b n c k v = record { len = refl; kept = λ j o o'. refl }

-- a change of the first alone, or of the second
pub two_first : (b n c k : ℕ) {v w : List Float} → Only b n v w → OnlyTwo b n c k v w
two_first b n c k p = record { len = p.len; kept = λ j o o'. p.kept j o }

pub two_second : (b n c k : ℕ) {v w : List Float} → Only c k v w → OnlyTwo b n c k v w
two_second b n c k p = record { len = p.len; kept = λ j o o'. p.kept j o' }

pub two_trans : {b n c k : ℕ} {u v w : List Float} → OnlyTwo b n c k u v → OnlyTwo b n c k v w → OnlyTwo b n c k u w
two_trans p q = record { len = q.len ∙ p.len; kept = λ j o o'. q.kept j o o' ∙ p.kept j o o' }

-- one change, then another
pub two_of : (b n c k : ℕ) {u v w : List Float} → Only b n u v → Only c k v w → OnlyTwo b n c k u w
two_of b n c k p q = record { len = q.len ∙ p.len; kept = λ j o o'. q.kept j o' ∙ p.kept j o }

-- a row apart from both changes is as it was
pub two_row : (d i b n c k : ℕ) {v w : List Float} → Apart d i b n → Apart d i c k → d + i ≤ length v → OnlyTwo b n c k v w → row d i w ≡ row d i v
two_row d i b n c k {v} {w} s s' h p =
    ext_get_or nan (row d i w) (row d i v) (row_length d i w hw ∙ sym (row_length d i v h))
    (λ j l.
    let l' : j < i = omega (arith, row_length d i w hw) in
    row_at d i w hw j l'
    ∙ p.kept (d + j) (⊎_elim (λ x. inl (omega arith)) (λ x. inr (omega arith)) s) (⊎_elim (λ x. inl (omega arith)) (λ x. inr (omega arith)) s')
    ∙ sym (row_at d i v h j l'))
  where
    hw : d + i ≤ length w
    hw = omega (arith, p.len)

-- ---- a store, a matrix by its entries, a part that was lent once
-- a list with the matrix's entries is the matrix
pub matrix_is : (r c : ℕ) (f : ℕ → ℕ → Float) (w : List Float) → length w ≡ r * c → ((i j : ℕ) → i < r → j < c → at c w i j ≡ f i j) → w ≡ matrix r c f
unfolding matrix
matrix_is r c f w l h = build_is (λ t. f (t / c) (t % c)) (r * c) w l (by_place r c f w h)

-- a store changes its place only
pub set_only : (b : ℕ) (v : List Float) (x : Float) → Only b 1 v (set v b x)
set_only b v x =
    record {
      len = length-set v b x;
      kept = λ j o. get_or-set_other v b j x nan (⊎_elim (λ (l : j < b). λ e. omega arith) (λ (l : b + 1 ≤ j). λ e. omega arith) o);
    }

pub part_made : (b n e : ℕ) (f w ys : List Float) → e ≡ b + n → e ≤ length w → length ys ≡ length (mid_of b (e - b) w) → ys ≡ f → Wrote b n f w (put_mid b (e - b) w ys)
part_made b n e f w ys eb h l y =
    let v : Wrote b n ys w (put_mid b (e - b) w ys) = part_wrote b n e w ys eb h (l ∙ mid_len b e w h ∙ omega arith) in
    record { row' = v.row' ∙ y; only = v.only }
