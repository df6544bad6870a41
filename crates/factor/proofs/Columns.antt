-- Columns of the unit matrix, and a row of a grid that is lent as a part. Assumes nothing.
use mathlib.Core.Path.{◌≡◌, refl, ◌∙◌}
use mathlib.Core.List.{List}
use mathlib.Core.Logic.{⊎_elim}
use Prim.Native.Nat.{ℕ, ◌+◌, ◌-◌, ◌*◌, ◌<◌, ◌≤◌}
use native.Mathlib.Omega.{arith}
use lib.ListN.{length, set, length-set}
use lib.Seq.{get_or-set_same, get_or-set_other}
use lib.Ieee.{Float, nan}
use borrow.Author.Tests.{eq-eqb, ne_eqb}
use borrow.Rule.Slice.PartMut.{put_mid, mid_of, mid_len}
use Rattle.base.specs.Number.{one_f}
use Rattle.base.specs.Sum.{◌!◌}
use Rattle.base.specs.List.{zero_at, fill_to, fill_at, grid_to}
use Rattle.base.proofs.Sums.{lt_or_ge}
use Rattle.base.proofs.Fills.{build_is, length_fill, fill_in, grid_step}
use Rattle.base.proofs.Rows.{fillat_wrote, part_wrote, wrote_unique}
use Rattle.factor.specs.Inverse.{unit_at, unit_column}

-- zeros with 1 at c
pub unit_made : (s c : ℕ) (b : List Float) → c < s → length b ≡ s → set (fill_to s zero_at b) c one_f ≡ unit_column s c
unfolding unit_column unit_at
unit_made s c b l h =
    build_is (unit_at c) s (set (fill_to s zero_at b) c one_f) (length-set (fill_to s zero_at b) c one_f ∙ length_fill s zero_at b ∙ h)
    (λ i m. ⊎_elim
    (λ (q : i < c). other i m (λ e. omega arith))
    (λ (q : c ≤ i). ⊎_elim
    (λ (p : c < i). other i m (λ e. omega arith))
    (λ (p : i ≤ c). let e : i ≡ c = omega arith in rw (e, eq-eqb c c refl) (get_or-set_same (fill_to s zero_at b) c one_f nan (omega (arith, length_fill s zero_at b))))
    (lt_or_ge c i))
    (lt_or_ge i c))
  where
    other : (i : ℕ) → i < s → (i ≡ c → ⊥) → set (fill_to s zero_at b) c one_f ! i ≡ unit_at c i
    other i m n = rw (ne_eqb i c n) (get_or-set_other (fill_to s zero_at b) c i one_f nan n ∙ fill_in s zero_at b (omega arith) i m)

-- row r of the grid was lent as the part from o to e and came back as ys, which is C
pub grid_part : (r c : ℕ) (f : ℕ → ℕ → Float) (b X ys C : List Float) (o e : ℕ) → X ≡ grid_to r c f b → o ≡ r * c → e ≡ o + c → e ≤ length X
    → length ys ≡ length (mid_of o (e - o) X) → ys ≡ C → ((i : ℕ) → i < c → C ! i ≡ f r i) → put_mid o (e - o) X ys ≡ grid_to (r + 1) c f b
grid_part r c f b X ys C o e eX eo ee h k q each =
    let l : length ys ≡ c = k ∙ mid_len o e X h ∙ omega arith in
    wrote_unique o c ys X (put_mid o (e - o) X ys) (fill_at o c (f r) X) (omega arith) (part_wrote o c e X ys ee h l)
    (rw (build_is (f r) c ys l (λ i m. rw q (each i m))) (fillat_wrote o c c (f r) X (fill_at o c (f r) X) refl (omega arith) (omega arith) (omega arith)))
    ∙ rw eo (grid_step c f b r X eX)
