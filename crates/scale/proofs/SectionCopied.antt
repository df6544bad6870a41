-- A block of A copied row by row to the place of the inverse. Assumes nothing.
use mathlib.Core.Path.{◌≡◌, refl, sym, ap, ◌∙◌}
use mathlib.Core.List.{List}
use Prim.Native.Nat.{ℕ, zero, suc, ◌+◌, ◌*◌, ◌/◌, ◌%◌, ◌<◌, ◌≤◌}
use native.Mathlib.Nat.{add-zero, zero-add, zero-mul, mul_comm, mul-le-mul}
use native.Mathlib.Omega.{arith}
use lib.ListN.{length, set}
use lib.Ieee.{Float}
use Rattle.base.specs.Sum.{◌!◌}
use Rattle.base.specs.List.{build, matrix, fill_at}
use Rattle.base.specs.Rows.{row, Wrote}
use Rattle.base.proofs.Fills.{build_is, by_place, fillat_none, fillat_below, fillat_cong, fillat_step, place_row, place_column, row_fits}
use Rattle.base.proofs.Rows.{row_at, fillat_wrote}
use Rattle.layout.specs.WorkMatrices.{inverse_place}
use Rattle.agq_rule.specs.Scale.{section_at, section_of}
use Rattle.scale.specs.Tells.{entry_from}

-- ---- one row

-- one entry more
pub copy_step : (from to n j : ℕ) (v w : List Float) → from + n ≤ to → j < n → w ≡ fill_at to j (entry_from v from) v
    → set w (to + j) (w ! (from + j)) ≡ fill_at to (j + 1) (entry_from v from) v
copy_step from to n j v w h l e =
    let x : w ! (from + j) ≡ v ! (from + j) = ap (λ (z : List Float). z ! (from + j)) e ∙ fillat_below to j (entry_from v from) v (from + j) (omega arith) in
    rw x (fillat_step to (entry_from v from) v j w e)

-- ---- the block

-- entry (t / k, t % k) of the block
abbrev pub place_at : ℕ → List Float → ℕ → ℕ → ℕ → Float
place_at q A s k t = section_at q A s (t / k) (t % k)

-- n places more behind the first a
fillat_on : (off a n : ℕ) (f : ℕ → Float) (b : List Float) → fill_at (off + a) n (λ j. f (a + j)) (fill_at off a f b) ≡ fill_at off (a + n) f b
unfolding fill_at
fillat_on off a zero f b = rw (add-zero a) refl
fillat_on off a (suc n) f b =
    let e : off + a + n ≡ off + (a + n) = omega arith in
    let m : a + suc n ≡ suc (a + n) = omega arith in
    rw (fillat_on off a n f b, e, m) refl

-- a block's square is not larger than A's
pub square_within : (q s k : ℕ) → s + k ≤ q → k * k ≤ q * q
square_within q s k h = mul-le-mul {n₂ = q} {m₂ = q} (omega arith) (omega arith)

-- no row yet
pub section_none : (q s k place : ℕ) (v : List Float) → v ≡ fill_at place (0 * k) (place_at q (row 0 (q * q) v) s k) v
section_none q s k place v = rw (zero-mul k) (fillat_none place (place_at q (row 0 (q * q) v) s k) v)

-- one row more: it is read from A, which lies before the place
pub section_step : (q s k i place from to : ℕ) (v w w' : List Float) → place ≡ inverse_place q → s + k ≤ q → i < k → q * q ≤ length v → from ≡ (s + i) * q + s → to ≡ place + i * k
    → w ≡ fill_at place (i * k) (place_at q (row 0 (q * q) v) s k) v → w' ≡ fill_at to k (entry_from w from) w
    → w' ≡ fill_at place ((i + 1) * k) (place_at q (row 0 (q * q) v) s k) v
unfolding section_at
section_step q s k i place from to v w w' ep h l hv ef et e e' =
    e' ∙ fillat_cong to k (entry_from w from) (λ j. place_at q (row 0 (q * q) v) s k (i * k + j)) w same ∙ rw (et, e) (fillat_on place (i * k) k (place_at q (row 0 (q * q) v) s k) v ∙ rw turn refl)
  where
    turn : i * k + k ≡ (i + 1) * k
    turn = omega (arith, mul_comm (i + 1) k, mul_comm i k)

    same : (j : ℕ) → j < k → entry_from w from j ≡ place_at q (row 0 (q * q) v) s k (i * k + j)
    same j m =
        let fits : (s + i) * q + q ≤ q * q = row_fits (s + i) q q (omega arith) in
        let o : from + j ≡ (s + i) * q + (s + j) = omega arith in
        rw (place_row k i j m, place_column k i j m)
        (ap (λ (z : List Float). z ! (from + j)) e ∙ fillat_below place (i * k) _ v (from + j) (omega arith) ∙ ap (λ (t : ℕ). v ! t) o
        ∙ sym (row_at 0 (q * q) v (omega arith) ((s + i) * q + (s + j)) (omega arith) ∙ ap (λ (t : ℕ). v ! t) (zero-add ((s + i) * q + (s + j)))))

-- all rows
pub section_done : (q s k i place : ℕ) (v w : List Float) → place ≡ inverse_place q → i ≤ k → k ≤ i → place + k * k ≤ length v
    → w ≡ fill_at place (i * k) (place_at q (row 0 (q * q) v) s k) v → Wrote (inverse_place q) (k * k) (section_of q (row 0 (q * q) v) s k) v w
unfolding section_of matrix
section_done q s k i place v w ep l m h e =
    let ik : i ≡ k = omega arith in
    let e' : w ≡ fill_at place (k * k) (place_at q (row 0 (q * q) v) s k) v = rw ik at e in
    let o : Wrote place (k * k) (build (place_at q (row 0 (q * q) v) s k) (k * k)) v w = fillat_wrote place (k * k) (k * k) (place_at q (row 0 (q * q) v) s k) v w e' (omega arith) (omega arith) h in
    rw ep at o

-- ---- all effects

-- the block of all effects is A
pub section_whole : (q : ℕ) (A : List Float) → length A ≡ q * q → section_of q A 0 q ≡ A
unfolding section_of section_at matrix
section_whole q A h = sym (build_is (place_at q A 0 q) (q * q) A h (by_place q q (section_at q A 0) A (λ i j a b. rw (zero-add i, zero-add j) refl)))
