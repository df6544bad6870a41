-- One content: each contract of this crate leaves one list. Assumes nothing.
use mathlib.Core.Path.{◌≡◌, sym, ◌∙◌}
use mathlib.Core.List.{List}
use mathlib.Core.Logic.{⊎_elim}
use Prim.Native.Nat.{ℕ, ◌*◌, ◌+◌, ◌/◌, ◌%◌, ◌<◌, ◌≤◌}
use native.Mathlib.Nat.{div-add-mod', mod-lt}
use native.Mathlib.Omega.{arith}
use lib.Seq.{ext_get_or}
use lib.Ieee.{Float, nan}
use Rattle.base.specs.Sum.{◌!◌}
use Rattle.base.specs.List.{at, fill_to, grid_to}
use Rattle.base.specs.Sparse.{Sparse}
use Rattle.base.proofs.Unique.{one_value}
use Rattle.base.proofs.Sums.{lt_or_ge}
use Rattle.base.proofs.Fills.{columns}
use Rattle.stored.specs.Stored.{zt_times_at, ztwz_at, z_times_at}
use Rattle.stored.specs.Symmetric.{Bordered}
use Rattle.stored.proofs.Symmetry.{same_or_not}

-- `zt_times`
pub zt_times_unique : (Z : Sparse) (rows n : ℕ) (v before x y : List Float) → x ≡ fill_to rows (zt_times_at Z n v) before → y ≡ fill_to rows (zt_times_at Z n v) before → x ≡ y
zt_times_unique Z rows n v before x y p q = one_value p q

-- `ztwz`
pub ztwz_unique : (Z : Sparse) (rows n : ℕ) (w before x y : List Float) → x ≡ grid_to rows rows (ztwz_at Z n w) before → y ≡ grid_to rows rows (ztwz_at Z n w) before → x ≡ y
ztwz_unique Z rows n w before x y p q = one_value p q

-- `z_times`
pub z_times_unique : (Z : Sparse) (rows n : ℕ) (b before x y : List Float) → x ≡ fill_to n (z_times_at Z rows b) before → y ≡ fill_to n (z_times_at Z rows b) before → x ≡ y
z_times_unique Z rows n b before x y p q = one_value p q

-- `ztwz_row`: every place of the square, and every place behind it, is given
pub bordered_unique : (s a m : ℕ) (f : ℕ → ℕ → Float) (v x y : List Float) → Bordered s a m f v x → Bordered s a m f v y → x ≡ y
bordered_unique s a m f v x y p q =
    ext_get_or nan x y (p.len ∙ sym q.len)
    (λ t l. ⊎_elim (λ (h : t < s * s). inside t h) (λ (h : s * s ≤ t). p.past t h ∙ sym (q.past t h)) (lt_or_ge t (s * s)))
  where
    elsewhere : (i j : ℕ) → j < s → (i ≡ a → j < m → ⊥) → (j ≡ a → i < m → ⊥) → at s x i j ≡ at s y i j
    elsewhere i j l r c = p.kept i j l r c ∙ sym (q.kept i j l r c)

    in_column : (i j : ℕ) → j < s → (i ≡ a → j < m → ⊥) → at s x i j ≡ at s y i j
    in_column i j l r =
        ⊎_elim
        (λ (e : j ≡ a). ⊎_elim (λ (h : i < m). rw e (p.down i h ∙ sym (q.down i h))) (λ (h : m ≤ i). elsewhere i j l r (λ e' h'. omega arith)) (lt_or_ge i m))
        (λ (d : j ≡ a → ⊥). elsewhere i j l r (λ e h. d e))
        (same_or_not j a)

    entry : (i j : ℕ) → j < s → at s x i j ≡ at s y i j
    entry i j l =
        ⊎_elim
        (λ (e : i ≡ a). ⊎_elim (λ (h : j < m). rw e (p.across j h ∙ sym (q.across j h))) (λ (h : m ≤ j). in_column i j l (λ e' h'. omega arith)) (lt_or_ge j m))
        (λ (d : i ≡ a → ⊥). in_column i j l (λ e h. d e))
        (same_or_not i a)

    inside : (t : ℕ) → t < s * s → x ! t ≡ y ! t
    inside t h =
        let e : x ! (t / s * s + t % s) ≡ y ! (t / s * s + t % s) = entry (t / s) (t % s) (mod-lt t (columns s s t h)) in
        let whole : t / s * s + t % s ≡ t = div-add-mod' t s in
        rw whole at e
