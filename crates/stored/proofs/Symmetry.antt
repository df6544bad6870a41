-- Z'WZ is symmetric, so its rows up to the diagonal, written to their places and to the mirrored ones, are the whole. Assumes nothing.
use mathlib.Core.Path.{◌≡◌, refl, ap, ◌∙◌}
use mathlib.Core.List.{List}
use mathlib.Core.Logic.{⊎_elim, ◌⊎◌, inl, inr}
use mathlib.Core.Bool.{and_comm}
use Prim.Native.Nat.{ℕ, suc, ◌+◌, ◌*◌, ◌<◌, ◌≤◌}
use native.Mathlib.Nat.{not-suc-le-zero}
use native.Mathlib.Numerals.{add-one}
use native.Mathlib.Omega.{arith}
use lib.ListN.{length, set, length-set}
use lib.Seq.{get_or-set_same, get_or-set_other}
use lib.Ieee.{Float, nan}
use Rattle.base.specs.Number.{◌⊗◌}
use Rattle.base.specs.Sum.{◌!◌}
use Rattle.base.specs.List.{at, grid_to}
use Rattle.base.specs.Sparse.{Sparse, stored, value_at, both_sum}
use Rattle.base.proofs.Commutes.{times_commutes}
use Rattle.base.proofs.Sums.{lt_or_ge, last_or_before, where_cong}
use Rattle.base.proofs.Fills.{row_fits, same_row, same_column, grid_is}
use Rattle.stored.specs.Stored.{weighted_term, ztwz_at}
use Rattle.stored.specs.Symmetric.{Bordered}

-- ---- the sum of (z_a·z_b)·w is that of (z_b·z_a)·w
pub ztwz_symmetric : (Z : Sparse) (n : ℕ) (w : List Float) (a b : ℕ) → ztwz_at Z n w a b ≡ ztwz_at Z n w b a
unfolding ztwz_at both_sum weighted_term
ztwz_symmetric Z n w a b =
    where_cong n _ _ _ _ (λ k l. and_comm (stored Z a k) (stored Z b k)) (λ k l e. ap (λ (x : Float). x ⊗ (w ! k)) (times_commutes (value_at Z a k) (value_at Z b k)))

-- ---- one number at two places, which may be one
pub same_or_not : (t q : ℕ) → (t ≡ q) ⊎ (t ≡ q → ⊥)
same_or_not t q = ⊎_elim (λ (l : t < q). inr (λ e. omega arith)) (λ (l : q ≤ t). ⊎_elim (λ (m : q < t). inr (λ e. omega arith)) (λ (m : t ≤ q). inl (omega arith)) (lt_or_ge q t)) (lt_or_ge t q)

module _ (p q : ℕ) (x : Float) (X : List Float) where
  first_place : p < length X → set (set X p x) q x ! p ≡ x
  first_place l =
      ⊎_elim
      (λ (e : p ≡ q). rw (← e) (get_or-set_same (set X p x) p x nan (omega (arith, length-set X p x))))
      (λ (d : p ≡ q → ⊥). get_or-set_other (set X p x) q p x nan d ∙ get_or-set_same X p x nan l)
      (same_or_not p q)

  second_place : q < length X → set (set X p x) q x ! q ≡ x
  second_place l = get_or-set_same (set X p x) q x nan (omega (arith, length-set X p x))

  other_place : (t : ℕ) → (t ≡ p → ⊥) → (t ≡ q → ⊥) → set (set X p x) q x ! t ≡ X ! t
  other_place t d e = get_or-set_other (set X p x) q t x nan e ∙ get_or-set_other X p t x nan d

-- ---- row a and column a
module _ (s a : ℕ) (f : ℕ → ℕ → Float) (v : List Float) where
  pub border_none : Bordered s a 0 f v v
  border_none = record { len = refl; across = λ k g. absurd (not-suc-le-zero g); down = λ k g. absurd (not-suc-le-zero g); kept = λ i j g p q. refl; past = λ t g. refl }

  module _ (m : ℕ) (X : List Float) (l : a < s) (g : m ≤ a) (h : s * s ≤ length v) (same : f a m ≡ f m a) (r : Bordered s a m f v X) where
    low : m * s + a < s * s
    low = omega (arith, row_fits m s s (omega arith))

    high : a * s + m < s * s
    high = omega (arith, row_fits a s s l)

    border_more : Bordered s a (suc m) f v (set (set X (a * s + m) (f a m)) (m * s + a) (f a m))
    border_more =
        record {
          len = length-set (set X (a * s + m) (f a m)) (m * s + a) (f a m) ∙ length-set X (a * s + m) (f a m) ∙ r.len;
          across = λ k u. ⊎_elim
              (λ (e : k ≡ m). rw e (first_place (a * s + m) (m * s + a) (f a m) X (omega (arith, high, r.len))))
              (λ (u' : k < m). other_place (a * s + m) (m * s + a) (f a m) X (a * s + k) (λ e. omega arith) (λ e. omega (arith, same_column s a k m a (omega arith) l e)) ∙ r.across k u')
              (last_or_before u);
          down = λ k u. ⊎_elim
              (λ (e : k ≡ m). rw e (second_place (a * s + m) (m * s + a) (f a m) X (omega (arith, low, r.len)) ∙ same))
              (λ (u' : k < m). other_place (a * s + m) (m * s + a) (f a m) X (k * s + a) (λ e. omega (arith, same_row s k a a m l (omega arith) e)) (λ e. omega (arith, same_row s k a m a l l e)) ∙ r.down k u')
              (last_or_before u);
          kept = λ i j u p q. other_place (a * s + m) (m * s + a) (f a m) X (i * s + j)
              (λ e. p (same_row s i j a m u (omega arith) e) (omega (arith, same_column s i j a m u (omega arith) e)))
              (λ e. q (same_column s i j m a u l e) (omega (arith, same_row s i j m a u l e)))
              ∙ r.kept i j u (λ e u'. p e (omega arith)) (λ e u'. q e (omega arith));
          past = λ t u. other_place (a * s + m) (m * s + a) (f a m) X t (λ e. omega (arith, high)) (λ e. omega (arith, low)) ∙ r.past t u;
        }

  -- as the loop has it
  pub border_step : (m : ℕ) (X : List Float) (ao mo : ℕ) (x : Float) → ao ≡ a * s → mo ≡ m * s → x ≡ f a m → a < s → m ≤ a → s * s ≤ length v → f a m ≡ f m a → Bordered s a m f v X → Bordered s a (m + 1) f v (set (set X (ao + m) x) (mo + a) x)
  border_step m X ao mo x e e' q l g h same r = rw (e, e', q, add-one m) (border_more m X l g h same r)

  pub border_end : (m : ℕ) (X : List Float) → m ≤ a + 1 → a < m → Bordered s a m f v X → Bordered s a (a + 1) f v X
  border_end m X l g r = let q : m ≡ a + 1 = omega arith in rw (← q) r

-- ---- row after row: X is v, but for its leading m by m square, which is f's
pub record Leading (s m : ℕ) (f : ℕ → ℕ → Float) (v X : List Float) : Type 0 where
  pub len : length X ≡ length v
  pub inside : (i j : ℕ) → i < m → j < m → at s X i j ≡ f i j
  pub outside : (i j : ℕ) → j < s → (i < m → j < m → ⊥) → at s X i j ≡ at s v i j
  pub past : (t : ℕ) → s * s ≤ t → X ! t ≡ v ! t

module _ (s : ℕ) (f : ℕ → ℕ → Float) (v : List Float) where
  pub leading_none : Leading s 0 f v v
  leading_none = record { len = refl; inside = λ i j g g'. absurd (not-suc-le-zero g); outside = λ i j g d. refl; past = λ t g. refl }

  pub leading_step : (a : ℕ) (X Y : List Float) → a < s → Leading s a f v X → Bordered s a (a + 1) f X Y → Leading s (a + 1) f v Y
  leading_step a X Y l p r =
      record {
        len = r.len ∙ p.len;
        inside = λ i j g g'. ⊎_elim
            (λ (e : i ≡ a). rw e (r.across j g'))
            (λ (u : i < a). ⊎_elim
            (λ (e : j ≡ a). rw e (r.down i g))
            (λ (u' : j < a). r.kept i j (omega arith) (λ e q. omega arith) (λ e q. omega arith) ∙ p.inside i j u u')
            (last_or_before (rw add-one at g')))
            (last_or_before (rw add-one at g));
        outside = λ i j g d. r.kept i j g (λ e q. d (omega arith) q) (λ e q. d q (omega arith)) ∙ p.outside i j g (λ q q'. d (omega arith) (omega arith));
        past = λ t g. r.past t g ∙ p.past t g;
      }

  pub leading_end : (a : ℕ) (X : List Float) → a ≤ s → s ≤ a → s * s ≤ length v → Leading s a f v X → X ≡ grid_to s s f v
  leading_end a X l g h p =
      let q : a ≡ s = omega arith in
      let r : Leading s s f v X = rw q at p in
      grid_is s s f v X h r.len r.inside r.past
