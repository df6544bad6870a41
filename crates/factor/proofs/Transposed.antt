-- The exchanges of rows and columns make the transpose. Assumes nothing.
use mathlib.Core.Path.{◌≡◌, refl, ap, ◌∙◌}
use mathlib.Core.List.{List}
use mathlib.Core.Logic.{⊎_elim}
use Prim.Native.Nat.{ℕ, zero, suc, ◌+◌, ◌*◌, ◌<◌, ◌≤◌}
use native.Mathlib.Nat.{not-suc-le-zero}
use native.Mathlib.Numerals.{add-one}
use native.Mathlib.Omega.{arith}
use lib.ListN.{length, set, length-set}
use lib.Seq.{get_or-set_same, get_or-set_other}
use lib.Ieee.{Float, nan}
use Rattle.base.specs.Sum.{◌!◌}
use Rattle.base.specs.List.{at, grid_to}
use Rattle.base.proofs.Sums.{last_or_before}
use Rattle.base.proofs.Fills.{row_fits, same_row, same_column, length_grid, grid_in, grid_past, grid_is}
use Rattle.factor.specs.Transpose.{turned_at, swapped, row_turned, square_turned}

-- ---- one exchange
length_swapped : (p q : ℕ) (X : List Float) → length (swapped p q X) ≡ length X
unfolding swapped
length_swapped p q X = length-set (set X p (X ! q)) q (X ! p) ∙ length-set X p (X ! q)

swapped_first : (p q : ℕ) (X : List Float) → p < length X → (p ≡ q → ⊥) → swapped p q X ! p ≡ X ! q
unfolding swapped
swapped_first p q X l n = get_or-set_other (set X p (X ! q)) q p (X ! p) nan n ∙ get_or-set_same X p (X ! q) nan l

swapped_second : (p q : ℕ) (X : List Float) → q < length X → swapped p q X ! q ≡ X ! p
unfolding swapped
swapped_second p q X l = get_or-set_same (set X p (X ! q)) q (X ! p) nan (omega (arith, length-set X p (X ! q)))

swapped_other : (p q t : ℕ) (X : List Float) → (t ≡ p → ⊥) → (t ≡ q → ⊥) → swapped p q X ! t ≡ X ! t
unfolding swapped
swapped_other p q t X n m = get_or-set_other (set X p (X ! q)) q t (X ! p) nan m ∙ get_or-set_other X p t (X ! q) nan n

-- ---- the first n entries of row i and of column i, in P and in X
record RowTurned (s i n : ℕ) (P X : List Float) : Type 0 where
  pub len : length X ≡ length P
  pub across : (k : ℕ) → k < n → at s X i k ≡ at s P k i
  pub down : (k : ℕ) → k < n → at s X k i ≡ at s P i k
  pub kept : (a b : ℕ) → b < s → (a ≡ i → b < n → ⊥) → (b ≡ i → a < n → ⊥) → at s X a b ≡ at s P a b
  pub past : (t : ℕ) → s * s ≤ t → X ! t ≡ P ! t

row_turned_step : (s i n : ℕ) (P X : List Float) → i < s → n < i → s * s ≤ length P → RowTurned s i n P X → RowTurned s i (suc n) P (swapped (i * s + n) (n * s + i) X)
row_turned_step s i n P X l m h r =
    record {
      len = length_swapped (i * s + n) (n * s + i) X ∙ r.len;
      across = λ k g. ⊎_elim
          (λ (e : k ≡ n). rw e (swapped_first (i * s + n) (n * s + i) X (omega (arith, below, r.len)) (λ q. omega (arith, before)) ∙ r.kept n i l (λ q g'. omega arith) (λ q g'. omega arith)))
          (λ (g' : k < n). swapped_other (i * s + n) (n * s + i) (i * s + k) X (λ q. omega arith) (λ q. omega (arith, before)) ∙ r.across k g')
          (last_or_before g);
      down = λ k g. ⊎_elim
          (λ (e : k ≡ n). rw e (swapped_second (i * s + n) (n * s + i) X (omega (arith, below, before, r.len)) ∙ r.kept i n (omega arith) (λ q g'. omega arith) (λ q g'. omega arith)))
          (λ (g' : k < n). swapped_other (i * s + n) (n * s + i) (k * s + i) X (λ q. omega (arith, row_fits k n s g', before)) (λ q. omega (arith, row_fits k n s g')) ∙ r.down k g')
          (last_or_before g);
      kept = λ a b g p q. swapped_other (i * s + n) (n * s + i) (a * s + b) X
          (λ e. p (same_row s a b i n g (omega arith) e) (omega (arith, same_column s a b i n g (omega arith) e)))
          (λ e. q (same_column s a b n i g l e) (omega (arith, same_row s a b n i g l e)))
          ∙ r.kept a b g (λ e g'. p e (omega arith)) (λ e g'. q e (omega arith));
      past = λ t g. swapped_other (i * s + n) (n * s + i) t X (λ e. omega (arith, below)) (λ e. omega (arith, below, before)) ∙ r.past t g;
    }
  where
    below : i * s + s ≤ s * s
    below = row_fits i s s l

    before : n * s + s ≤ i * s
    before = row_fits n i s m

row_turned_lem : (s i n : ℕ) (P : List Float) → i < s → n ≤ i → s * s ≤ length P → RowTurned s i n P (row_turned s i n P)
unfolding row_turned
row_turned_lem s i zero P l m h =
    record { len = refl; across = λ k g. absurd (not-suc-le-zero g); down = λ k g. absurd (not-suc-le-zero g); kept = λ a b g p q. refl; past = λ t g. refl }
row_turned_lem s i (suc n) P l m h = row_turned_step s i n P (row_turned s i n P) l (omega arith) h (row_turned_lem s i n P l (omega arith) h)

-- ---- the leading n by n square, in M and in X
record Turned (s n : ℕ) (M X : List Float) : Type 0 where
  pub len : length X ≡ length M
  pub turned : (i j : ℕ) → i < n → j < n → at s X i j ≡ at s M j i
  pub right : (i j : ℕ) → n ≤ j → j < s → at s X i j ≡ at s M i j
  pub under : (i j : ℕ) → n ≤ i → j < s → at s X i j ≡ at s M i j
  pub past : (t : ℕ) → s * s ≤ t → X ! t ≡ M ! t

turned_step : (s n : ℕ) (M P X : List Float) → n < s → Turned s n M P → RowTurned s n n P X → Turned s (suc n) M X
turned_step s n M P X l t r =
    record {
      len = r.len ∙ t.len;
      turned = λ i j a b. ⊎_elim
          (λ (e : i ≡ n). ⊎_elim
          (λ (e' : j ≡ n). rw (e, e') (r.kept n n l (λ q g. omega arith) (λ q g. omega arith) ∙ t.under n n (omega arith) l))
          (λ (b' : j < n). rw e (r.across j b' ∙ t.right j n (omega arith) l))
          (last_or_before b))
          (λ (a' : i < n). ⊎_elim
          (λ (e' : j ≡ n). rw e' (r.down i a' ∙ t.under n i (omega arith) (omega arith)))
          (λ (b' : j < n). r.kept i j (omega arith) (λ q g. omega arith) (λ q g. omega arith) ∙ t.turned i j a' b')
          (last_or_before b))
          (last_or_before a);
      right = λ i j a b. r.kept i j b (λ q g. omega arith) (λ q g. omega arith) ∙ t.right i j (omega arith) b;
      under = λ i j a b. r.kept i j b (λ q g. omega arith) (λ q g. omega arith) ∙ t.under i j (omega arith) b;
      past = λ u g. r.past u g ∙ t.past u g;
    }

all_turned : (s n : ℕ) (M : List Float) → n ≤ s → s * s ≤ length M → Turned s n M (square_turned s n M)
unfolding square_turned
all_turned s zero M l h =
    record { len = refl; turned = λ i j a b. absurd (not-suc-le-zero a); right = λ i j a b. refl; under = λ i j a b. refl; past = λ t g. refl }
all_turned s (suc n) M l h =
    let t : Turned s n M (square_turned s n M) = all_turned s n M (omega arith) h in
    turned_step s n M (square_turned s n M) (row_turned s n n (square_turned s n M)) (omega arith) t
    (row_turned_lem s n n (square_turned s n M) (omega arith) (omega arith) (omega (arith, t.len)))

-- ---- as the loops use it
pub turn_none : (s i : ℕ) (X : List Float) → X ≡ row_turned s i 0 X
unfolding row_turned
turn_none s i X = refl

pub turn_step : (s i j io jo : ℕ) (P X : List Float) → io ≡ i * s → jo ≡ j * s → X ≡ row_turned s i j P → set (set X (io + j) (X ! (jo + i))) (jo + i) (X ! (io + j)) ≡ row_turned s i (j + 1) P
unfolding row_turned swapped
turn_step s i j io jo P X e e' q = rw (e, e', q, add-one j) refl

pub square_none : (s : ℕ) (X : List Float) → X ≡ square_turned s 0 X
unfolding square_turned
square_none s X = refl

pub square_step : (s i : ℕ) (M P X : List Float) → P ≡ square_turned s i M → X ≡ row_turned s i i P → X ≡ square_turned s (i + 1) M
unfolding square_turned
square_step s i M P X e q = rw (q, e, add-one i) refl

pub square_end : (s i : ℕ) (M X : List Float) → i ≤ s → s ≤ i → s * s ≤ length M → X ≡ square_turned s i M → X ≡ grid_to s s (turned_at s M) M
unfolding turned_at
square_end s i M X l m h e =
    let q : i ≡ s = omega arith in
    let t : Turned s s M (square_turned s s M) = all_turned s s M (omega arith) h in
    e ∙ rw q (grid_is s s (turned_at s M) M (square_turned s s M) h t.len t.turned t.past)

-- a grid that was turned over is the grid of the entries with rows and columns exchanged
pub turned_grid : (s : ℕ) (f g : ℕ → ℕ → Float) (b M X : List Float) → s * s ≤ length b → ((i j : ℕ) → f j i ≡ g i j) → M ≡ grid_to s s f b → X ≡ grid_to s s (turned_at s M) M → X ≡ grid_to s s g b
unfolding turned_at
turned_grid s f g b M X h same eM eX =
    grid_is s s g b X h (lengths ∙ length_m)
    (λ i j l m. ap (λ (w : List Float). at s w i j) eX ∙ grid_in s s (turned_at s M) M fits i j l m ∙ ap (λ (w : List Float). at s w j i) eM ∙ grid_in s s f b h j i m l ∙ same i j)
    (λ t l. ap (λ (w : List Float). w ! t) eX ∙ grid_past s s (turned_at s M) M t l ∙ ap (λ (w : List Float). w ! t) eM ∙ grid_past s s f b t l)
  where
    length_m : length M ≡ length b
    length_m = ap length eM ∙ length_grid s s f b

    lengths : length X ≡ length M
    lengths = ap length eX ∙ length_grid s s (turned_at s M) M

    fits : s * s ≤ length M
    fits = omega (arith, length_m)
