-- Laws of built lists, of matrices, and of lists that a loop has filled: none, one more, the end, and the entries. Assumes nothing.
use mathlib.Core.Path.{◌≡◌, refl, sym, ap, ◌∙◌}
use mathlib.Core.Logic.{⊎_elim}
use mathlib.Core.List.{List, [], ◌∷◌}
use Prim.Native.Nat.{ℕ, zero, suc, ◌+◌, ◌*◌, ◌/◌, ◌%◌, ◌<◌, ◌≤◌}
use native.Mathlib.Nat.{suc-mul, zero-add, mul-le-mul_right, not-suc-le-zero, mul-add-div_right, mul-add-mod_self_right, div-eq_of_lt, mod-eq_of_lt, add-zero, mul-zero, div-add-mod', mod-lt, div-lt_iff_lt-mul}
use native.Mathlib.Numerals.{add-one}
use native.Mathlib.Omega.{arith}
use lib.ListN.{length, set, replicate, length-set}
use lib.Seq.{get_or-set_same, get_or-set_other, ext_get_or}
use lib.Ieee.{Float, nan}
use Rattle.base.specs.Sum.{◌!◌}
use Rattle.base.specs.List.{build, entry_of, matrix, at, fill_to, fill_at, grid_to}
use Rattle.base.proofs.Sums.{lt_or_ge, last_or_before}

-- ---- built lists
pub build_length : (f : ℕ → Float) (n : ℕ) → length (build f n) ≡ n
unfolding build
build_length f zero = refl
build_length f (suc n) = ap suc (build_length (λ i. f (suc i)) n)

pub build_at : (f : ℕ → Float) (n i : ℕ) → i < n → build f n ! i ≡ f i
unfolding build
build_at f zero i h = absurd (not-suc-le-zero h)
build_at f (suc n) zero h = refl
build_at f (suc n) (suc i) h = build_at (λ i. f (suc i)) n i (omega arith)

-- a list of n entries is built by any rule that agrees with each of them
pub build_is : (f : ℕ → Float) (n : ℕ) (l : List Float) → length l ≡ n → ((i : ℕ) → i < n → l ! i ≡ f i) → l ≡ build f n
build_is f n l e h =
    ext_get_or nan l (build f n) (e ∙ sym (build_length f n)) (λ i k. let k' : i < n = omega arith in h i k' ∙ sym (build_at f n i k'))

pub build_cong : (f g : ℕ → Float) (n : ℕ) → ((i : ℕ) → i < n → f i ≡ g i) → build f n ≡ build g n
build_cong f g n h = build_is g n (build f n) (build_length f n) (λ i l. build_at f n i l ∙ h i l)

pub build_const : (x : Float) (n : ℕ) → build (λ i. x) n ≡ replicate n x
unfolding build
build_const x zero = refl
build_const x (suc n) = ap (λ (l : List Float). x ∷ l) (build_const x n)

-- ---- filled from off on
pub fillat_none : (off : ℕ) (f : ℕ → Float) (b : List Float) → b ≡ fill_at off 0 f b
unfolding fill_at
fillat_none off f b = refl

pub fillat_step : (off : ℕ) (f : ℕ → Float) (b : List Float) (i : ℕ) (s : List Float) → s ≡ fill_at off i f b → set s (off + i) (f i) ≡ fill_at off (i + 1) f b
unfolding fill_at
fillat_step off f b i s e = rw (e, add-one) refl

pub fillat_end : (off : ℕ) (f : ℕ → Float) (b : List Float) (k n : ℕ) (s : List Float) → s ≡ fill_at off k f b → k ≤ n → n ≤ k → s ≡ fill_at off n f b
fillat_end off f b k n s e l m = let q : k ≡ n = omega arith in rw (← q) e

pub length_fillat : (off n : ℕ) (f : ℕ → Float) (b : List Float) → length (fill_at off n f b) ≡ length b
unfolding fill_at
length_fillat off zero f b = refl
length_fillat off (suc n) f b = simp length-set (length_fillat off n f b)

pub fillat_below : (off n : ℕ) (f : ℕ → Float) (b : List Float) (i : ℕ) → i < off → fill_at off n f b ! i ≡ b ! i
unfolding fill_at
fillat_below off zero f b i l = refl
fillat_below off (suc n) f b i l = get_or-set_other (fill_at off n f b) (off + n) i (f n) nan (λ e. omega arith) ∙ fillat_below off n f b i l

pub fillat_above : (off n : ℕ) (f : ℕ → Float) (b : List Float) (i : ℕ) → off + n ≤ i → fill_at off n f b ! i ≡ b ! i
unfolding fill_at
fillat_above off zero f b i l = refl
fillat_above off (suc n) f b i l = get_or-set_other (fill_at off n f b) (off + n) i (f n) nan (λ e. omega arith) ∙ fillat_above off n f b i (omega arith)

pub fillat_in : (off n : ℕ) (f : ℕ → Float) (b : List Float) → off + n ≤ length b → (i : ℕ) → i < n → fill_at off n f b ! (off + i) ≡ f i
unfolding fill_at
fillat_in off zero f b h i l = absurd (not-suc-le-zero l)
fillat_in off (suc n) f b h i l =
    ⊎_elim
    (λ e. rw e (get_or-set_same (fill_at off n f b) (off + n) (f n) nan (omega (arith, length_fillat off n f b))))
    (λ m. get_or-set_other (fill_at off n f b) (off + n) (off + i) (f n) nan (λ e. omega arith) ∙ fillat_in off n f b (omega arith) i m)
    (last_or_before l)

-- rules that agree on the n entries fill alike
pub fillat_cong : (off n : ℕ) (f g : ℕ → Float) (b : List Float) → ((i : ℕ) → i < n → f i ≡ g i) → fill_at off n f b ≡ fill_at off n g b
unfolding fill_at
fillat_cong off zero f g b h = refl
fillat_cong off (suc n) f g b h = rw (fillat_cong off n f g b (λ i l. h i (omega arith)), h n (omega arith)) refl

-- two stores at two places, in either order
swap_stores : (l : List Float) (i j : ℕ) (x y : Float) → (i ≡ j → ⊥) → set (set l i x) j y ≡ set (set l j y) i x
swap_stores [] i j x y h = refl
swap_stores (z ∷ l) zero zero x y h = absurd (h refl)
swap_stores (z ∷ l) zero (suc j) x y h = refl
swap_stores (z ∷ l) (suc i) zero x y h = refl
swap_stores (z ∷ l) (suc i) (suc j) x y h = ap (λ (k : List Float). z ∷ k) (swap_stores l i j x y (λ e. h (ap suc e)))

-- a store at a place before the filled ones can come first
pub fillat_before : (off n : ℕ) (f : ℕ → Float) (b : List Float) (k : ℕ) (x : Float) → k < off → set (fill_at off n f b) k x ≡ fill_at off n f (set b k x)
unfolding fill_at
fillat_before off zero f b k x l = refl
fillat_before off (suc n) f b k x l =
    swap_stores (fill_at off n f b) (off + n) k (f n) x (λ e. omega arith) ∙ ap (λ (s : List Float). set s (off + n) (f n)) (fillat_before off n f b k x l)

-- one entry more of two rows that one loop fills, the row at c behind the row at a
pub fillat_both : (a c : ℕ) (f g : ℕ → Float) (b : List Float) (i : ℕ) (s : List Float) (x y : Float) → a + i < c → x ≡ f i → y ≡ g i → s ≡ fill_at c i g (fill_at a i f b)
    → set (set s (a + i) x) (c + i) y ≡ fill_at c (i + 1) g (fill_at a (i + 1) f b)
fillat_both a c f g b i s x y l p q e =
    fillat_two (rw (e, fillat_before c i g (fill_at a i f b) (a + i) x l, p, fillat_step a f b i (fill_at a i f b) refl))
  where
    fillat_two : set s (a + i) x ≡ fill_at c i g (fill_at a (i + 1) f b) → set (set s (a + i) x) (c + i) y ≡ fill_at c (i + 1) g (fill_at a (i + 1) f b)
    fillat_two h = rw q (fillat_step c g (fill_at a (i + 1) f b) i (set s (a + i) x) h)

-- ---- filled from the front: the same from 0 on
fill_at_lem : (n : ℕ) (f : ℕ → Float) (b : List Float) → fill_to n f b ≡ fill_at 0 n f b
unfolding fill_to fill_at
fill_at_lem zero f b = refl
fill_at_lem (suc n) f b = rw (fill_at_lem n f b, zero-add n) refl

pub fill_none : (f : ℕ → Float) (b : List Float) → b ≡ fill_to 0 f b
unfolding fill_to
fill_none f b = refl

pub fill_step : (f : ℕ → Float) (b : List Float) (i : ℕ) (s : List Float) → s ≡ fill_to i f b → set s i (f i) ≡ fill_to (i + 1) f b
unfolding fill_to
fill_step f b i s e = rw (e, add-one) refl

pub fill_end : (f : ℕ → Float) (b : List Float) (k n : ℕ) (s : List Float) → s ≡ fill_to k f b → k ≤ n → n ≤ k → s ≡ fill_to n f b
fill_end f b k n s e l m = let q : k ≡ n = omega arith in rw (← q) e

pub length_fill : (n : ℕ) (f : ℕ → Float) (b : List Float) → length (fill_to n f b) ≡ length b
length_fill n f b = rw (fill_at_lem n f b) (length_fillat 0 n f b)

pub fill_past : (n : ℕ) (f : ℕ → Float) (b : List Float) (i : ℕ) → n ≤ i → fill_to n f b ! i ≡ b ! i
fill_past n f b i l = rw (fill_at_lem n f b) (fillat_above 0 n f b i (omega arith))

pub fill_in : (n : ℕ) (f : ℕ → Float) (b : List Float) → n ≤ length b → (i : ℕ) → i < n → fill_to n f b ! i ≡ f i
fill_in n f b h i l =
    let e : fill_at 0 n f b ! (0 + i) ≡ f i = fillat_in 0 n f b (omega arith) i l in
    rw (fill_at_lem n f b) (rw (zero-add i) at e)

-- a list with the rule's entries below n and b's behind is b filled
pub fill_is : (n : ℕ) (f : ℕ → Float) (b w : List Float) → n ≤ length b → length w ≡ length b → ((i : ℕ) → i < n → w ! i ≡ f i) → ((i : ℕ) → n ≤ i → w ! i ≡ b ! i) → w ≡ fill_to n f b
fill_is n f b w h e inside past =
    ext_get_or nan w (fill_to n f b) (e ∙ sym (length_fill n f b))
    (λ i l. ⊎_elim (λ (m : i < n). inside i m ∙ sym (fill_in n f b h i m)) (λ (m : n ≤ i). past i m ∙ sym (fill_past n f b i m)) (lt_or_ge i n))

-- what was filled before does not matter
pub fill_over : (n : ℕ) (f g : ℕ → Float) (b : List Float) → n ≤ length b → fill_to n f (fill_to n g b) ≡ fill_to n f b
fill_over n f g b h =
    fill_is n f b (fill_to n f (fill_to n g b)) h (length_fill n f (fill_to n g b) ∙ length_fill n g b)
    (λ i l. fill_in n f (fill_to n g b) (omega (arith, length_fill n g b)) i l)
    (λ i l. fill_past n f (fill_to n g b) i l ∙ fill_past n g b i l)

-- a slice that is filled whole
pub fill_build : (n : ℕ) (f : ℕ → Float) (b : List Float) → length b ≡ n → fill_to n f b ≡ build f n
fill_build n f b h = build_is f n (fill_to n f b) (length_fill n f b ∙ h) (λ i l. fill_in n f b (omega arith) i l)

-- a list copied whole
pub copied : (n : ℕ) (v b : List Float) → length v ≡ n → length b ≡ n → fill_to n (entry_of v) b ≡ v
copied n v b l h = fill_build n (entry_of v) b h ∙ sym (build_is (entry_of v) n v l (λ i m. refl))

-- ---- rows of a matrix
-- row i of n rows of p entries ends within n * p
pub row_fits : (i n p : ℕ) → i < n → i * p + p ≤ n * p
row_fits i n p l = rw (← suc-mul) (mul-le-mul_right p l)

-- the place i·c + j belongs to row i and column j
pub place_row : (c i j : ℕ) → j < c → (i * c + j) / c ≡ i
place_row c i j l = rw (mul-add-div_right {m = c} (omega arith) i j, div-eq_of_lt l) (add-zero i)

pub place_column : (c i j : ℕ) → j < c → (i * c + j) % c ≡ j
place_column c i j l = rw (mul-add-mod_self_right i c j) (mod-eq_of_lt l)

-- and to no other
pub same_row : (c a b i j : ℕ) → b < c → j < c → a * c + b ≡ i * c + j → a ≡ i
same_row c a b i j l m e = sym (place_row c a b l) ∙ ap (λ (t : ℕ). t / c) e ∙ place_row c i j m

pub same_column : (c a b i j : ℕ) → b < c → j < c → a * c + b ≡ i * c + j → b ≡ j
same_column c a b i j l m e = sym (place_column c a b l) ∙ ap (λ (t : ℕ). t % c) e ∙ place_column c i j m

pub matrix_length : (r c : ℕ) (f : ℕ → ℕ → Float) → length (matrix r c f) ≡ r * c
unfolding matrix
matrix_length r c f = build_length (λ t. f (t / c) (t % c)) (r * c)

pub matrix_at : (r c : ℕ) (f : ℕ → ℕ → Float) (i j : ℕ) → i < r → j < c → at c (matrix r c f) i j ≡ f i j
unfolding matrix
matrix_at r c f i j l m =
    build_at (λ t. f (t / c) (t % c)) (r * c) (i * c + j) (omega (arith, row_fits i r c l)) ∙ rw (place_row c i j m, place_column c i j m) refl

pub grid_none : (c : ℕ) (f : ℕ → ℕ → Float) (b : List Float) → b ≡ grid_to 0 c f b
unfolding grid_to
grid_none c f b = refl

pub grid_step : (c : ℕ) (f : ℕ → ℕ → Float) (b : List Float) (r : ℕ) (s : List Float) → s ≡ grid_to r c f b → fill_at (r * c) c (f r) s ≡ grid_to (r + 1) c f b
unfolding grid_to
grid_step c f b r s e = rw (e, add-one) refl

pub grid_end : (c : ℕ) (f : ℕ → ℕ → Float) (b : List Float) (k n : ℕ) (s : List Float) → s ≡ grid_to k c f b → k ≤ n → n ≤ k → s ≡ grid_to n c f b
grid_end c f b k n s e l m = let q : k ≡ n = omega arith in rw (← q) e

pub length_grid : (n c : ℕ) (f : ℕ → ℕ → Float) (b : List Float) → length (grid_to n c f b) ≡ length b
unfolding grid_to
length_grid zero c f b = refl
length_grid (suc n) c f b = length_fillat (n * c) c (f n) (grid_to n c f b) ∙ length_grid n c f b

pub grid_past : (n c : ℕ) (f : ℕ → ℕ → Float) (b : List Float) (i : ℕ) → n * c ≤ i → grid_to n c f b ! i ≡ b ! i
unfolding grid_to
grid_past zero c f b i l = refl
grid_past (suc n) c f b i l =
    let h : n * c + c ≤ i = rw suc-mul at l in
    fillat_above (n * c) c (f n) (grid_to n c f b) i h ∙ grid_past n c f b i (omega arith)

pub grid_in : (n c : ℕ) (f : ℕ → ℕ → Float) (b : List Float) → n * c ≤ length b → (i j : ℕ) → i < n → j < c → grid_to n c f b ! (i * c + j) ≡ f i j
unfolding grid_to
grid_in zero c f b h i j l m = absurd (not-suc-le-zero l)
grid_in (suc n) c f b h i j l m =
    let h' : n * c + c ≤ length b = rw suc-mul at h in
    ⊎_elim
    (λ e. rw e (fillat_in (n * c) c (f n) (grid_to n c f b) (omega (arith, length_grid n c f b)) j m))
    (λ q. fillat_below (n * c) c (f n) (grid_to n c f b) (i * c + j) (omega (arith, row_fits i n c q)) ∙ grid_in n c f b (omega arith) i j q m)
    (last_or_before l)

-- a matrix with an entry has a column
pub columns : (r c t : ℕ) → t < r * c → 0 < c
columns r zero t l = absurd (not-suc-le-zero (rw mul-zero at l))
columns r (suc c) t l = omega arith

-- the entries of a matrix by their places
pub by_place : (r c : ℕ) (f : ℕ → ℕ → Float) (w : List Float) → ((i j : ℕ) → i < r → j < c → at c w i j ≡ f i j) → (t : ℕ) → t < r * c → w ! t ≡ f (t / c) (t % c)
by_place r c f w inside t l =
    let some : 0 < c = columns r c t l in
    let whole : t / c * c + t % c ≡ t = div-add-mod' t c in
    let e : w ! (t / c * c + t % c) ≡ f (t / c) (t % c) = inside (t / c) (t % c) ((div-lt_iff_lt-mul some).1 l) (mod-lt t some) in
    rw whole at e

pub grid_place : (r c : ℕ) (f : ℕ → ℕ → Float) (b : List Float) → r * c ≤ length b → (t : ℕ) → t < r * c → grid_to r c f b ! t ≡ f (t / c) (t % c)
grid_place r c f b h = by_place r c f (grid_to r c f b) (grid_in r c f b h)

-- a list with the grid's entries in the grid, and b's behind it, is the grid
pub grid_is : (r c : ℕ) (f : ℕ → ℕ → Float) (b w : List Float) → r * c ≤ length b → length w ≡ length b → ((i j : ℕ) → i < r → j < c → at c w i j ≡ f i j) → ((t : ℕ) → r * c ≤ t → w ! t ≡ b ! t) → w ≡ grid_to r c f b
grid_is r c f b w h e inside past =
    ext_get_or nan w (grid_to r c f b) (e ∙ sym (length_grid r c f b))
    (λ t l. ⊎_elim (λ (m : t < r * c). by_place r c f w inside t m ∙ sym (grid_place r c f b h t m)) (λ (m : r * c ≤ t). past t m ∙ sym (grid_past r c f b t m)) (lt_or_ge t (r * c)))

-- a slice that is filled whole by rows
pub grid_matrix : (r c : ℕ) (f : ℕ → ℕ → Float) (b : List Float) → length b ≡ r * c → grid_to r c f b ≡ matrix r c f
unfolding matrix
grid_matrix r c f b h =
    build_is (λ t. f (t / c) (t % c)) (r * c) (grid_to r c f b) (length_grid r c f b ∙ h) (λ t l. grid_place r c f b (omega arith) t l)
