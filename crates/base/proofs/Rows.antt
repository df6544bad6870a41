-- Laws of rows of a work slice: what a row holds, what a change leaves as it was, and parts that were lent. Assumes nothing.
use mathlib.Core.Path.{◌≡◌, refl, sym, ap, ◌∙◌}
use mathlib.Core.List.{List, ◌++◌}
use mathlib.Core.Logic.{inl, inr, ⊎_elim}
use Prim.Native.Nat.{ℕ, ◌+◌, ◌-◌, ◌*◌, ◌/◌, ◌%◌, ◌≤◌, ◌<◌}
use native.Mathlib.Omega.{arith}
use borrow.Rule.Slice.PartMut.{put_mid, mid_of, same_len_mid, mid_len}
use lib.ListN.{length, take, drop, length-take, length-drop, get_or-append}
use lib.Seq.{take_all, get_or-take, get_or-drop, get_or-append-add, length-take-le, take_at, drop_at, ext_get_or}
use lib.Ieee.{Float, nan}
use Rattle.base.specs.Sum.{◌!◌}
use Rattle.base.specs.List.{build, matrix, fill_to, fill_at, grid_to}
use Rattle.base.specs.Rows.{row, Out, Apart, Only, Wrote}
use Rattle.base.proofs.Sums.{lt_or_ge}
use Rattle.base.proofs.Fills.{build_is, length_fillat, fillat_end, fillat_in, fillat_below, fillat_above, fill_build, length_grid, grid_past, grid_place}

-- ---- a row's entries
module _ (b n : ℕ) (w : List Float) (fits : b + n ≤ length w) where
  pub row_length : length (row b n w) ≡ n
  unfolding row
  row_length = simp (length-take, length-drop) (omega arith)

  pub row_at : (i : ℕ) → i < n → row b n w ! i ≡ w ! (b + i)
  unfolding row
  row_at i h = rw (get_or-take, get_or-drop)

  pub row_build : (f : ℕ → Float) → ((k : ℕ) → k < n → w ! (b + k) ≡ f k) → row b n w ≡ build f n
  row_build f h = build_is f n (row b n w) row_length (λ i l. row_at i l ∙ h i l)

-- the part `&w[b..b + n]` is the row
pub part_row : (b n : ℕ) (w : List Float) → take (b + n - b) (drop b w) ≡ row b n w
unfolding row
part_row b n w = let e : b + n - b ≡ n = omega arith in rw e

pub part_is : (b n e : ℕ) (w : List Float) → e ≡ b + n → take (e - b) (drop b w) ≡ row b n w
part_is b n e w q = rw q (part_row b n w)

-- the part from 0 on is the front
pub front_is : (n : ℕ) (w : List Float) → take (n - 0) (drop 0 w) ≡ row 0 n w
front_is n w = part_is 0 n n w (omega arith)

-- entry t of the part from o on
pub part_at : (o m t : ℕ) (xs : List Float) → t < m → take m (drop o xs) ! t ≡ xs ! (o + t)
part_at o m t xs l = get_or-take m (drop o xs) t nan l ∙ get_or-drop o xs t nan

-- the part from o on holds what stands behind o
pub part_long : (o n : ℕ) (xs : List Float) → o + n ≤ length xs → n ≤ length (take (length xs - o) (drop o xs))
part_long o n xs h = simp (length-take, length-drop) (omega arith)

-- the row of the whole list
pub row_whole : (n : ℕ) (w : List Float) → length w ≡ n → row 0 n w ≡ w
unfolding row
row_whole n w h = take_all n w (omega arith)

-- ---- what a change leaves as it was
pub only_none : (b n : ℕ) (w : List Float) → Only b n w w
only_none b n w = record { len = refl; kept = λ j o. refl }

pub only_trans : {b n : ℕ} {u v w : List Float} → Only b n u v → Only b n v w → Only b n u w
only_trans p q = record { len = q.len ∙ p.len; kept = λ j o. q.kept j o ∙ p.kept j o }

-- a change within the n places from b on is one within any range that holds them
pub only_wide : (b n c m : ℕ) {v w : List Float} → c ≤ b → b + n ≤ c + m → Only b n v w → Only c m v w
only_wide b n c m l h p =
    record { len = p.len; kept = λ j o. p.kept j (⊎_elim (λ a. inl (omega arith)) (λ a. inr (omega arith)) o) }

-- a row apart from the change is as it was
pub only_row : (c m b n : ℕ) {v w : List Float} → Apart c m b n → c + m ≤ length v → Only b n v w → row c m w ≡ row c m v
only_row c m b n {v} {w} a h p =
    ext_get_or nan (row c m w) (row c m v) (row_length c m w hw ∙ sym (row_length c m v h))
    (λ i l.
    let l' : i < m = omega (arith, row_length c m w hw) in
    row_at c m w hw i l' ∙ p.kept (c + i) (⊎_elim (λ x. inl (omega arith)) (λ x. inr (omega arith)) a) ∙ sym (row_at c m v h i l'))
  where
    hw : c + m ≤ length w
    hw = omega (arith, p.len)

-- a row that was written, and what it was written from, leave one list
pub wrote_unique : (b n : ℕ) (f v w x : List Float) → b + n ≤ length v → Wrote b n f v w → Wrote b n f v x → w ≡ x
wrote_unique b n f v w x h p q =
    ext_get_or nan w x (p.only.len ∙ sym q.only.len)
    (λ i l. ⊎_elim (λ a. outside i (inl a)) (λ a. ⊎_elim (λ c. inside i a c) (λ c. outside i (inr c)) (lt_or_ge i (b + n))) (lt_or_ge i b))
  where
    outside : (i : ℕ) → Out b n i → w ! i ≡ x ! i
    outside i o = p.only.kept i o ∙ sym (q.only.kept i o)

    entry : (y : List Float) → Wrote b n f v y → (k : ℕ) → k < n → y ! (b + k) ≡ f ! k
    entry y r k l = sym (row_at b n y (omega (arith, r.only.len)) k l) ∙ ap (λ (z : List Float). z ! k) r.row'

    inside : (i : ℕ) → b ≤ i → i < b + n → w ! i ≡ x ! i
    inside i a c =
        let k : b + (i - b) ≡ i = omega arith in
        let e : w ! (b + (i - b)) ≡ x ! (b + (i - b)) = entry w p (i - b) (omega arith) ∙ sym (entry x q (i - b) (omega arith)) in
        rw k at e

-- ---- a loop that fills a row: its invariant is `w ≡ fill_at b i f v`
-- it changes no place but those of the row
pub fillat_only : (b n i : ℕ) (f : ℕ → Float) (v : List Float) → i ≤ n → Only b n v (fill_at b i f v)
fillat_only b n i f v l =
    record {
      len = length_fillat b i f v;
      kept = λ j o. ⊎_elim (λ a. fillat_below b i f v j a) (λ a. fillat_above b i f v j (omega arith)) o;
    }

-- what it leaves when its test fails: the row that was written, and nothing else
pub fillat_wrote : (b n i : ℕ) (f : ℕ → Float) (v w : List Float) → w ≡ fill_at b i f v → i ≤ n → n ≤ i → b + n ≤ length v → Wrote b n (build f n) v w
fillat_wrote b n i f v w e l m h =
    rw (fillat_end b f v i n w e l m)
    (record {
      row' = row_build b n (fill_at b n f v) (omega (arith, length_fillat b n f v)) f (λ k g. fillat_in b n f v h k g);
      only = fillat_only b n n f v (omega arith);
    })

-- a read of a row apart from it gives the entry that was there
pub fillat_read : (c m b n i j : ℕ) (f : ℕ → Float) (v w : List Float) → Apart c m b n → i ≤ n → j < m → w ≡ fill_at b i f v → w ! (c + j) ≡ v ! (c + j)
fillat_read c m b n i j f v w a l k e =
    rw e (⊎_elim (λ (x : c + m ≤ b). fillat_below b i f v (c + j) (omega arith)) (λ (x : b + n ≤ c). fillat_above b i f v (c + j) (omega arith)) a)

-- ---- a part `&mut xs[a..e]` that was lent and comes back as ys
put_below : (a k : ℕ) (xs ys : List Float) (i : ℕ) → a ≤ length xs → i < a → put_mid a k xs ys ! i ≡ xs ! i
put_below a k xs ys i h l =
    get_or-append (take a xs) (ys ++ drop k (drop a xs)) nan i (rw (length-take-le a xs h) l) ∙ get_or-take a xs i nan l

put_above : (a k : ℕ) (xs ys : List Float) (i : ℕ) → a + k ≤ length xs → length ys ≡ k → a + k ≤ i → put_mid a k xs ys ! i ≡ xs ! i
put_above a k xs ys i h e l =
    let d : a + (k + (i - (a + k))) ≡ i = omega arith in
    let there : put_mid a k xs ys ! (a + (k + (i - (a + k)))) ≡ xs ! (a + (k + (i - (a + k)))) =
    ap (λ (n : ℕ). put_mid a k xs ys ! (n + (k + (i - (a + k))))) (sym (length-take-le a xs (omega arith)))
    ∙ get_or-append-add (take a xs) (ys ++ drop k (drop a xs)) (k + (i - (a + k))) nan
    ∙ ap (λ (n : ℕ). (ys ++ drop k (drop a xs)) ! (n + (i - (a + k)))) (sym e)
    ∙ get_or-append-add ys (drop k (drop a xs)) (i - (a + k)) nan
    ∙ get_or-drop k (drop a xs) (i - (a + k)) nan
    ∙ get_or-drop a xs (k + (i - (a + k))) nan in
    rw d at there

put_row : (a k : ℕ) (xs ys : List Float) → a ≤ length xs → length ys ≡ k → row a k (put_mid a k xs ys) ≡ ys
unfolding row
put_row a k xs ys h e = rw (drop_at (take a xs) (ys ++ drop k (drop a xs)) a (length-take-le a xs h)) (take_at ys (drop k (drop a xs)) k e)

-- the row there is what was made of the part, and nothing else has changed
pub part_wrote : (a k e : ℕ) (xs ys : List Float) → e ≡ a + k → e ≤ length xs → length ys ≡ k → Wrote a k ys xs (put_mid a (e - a) xs ys)
part_wrote a k e xs ys q h l =
    let d : e - a ≡ k = omega arith in
    let m : length (mid_of a (e - a) xs) ≡ e - a = mid_len a e xs h in
    rw d
    (record {
      row' = put_row a k xs ys (omega arith) l;
      only = record {
        len = same_len_mid a k xs ys (l ∙ sym (rw d at m));
        kept = λ i o. ⊎_elim (λ b. put_below a k xs ys i (omega arith) b) (λ b. put_above a k xs ys i (omega arith) l b) o;
      };
    })

-- a part that came back filled
pub filled_part : (b n e : ℕ) (f : ℕ → Float) (w ys : List Float) → e ≡ b + n → e ≤ length w → length ys ≡ length (mid_of b (e - b) w) → ys ≡ fill_to n f (mid_of b (e - b) w)
    → Wrote b n (build f n) w (put_mid b (e - b) w ys)
filled_part b n e f w ys eb h l y =
    let k : length (mid_of b (e - b) w) ≡ n = mid_len b e w h ∙ omega arith in
    let v : Wrote b n ys w (put_mid b (e - b) w ys) = part_wrote b n e w ys eb h (l ∙ k) in
    record { row' = v.row' ∙ y ∙ fill_build n f (mid_of b (e - b) w) k; only = v.only }

-- a square at the front that a loop wrote row by row: the grid is the matrix, and nothing else has changed
pub grid_wrote : (r c : ℕ) (f : ℕ → ℕ → Float) (b : List Float) → r * c ≤ length b → Wrote 0 (r * c) (matrix r c f) b (grid_to r c f b)
unfolding matrix
grid_wrote r c f b h =
    record {
      row' = row_build 0 (r * c) (grid_to r c f b) (omega (arith, length_grid r c f b)) (λ t. f (t / c) (t % c)) (λ t l. let z : 0 + t ≡ t = omega arith in rw z (grid_place r c f b h t l));
      only = record { len = length_grid r c f b; kept = λ j o. ⊎_elim (λ a. absurd (omega arith)) (λ a. grid_past r c f b j (omega arith)) o };
    }
