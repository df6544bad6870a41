-- Laws of sums with several weighted columns at once: none, one more, the end; and the columns that are taken at once, one after another. Assumes nothing.
use mathlib.Core.Path.{◌≡◌, refl, sym, ap, ◌∙◌}
use mathlib.Core.List.{List}
use mathlib.Core.Logic.{⊎_elim}
use Prim.Native.Nat.{ℕ, zero, suc, ◌+◌, ◌*◌, ◌-◌, ◌<◌, ◌≤◌}
use native.Mathlib.Omega.{arith}
use borrow.Rule.Slice.PartMut.{put_mid, mid_of}
use lib.ListN.{length, set, replicate}
use lib.Ieee.{Float}
use Rattle.base.specs.Number.{◌⊕◌, ◌⊗◌, zero_f}
use Rattle.base.specs.Sum.{◌!◌, ◌!!◌, sum_to, product_at}
use Rattle.base.specs.List.{build, entry_of, fill_to, fill_at, grid_to}
use Rattle.base.specs.Sparse.{Sparse, Rows}
use Rattle.base.proofs.Commutes.{times_commutes}
use Rattle.base.proofs.Sums.{lt_or_ge, sum_none, sum_step, sum_cong, from_none, from_step, from_cong}
use Rattle.base.proofs.Fills.{build_length, build_at, build_cong, build_const, fillat_below, fillat_above, fillat_in, length_fillat, fill_step, fill_in, fill_past, fill_is, fill_build, length_fill, grid_step}
use Rattle.base.proofs.Rows.{fillat_wrote, filled_part, wrote_unique}
use Rattle.linear.specs.Product.{xw_at}
use Rattle.stored.proofs.StoredRows.{entry_term, zt_entries}
use Rattle.columns.specs.Weighted.{weighted_dot, weighted_side, entries_side, weighted_more, starting_at, Further}

-- ---- what one observation adds to several sums

-- one sum more: the others are still what they were
pub more_step : (w v : Float) (x : List Float) (o : ℕ) (s : List Float) (k : ℕ) (t : List Float) → t ≡ fill_to k (weighted_more w v x o s) s
    → set t k ((t ! k) ⊕ (v ⊗ ((x ! (o + k)) ⊗ w))) ≡ fill_to (k + 1) (weighted_more w v x o s) s
unfolding weighted_more
more_step w v x o s k t e =
    let f : ℕ → Float = weighted_more w v x o s in
    let here : t ! k ≡ s ! k = ap (λ (l : List Float). l ! k) e ∙ fill_past k f s k (omega arith) in
    ap (λ (y : Float). set t k (y ⊕ (v ⊗ ((x ! (o + k)) ⊗ w)))) here ∙ fill_step f s k t e

-- sums f become sums g, where each is what is added to it
sums_step : (f g : ℕ → Float) (count : ℕ) (w v : Float) (x : List Float) (o : ℕ) (s : List Float) → s ≡ build f count
    → ((k : ℕ) → f k ⊕ (v ⊗ ((x ! (o + k)) ⊗ w)) ≡ g k) → fill_to count (weighted_more w v x o s) s ≡ build g count
unfolding weighted_more
sums_step f g count w v x o s e h =
    fill_build count (weighted_more w v x o s) s (ap length e ∙ build_length f count)
    ∙ build_cong (weighted_more w v x o s) g count
    (λ k l. ap (λ (y : Float). y ⊕ (v ⊗ ((x ! (o + k)) ⊗ w))) (ap (λ (t : List Float). t ! k) e ∙ build_at f count k l) ∙ h k)

-- sums of +0.0 are those of nothing
sums_none : (f : ℕ → Float) (count : ℕ) (s : List Float) → s ≡ replicate count zero_f → ((k : ℕ) → zero_f ≡ f k) → s ≡ build f count
sums_none f count s e h = e ∙ sym (build_const zero_f count) ∙ build_cong (λ k. zero_f) f count (λ k l. h k)

-- ---- over the observations

-- the first i observations of v·(x_a·w), as the loop multiplies
unfoldable pub dot_to : List Float → ℕ → List Float → List Float → ℕ → ℕ → Float
dot_to x p w v i a = sum_to i (λ j. (v ! j) ⊗ xw_at x p w a j)

module _ (x : List Float) (p : ℕ) (w v : List Float) (b count : ℕ) where
  pub dots_none : (s : List Float) → s ≡ replicate count zero_f → s ≡ build (starting_at (dot_to x p w v 0) b) count
  unfolding starting_at dot_to
  dots_none s e = sums_none (starting_at (dot_to x p w v 0) b) count s e (λ k. sum_none (λ j. (v ! j) ⊗ xw_at x p w (b + k) j))

  pub dots_step : (i o c : ℕ) (s t : List Float) → o ≡ i * p → c ≡ o + b → s ≡ build (starting_at (dot_to x p w v i) b) count
      → t ≡ fill_to count (weighted_more (w ! i) (v ! i) x c s) s → t ≡ build (starting_at (dot_to x p w v (i + 1)) b) count
  unfolding starting_at dot_to
  dots_step i o c s t eo ec es et =
      et
      ∙ sums_step (starting_at (dot_to x p w v i) b) (starting_at (dot_to x p w v (i + 1)) b) count (w ! i) (v ! i) x c s es
      (λ k.
      let place : c + k ≡ i * p + (b + k) = omega arith in
      ap (λ (m : ℕ). dot_to x p w v i (b + k) ⊕ ((v ! i) ⊗ ((x ! m) ⊗ (w ! i)))) place
      ∙ sum_step (λ j. (v ! j) ⊗ xw_at x p w (b + k) j) i (dot_to x p w v i (b + k)) refl)

  pub dots_end : (n i : ℕ) (s : List Float) → i ≤ n → n ≤ i → s ≡ build (starting_at (dot_to x p w v i) b) count → s ≡ build (starting_at (weighted_dot x p n w v) b) count
  unfolding starting_at dot_to weighted_dot
  dots_end n i s l m e =
      let whole : i ≡ n = omega arith in
      e ∙ ap (λ (j : ℕ). build (starting_at (dot_to x p w v j) b) count) whole
      ∙ build_cong (starting_at (dot_to x p w v n) b) (starting_at (weighted_dot x p n w v) b) count
      (λ k g.
      sum_cong n (λ j. (v ! j) ⊗ xw_at x p w (b + k) j) (product_at (build (xw_at x p w (b + k)) n) v)
      (λ j h. times_commutes (v ! j) (xw_at x p w (b + k) j) ∙ ap (λ (y : Float). y ⊗ (v ! j)) (sym (build_at (xw_at x p w (b + k)) n j h))))

-- ---- over the stored entries of a row

module _ (columns : List ℕ) (values x : List Float) (p : ℕ) (w : List Float) (begin b count : ℕ) where
  pub entries_none : (s : List Float) → s ≡ replicate count zero_f → s ≡ build (starting_at (entries_side columns values x p w begin begin) b) count
  unfolding starting_at entries_side
  entries_none s e =
      sums_none (starting_at (entries_side columns values x p w begin begin) b) count s e (λ k. from_none begin (λ j. (values ! j) ⊗ xw_at x p w (b + k) (columns !! j)))

  pub entries_step : (k o c : ℕ) (s t : List Float) → begin ≤ k → o ≡ (columns !! k) * p → c ≡ o + b
      → s ≡ build (starting_at (entries_side columns values x p w begin k) b) count
      → t ≡ fill_to count (weighted_more (w ! (columns !! k)) (values ! k) x c s) s
      → t ≡ build (starting_at (entries_side columns values x p w begin (k + 1)) b) count
  unfolding starting_at entries_side
  entries_step k o c s t l eo ec es et =
      let i = columns !! k in
      et
      ∙ sums_step (starting_at (entries_side columns values x p w begin k) b) (starting_at (entries_side columns values x p w begin (k + 1)) b) count (w ! i) (values ! k) x c s es
      (λ j.
      let place : c + j ≡ i * p + (b + j) = omega arith in
      ap (λ (m : ℕ). entries_side columns values x p w begin k (b + j) ⊕ ((values ! k) ⊗ ((x ! m) ⊗ (w ! i)))) place
      ∙ from_step begin (λ t. (values ! t) ⊗ xw_at x p w (b + j) (columns !! t)) k (entries_side columns values x p w begin k (b + j)) l refl)

  pub entries_end : (end k : ℕ) (s : List Float) → k ≤ end → end ≤ k → s ≡ build (starting_at (entries_side columns values x p w begin k) b) count
      → s ≡ build (starting_at (entries_side columns values x p w begin end) b) count
  entries_end end k s l m e =
      let whole : k ≡ end = omega arith in
      e ∙ ap (λ (j : ℕ). build (starting_at (entries_side columns values x p w begin j) b) count) whole

-- a rising row's entries are what it stores
pub entries_row : (Z : Sparse) (rows n : ℕ) (x : List Float) (p : ℕ) (w : List Float) (g a : ℕ) → Rows Z.starts Z.columns Z.values rows n → g < rows
    → entries_side Z.columns Z.values x p w (Z.starts !! g) (Z.starts !! (g + 1)) a ≡ weighted_side Z x p n w g a
unfolding entries_side weighted_side
entries_row Z rows n x p w g a r l =
    from_cong (Z.starts !! g) (Z.starts !! (g + 1)) (λ k. (Z.values ! k) ⊗ xw_at x p w a (Z.columns !! k)) (entry_term Z (build (xw_at x p w a) n))
    (λ k h m. ap (λ (y : Float). (Z.values ! k) ⊗ y) (sym (build_at (xw_at x p w a) n (Z.columns !! k) ((r.each g l).below k h m))))
    ∙ zt_entries Z rows n (build (xw_at x p w a) n) g r l

-- ---- sums into their places

-- rules that agree on the n entries fill alike
fill_cong : (n : ℕ) (f g : ℕ → Float) (b : List Float) → ((i : ℕ) → i < n → f i ≡ g i) → fill_to n f b ≡ fill_to n g b
unfolding fill_to
fill_cong zero f g b h = refl
fill_cong (suc n) f g b h = rw (fill_cong n f g b (λ i l. h i (omega arith)), h n (omega arith)) refl

-- a part that was lent once and filled
part_filled : (b n e : ℕ) (f : ℕ → Float) (w ys : List Float) → e ≡ b + n → e ≤ length w → length ys ≡ length (mid_of b (e - b) w) → ys ≡ fill_to n f (mid_of b (e - b) w)
    → put_mid b (e - b) w ys ≡ fill_at b n f w
part_filled b n e f w ys eb h l y =
    wrote_unique b n (build f n) w (put_mid b (e - b) w ys) (fill_at b n f w) (omega arith) (filled_part b n e f w ys eb h l y)
    (fillat_wrote b n n f w (fill_at b n f w) refl (omega arith) (omega arith) (omega arith))

-- the sums copied into a part
pub sums_placed : (b n e : ℕ) (f : ℕ → Float) (s w ys : List Float) → e ≡ b + n → e ≤ length w → length ys ≡ length (mid_of b (e - b) w) → s ≡ build f n → ys ≡ fill_to n (entry_of s) (mid_of b (e - b) w)
    → put_mid b (e - b) w ys ≡ fill_at b n f w
sums_placed b n e f s w ys eb h l es y =
    part_filled b n e f w ys eb h l (y ∙ fill_cong n (entry_of s) f (mid_of b (e - b) w) (λ k m. ap (λ (t : List Float). t ! k) es ∙ build_at f n k m))

-- a row of sides more
pub sides_step : (Z : Sparse) (rows n : ℕ) (x : List Float) (p : ℕ) (w : List Float) (g o e : ℕ) (v out ys : List Float)
    → Rows Z.starts Z.columns Z.values rows n → g < rows → o ≡ g * p → e ≡ o + p → e ≤ length out → length ys ≡ length (mid_of o (e - o) out)
    → out ≡ grid_to g p (weighted_side Z x p n w) v
    → ys ≡ fill_to p (entries_side Z.columns Z.values x p w (Z.starts !! g) (Z.starts !! (g + 1))) (mid_of o (e - o) out)
    → put_mid o (e - o) out ys ≡ grid_to (g + 1) p (weighted_side Z x p n w) v
sides_step Z rows n x p w g o e v out ys r l eo ee h ly eout y =
    part_filled o p e (weighted_side Z x p n w g) out ys ee h ly (y ∙ fill_cong p _ (weighted_side Z x p n w g) (mid_of o (e - o) out) (λ a m. entries_row Z rows n x p w g a r l))
    ∙ ap (λ (j : ℕ). fill_at j p (weighted_side Z x p n w g) out) eo
    ∙ grid_step p (weighted_side Z x p n w) v g out eout

-- ---- several columns more: those that were written before are written again

module _ (f : ℕ → Float) (p b o count : ℕ) (v w : List Float) (from : o ≤ b) (to : b < o + count) (within : o + count ≤ p) (fits : p ≤ length v) (after : w ≡ fill_at o count (starting_at f o) v) where
  again_in : (i : ℕ) → o ≤ i → i < o + count → w ! i ≡ f i
  unfolding starting_at
  again_in i l m =
      let e : o + (i - o) ≡ i = omega arith in
      ap (λ (j : ℕ). w ! j) (sym e) ∙ ap (λ (y : List Float). y ! (o + (i - o))) after ∙ fillat_in o count (starting_at f o) v (omega arith) (i - o) (omega arith) ∙ ap f e

  module _ (u : List Float) (before : v ≡ fill_to b f u) where
    again_long : length v ≡ length u
    again_long = ap length before ∙ length_fill b f u

    again_done : (i : ℕ) → i < o + count → w ! i ≡ f i
    again_done i l = ⊎_elim earlier (λ (m : o ≤ i). again_in i m l) (lt_or_ge i o)
      where
        earlier : i < o → w ! i ≡ f i
        earlier m =
            ap (λ (y : List Float). y ! i) after ∙ fillat_below o count (starting_at f o) v i m ∙ ap (λ (y : List Float). y ! i) before
            ∙ fill_in b f u (omega (arith, again_long)) i (omega arith)

    again_rest : (i : ℕ) → o + count ≤ i → w ! i ≡ u ! i
    again_rest i l =
        ap (λ (y : List Float). y ! i) after ∙ fillat_above o count (starting_at f o) v i l ∙ ap (λ (y : List Float). y ! i) before ∙ fill_past b f u i (omega arith)

    again_filled : w ≡ fill_to (o + count) f u
    again_filled = fill_is (o + count) f u w (omega (arith, again_long)) (ap length after ∙ length_fillat o count (starting_at f o) v ∙ again_long) again_done again_rest

  pub columns_further : Further f p b (o + count) v w
  columns_further = record { behind = to; within = within; filled = again_filled }
