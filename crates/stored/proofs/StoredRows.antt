-- Laws of products with Z': a sum over what a row stores, as the loop over its entries has it. Assumes nothing.
use mathlib.Core.Path.{◌≡◌, sym, ap, ◌∙◌}
use mathlib.Core.List.{List}
use Prim.Native.Nat.{ℕ, ◌+◌, ◌<◌}
use lib.Ieee.{Float}
use Rattle.base.specs.Number.{◌⊗◌}
use Rattle.base.specs.Sum.{◌!◌, ◌!!◌, sum_from}
use Rattle.base.specs.Sparse.{Sparse, Rows}
use Rattle.base.proofs.Sums.{from_cong}
use Rattle.base.proofs.SparseRows.{row_sum_lem, value_entry}
use Rattle.stored.specs.Stored.{stored_term, zt_times_at}

-- what entry k of Z' adds: its value times v at its column
abbrev pub entry_term : Sparse → List Float → ℕ → Float
entry_term Z v k = (Z.values ! k) ⊗ (v ! (Z.columns !! k))

pub zt_entries : (Z : Sparse) (rows n : ℕ) (v : List Float) (a : ℕ) → Rows Z.starts Z.columns Z.values rows n → a < rows
    → sum_from (Z.starts !! a) (Z.starts !! (a + 1)) (entry_term Z v) ≡ zt_times_at Z n v a
unfolding zt_times_at stored_term
zt_entries Z rows n v a r l =
    from_cong (Z.starts !! a) (Z.starts !! (a + 1)) _ _ (λ k p q. ap (λ (x : Float). x ⊗ (v ! (Z.columns !! k))) (sym (value_entry Z rows n a r l k p q)))
    ∙ sym (row_sum_lem Z rows n a r l (stored_term Z v a))
