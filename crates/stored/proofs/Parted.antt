-- A cut parts a rising row: the columns that a cursor has passed lie below it, the others do not. Assumes nothing.
use mathlib.Core.Path.{◌≡◌}
use mathlib.Core.List.{List}
use mathlib.Core.Logic.{⊎_elim}
use mathlib.Core.Bool.{false}
use Prim.Native.Nat.{ℕ, ◌+◌, ◌<◌, ◌≤◌}
use native.Mathlib.Omega.{arith}
use Rattle.base.specs.Sum.{◌!!◌}
use Rattle.base.specs.Sparse.{Rising, stored_in}
use Rattle.base.proofs.Sums.{lt_or_ge}
use Rattle.base.proofs.SparseRows.{later_above, later_or_same, stored_none}

-- of the row from b to e, the entries before k have columns below the cut, the others have not
pub record Parted (columns : List ℕ) (b e k cut : ℕ) : Type 0 where
  pub start : b ≤ k
  pub order : k ≤ e
  pub before : (x : ℕ) → b ≤ x → x < k → columns !! x < cut
  pub after : (x : ℕ) → k ≤ x → x < e → cut ≤ columns !! x

module _ {columns : List ℕ} {n b e : ℕ} (r : Rising columns n b e) where
  pub parted_none : Parted columns b e b 0
  parted_none = record { start = omega arith; order = r.order; before = λ x l m. absurd (omega arith); after = λ x l m. omega arith }

  module _ {k cut : ℕ} (p : Parted columns b e k cut) where
    -- the cursor's entry is passed
    pub passed : k < e → Parted columns b e (k + 1) (columns !! k + 1)
    passed l =
        record {
          start = omega (arith, p.start);
          order = omega arith;
          before = λ x g m. let s : columns !! x ≤ columns !! k = later_or_same r x k g (omega arith) l in omega arith;
          after = λ x g m. let s : columns !! k < columns !! x = later_above r k x p.start (omega arith) m in omega arith;
        }

    -- the cut rises, and still none of the entries from the cursor on is below it
    pub raised : (c : ℕ) → cut ≤ c → k < e → c ≤ columns !! k → Parted columns b e k c
    raised c l m h =
        record {
          start = p.start;
          order = p.order;
          before = λ x g s. let q : columns !! x < cut = p.before x g s in omega arith;
          after = λ x g s. let q : columns !! k ≤ columns !! x = later_or_same r k x p.start g s in omega arith;
        }

    -- between the cut and the cursor's column the row stores nothing
    pub between : (i : ℕ) → cut ≤ i → (k < e → i < columns !! k) → stored_in columns b e i ≡ false
    between i l h =
        stored_none r i
        (λ x g m z. ⊎_elim
        (λ (s : x < k). let q : columns !! x < cut = p.before x g s in omega arith)
        (λ (s : k ≤ x). let q : columns !! k ≤ columns !! x = later_or_same r k x p.start s m in let u : i < columns !! k = h (omega arith) in omega arith)
        (lt_or_ge x k))
