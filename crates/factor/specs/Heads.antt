-- Where a sum may begin: behind the zeros at its head, while what they are multiplied by is finite. Assumes nothing.
use Rattle.std.specs.Prelude.{◌≡◌, List, Bool, true, false, ◌&&◌, cond, ℕ, ◌+◌, ◌*◌, ◌≤◌, ◌<◌, eqb, Float}
use Rattle.std.specs.Float.Ieee.{eq}
use Rattle.base.specs.Number.{zero_f, finite}
use Rattle.base.specs.List.{at}
use Rattle.factor.specs.Triangle.{row_by}
use Rattle.factor.specs.Factor.{ldl_rule}

-- r is the first index from a on below e whose term is not a zero of either sign, or e where there is none
pub record FirstOther (a e : ℕ) (f : ℕ → Float) (r : ℕ) : Type 0 where
  pub from : a ≤ r
  pub to : r ≤ e
  pub zeros : (k : ℕ) → a ≤ k → k < r → eq (f k) zero_f ≡ true
  pub stops : r < e → eq (f r) zero_f ≡ false

-- the terms from a on below r are zeros of either sign
abbrev pub Zeros : ℕ → ℕ → (ℕ → Float) → Type 0
Zeros a r f = (k : ℕ) → a ≤ k → k < r → eq (f k) zero_f ≡ true

-- r is where a sum from a on below e begins: behind the zeros at its head where that is allowed, else at a
pub record Head (allowed : Bool) (a e : ℕ) (f : ℕ → Float) (r : ℕ) : Type 0 where
  pub behind : allowed ≡ true → FirstOther a e f r
  pub whole : allowed ≡ false → r ≡ a

-- ---- in a row of L

-- the rows of X before row i are finite up to their diagonals
abbrev pub FineRows : ℕ → List Float → ℕ → Type 0
FineRows s X i = (a k : ℕ) → a < i → k ≤ a → finite (at s X a k) ≡ true

-- the entries of row i of X before r are zeros of either sign, and there are none where that is not allowed
abbrev pub ZeroHead : Bool → ℕ → ℕ → List Float → ℕ → Type 0
ZeroHead allowed s i X r = (k : ℕ) → k < r → (allowed ≡ true) × (eq (at s X i k) zero_f ≡ true)

-- where the sums of a row begin once its entry j is l: behind it where it is a zero and those before it are
unfoldable pub next_head : Bool → ℕ → ℕ → Float → ℕ
next_head allowed head j l = cond (allowed && (eqb head j && eq l zero_f)) (j + 1) head

-- what `ldl_row` leaves in b and answers: row i up to its diagonal, and where its later sums may begin
pub record RowLeaves (s : ℕ) (A b : List Float) (i : ℕ) (allowed : Bool) (r : ℕ) (X : List Float) : Type 0 where
  pub list : X ≡ row_by (ldl_rule s A) (i * s) i b
  pub within : r ≤ i
  pub zeros : ZeroHead allowed s i X r
