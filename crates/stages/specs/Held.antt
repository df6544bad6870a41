-- The row that holds the predictor. Document 01, "The inner fit": the predictor stands in one of two lent work rows, and the fit is handed the row that holds the accepted one. Assumes nothing.
use Rattle.std.specs.Prelude.{◌≡◌, List, Bool, cond, ℕ, length, Float}
use Rattle.base.specs.Rows.{row}
use Rattle.layout.specs.WorkRows.{first_eta_row, second_eta_row}

-- whichever of two rows holds the predictor
unfoldable pub held_in : Bool → List Float → List Float → List Float
held_in inSecond first second = cond inSecond second first

-- where that row begins in the work slice
unfoldable pub eta_row : ℕ → Bool → ℕ
eta_row n inSecond = cond inSecond (second_eta_row n) first_eta_row

-- out is the first n numbers of the row that holds it
pub record Held (n : ℕ) (inSecond : Bool) (first second out : List Float) : Type 0 where
  pub is : out ≡ row 0 n (held_in inSecond first second)
  pub long : length out ≡ n
