-- The row that holds the predictor, by which of the two it is. Assumes nothing.
use mathlib.Core.Path.{◌≡◌, refl, ◌∙◌}
use mathlib.Core.List.{List}
use mathlib.Core.Bool.{Bool, true, false}
use Prim.Native.Nat.{ℕ, ◌+◌, ◌-◌, ◌≤◌}
use native.Mathlib.Omega.{arith}
use lib.ListN.{length, take, drop}
use lib.Ieee.{Float}
use Rattle.base.specs.Rows.{row}
use Rattle.base.proofs.Rows.{part_is, front_is, row_length, row_whole}
use Rattle.layout.specs.WorkRows.{second_eta_row, mu_row, raw_row, rows_length}
use Rattle.family.specs.declared.carried.CarriedLink.{CarriedLink}
use Rattle.working.specs.Met.{Met}
use Rattle.stages.specs.Held.{held_in, eta_row, Held}

-- the part of the first row
pub held_first : (n : ℕ) (first second : List Float) → n ≤ length first → Held n false first second (take (n - 0) (drop 0 first))
unfolding held_in
held_first n first second h = rw (front_is n first) (record { is = refl; long = row_length 0 n first (omega arith) })

-- the part of the second
pub held_second : (n : ℕ) (first second : List Float) → n ≤ length second → Held n true first second (take (n - 0) (drop 0 second))
unfolding held_in
held_second n first second h = rw (front_is n second) (record { is = refl; long = row_length 0 n second (omega arith) })

-- which row of the work slice it is
pub held_row : (n : ℕ) (inSecond : Bool) (r : List Float) → n + n ≤ length r → row 0 n (held_in inSecond (row 0 n r) (row n n r)) ≡ row (eta_row n inSecond) n r
unfolding held_in eta_row
held_row n true r h = row_whole n (row n n r) (row_length n n r h)
held_row n false r h = row_whole n (row 0 n r) (row_length 0 n r (omega arith))

-- the predictor and the means, as they are lent
module _ (n : ℕ) (inSecond : Bool) (second mu raw : ℕ) (eta r : List Float) (es : second ≡ second_eta_row n) (em : mu ≡ mu_row n) (ea : raw ≡ raw_row n) (long : rows_length n ≤ length r) where
  pub mean_part : take (raw - mu) (drop mu r) ≡ row (mu_row n) n r
  mean_part = part_is mu n raw r (omega arith) ∙ rw em refl

  module _ (held : Held n inSecond (take (second - 0) (drop 0 r)) (take (mu - second) (drop second r)) eta) where
    pub eta_part : eta ≡ row (eta_row n inSecond) n r
    eta_part =
        let first_part : take (second - 0) (drop 0 r) ≡ row 0 n r = part_is 0 n second r (omega arith) in
        let second_part : take (mu - second) (drop second r) ≡ row n n r = part_is second n mu r (omega arith) ∙ rw es refl in
        (rw (first_part, second_part) at held.is) ∙ held_row n inSecond r (omega arith)

    -- they belong together where their rows do
    pub parts_met : (link : CarriedLink) → Met link n (row (eta_row n inSecond) n r) (row (mu_row n) n r) → Met link n eta (take (raw - mu) (drop mu r))
    parts_met link h = rw (eta_part, mean_part) h
