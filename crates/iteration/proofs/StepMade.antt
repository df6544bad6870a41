-- The tries where the layout has what they look at: the rows lie apart, whichever of the two holds the predictor. Assumes nothing.
use Rattle.model.specs.declared.counts.Account.{Account}
use Rattle.std.specs.Prelude.{Result}
use mathlib.Core.Path.{◌≡◌}
use mathlib.Core.List.{List}
use mathlib.Core.Bool.{Bool, true, false, not}
use mathlib.Core.Logic.{inl, inr}
use Prim.Native.Nat.{ℕ, ◌-◌, ◌≤◌}
use native.Mathlib.Omega.{arith}
use lib.ListN.{length, take, drop}
use lib.Ieee.{Float}
use Rattle.base.specs.Rows.{row}
use Rattle.base.proofs.Rows.{part_is, row_length}
use Rattle.family.specs.declared.carried.CarriedLink.{CarriedLink}
use Rattle.layout.specs.Layout.{WorkRoom}
use Rattle.layout.specs.WorkRows.{mu_row, raw_row, rows_length}
use Rattle.layout.specs.WorkMatrices.{u_place, b_place}
use Rattle.layout.specs.WorkTerms.{w_place, z_place, unsolved_place}
use Rattle.layout.proofs.Inside.{u_in, w_in, z_in}
use Rattle.stages.specs.Held.{eta_row}
use Rattle.tries.specs.Told.{Room, trial_in, TriesDone}

rows_room : (n q : ℕ) (second : Bool) (u w z r : List Float) → rows_length n ≤ length r → q ≤ length u → n ≤ length w → n ≤ length z → Room n q (eta_row n second) (eta_row n (not second)) (raw_row n) (mu_row n) u w z r
unfolding eta_row
rows_room n q false u w z r h hu hw hz =
    record {
      prev_in = omega arith;
      next_in = omega arith;
      raw_in = omega arith;
      mu_in = omega arith;
      prev_next = inl (omega arith);
      raw_next = inr (omega arith);
      prev_mu = inl (omega arith);
      raw_mu = inr (omega arith);
      next_mu = inl (omega arith);
      u_long = hu;
      w_long = hw;
      z_long = hz;
    }
rows_room n q true u w z r h hu hw hz =
    record {
      prev_in = omega arith;
      next_in = omega arith;
      raw_in = omega arith;
      mu_in = omega arith;
      prev_next = inr (omega arith);
      raw_next = inr (omega arith);
      prev_mu = inl (omega arith);
      raw_mu = inr (omega arith);
      next_mu = inl (omega arith);
      u_long = hu;
      w_long = hw;
      z_long = hz;
    }

module _ (n p q : ℕ) (second : Bool) (prev next raw mu u b w z unsolved : ℕ) (r m t : List Float) (lent : WorkRoom n p q r m t) (e1 : prev ≡ eta_row n second) (e2 : next ≡ eta_row n (not second)) (e3 : raw ≡ raw_row n)
    (e4 : mu ≡ mu_row n) (e5 : u ≡ u_place p q) (e6 : b ≡ b_place p q) (e7 : w ≡ w_place q) (e8 : z ≡ z_place n q) (e9 : unsolved ≡ unsolved_place n q) where
  u_part : take (b - u) (drop u m) ≡ row u q m
  u_part = part_is u q b m (omega arith)

  w_part : take (z - w) (drop w t) ≡ row w n t
  w_part = part_is w n z t (omega arith)

  z_part : take (unsolved - z) (drop z t) ≡ row z n t
  z_part = part_is z n unsolved t (omega arith)

  pub step_room : Room n q prev next raw mu (take (b - u) (drop u m)) (take (z - w) (drop w t)) (take (unsolved - z) (drop z t)) r
  step_room =
      rw (e1, e2, e3, e4, u_part, w_part, z_part)
      (rows_room n q second (row u q m) (row w n t) (row z n t) r lent.rows_long (omega (arith, row_length u q m (u_in lent.sizes m e5 lent.matrices_long))) (omega (arith, row_length w n t (w_in lent.sizes t e7 lent.terms_long))) (omega (arith, row_length z n t (z_in lent.sizes t e8 lent.terms_long))))

  pub stepped : (link : CarriedLink) (r' : List Float) (a : Result (Float × Account) Account)
      → TriesDone (trial_in link n q prev raw (take (b - u) (drop u m)) (take (z - w) (drop w t)) (take (unsolved - z) (drop z t)) r) next mu r r' a
      → TriesDone (trial_in link n q (eta_row n second) (raw_row n) (row (u_place p q) q m) (row (w_place q) n t) (row (z_place n q) n t) r) (eta_row n (not second)) (mu_row n) r r' a
  stepped link r' a d =
      let d' : TriesDone (trial_in link n q prev raw (row u q m) (row w n t) (row z n t) r) next mu r r' a = rw (u_part, w_part, z_part) at d in
      rw (e1, e2, e3, e4, e5, e7, e8) at d'
