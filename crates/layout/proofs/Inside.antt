-- A piece that is lent ends within a work slice of the named length, wherever its place came from. Assumes nothing.
use mathlib.Core.Path.{◌≡◌}
use mathlib.Core.List.{List}
use Prim.Native.Nat.{ℕ, ◌+◌, ◌*◌, ◌≤◌}
use native.Mathlib.Nat.{mul_comm}
use native.Mathlib.Omega.{arith}
use lib.ListN.{length}
use lib.Ieee.{Float}
use Rattle.model.specs.Settings.{Sizes}
use Rattle.layout.specs.WorkRows.{first_eta_row, mu_row, raw_row, xbeta_row, deviance_row, mark_row, rows_length}
use Rattle.layout.specs.WorkMatrices.{system_place, inverse_place, solved_place, root_inverse_place, wy_place, u_place, trial_u_place, beta_place, matrices_length}
use Rattle.layout.specs.WorkTerms.{factor_place, w_place, z_place, unsolved_place, spare_place, terms_length}
use Rattle.layout.proofs.Bounds.{products}

module _ {n p q : ℕ} (sizes : Sizes n p q) {k : ℕ} (w : List Float) where
  pub first_eta_in : k ≡ first_eta_row → rows_length n ≤ length w → k + n ≤ length w
  first_eta_in e h = omega arith

  pub mu_in : k ≡ mu_row n → rows_length n ≤ length w → k + n ≤ length w
  mu_in e h = omega arith

  pub raw_in : k ≡ raw_row n → rows_length n ≤ length w → k + n ≤ length w
  raw_in e h = omega arith

  pub xbeta_in : k ≡ xbeta_row n → rows_length n ≤ length w → k + n ≤ length w
  xbeta_in e h = omega arith

  pub deviance_in : k ≡ deviance_row n → rows_length n ≤ length w → k + n ≤ length w
  deviance_in e h = omega arith

  pub mark_in : k ≡ mark_row n → rows_length n ≤ length w → k + n ≤ length w
  mark_in e h = omega arith

  pub system_in : k ≡ system_place → matrices_length p q ≤ length w → k + q * q ≤ length w
  system_in e h = omega (arith, products sizes)

  pub inverse_in : k ≡ inverse_place q → matrices_length p q ≤ length w → k + q * q ≤ length w
  inverse_in e h = omega (arith, products sizes)

  pub solved_in : k ≡ solved_place q → matrices_length p q ≤ length w → k + p * q ≤ length w
  solved_in e h = omega (arith, products sizes, mul_comm p q)

  pub root_inverse_in : k ≡ root_inverse_place p q → matrices_length p q ≤ length w → k + p * p ≤ length w
  root_inverse_in e h = omega (arith, products sizes)

  pub wy_in : k ≡ wy_place p q → matrices_length p q ≤ length w → k + q ≤ length w
  wy_in e h = omega (arith, products sizes)

  pub u_in : k ≡ u_place p q → matrices_length p q ≤ length w → k + q ≤ length w
  u_in e h = omega (arith, products sizes)

  pub trial_u_in : k ≡ trial_u_place p q → matrices_length p q ≤ length w → k + q ≤ length w
  trial_u_in e h = omega (arith, products sizes)

  pub beta_in : k ≡ beta_place p q → matrices_length p q ≤ length w → k + p ≤ length w
  beta_in e h = omega (arith, products sizes)

  pub factor_in : k ≡ factor_place → terms_length ≤ length w → k + q * q ≤ length w
  factor_in e h = omega (arith, products sizes)

  pub w_in : k ≡ w_place q → terms_length ≤ length w → k + n ≤ length w
  w_in e h = omega (arith, products sizes)

  pub z_in : k ≡ z_place n q → terms_length ≤ length w → k + n ≤ length w
  z_in e h = omega (arith, products sizes)

  pub unsolved_in : k ≡ unsolved_place n q → terms_length ≤ length w → k + q * p ≤ length w
  unsolved_in e h = omega (arith, products sizes)

  pub spare_in : k ≡ spare_place n p q → terms_length ≤ length w → k + q ≤ length w
  spare_in e h = omega (arith, products sizes)

-- places and what stands there are small numbers
module _ {n p q : ℕ} (sizes : Sizes n p q) {k : ℕ} where
  pub row_few : k ≤ 10 * n → k + n ≤ 8192
  row_few h = omega arith

  pub beta_few : k ≡ beta_place p q → k + p ≤ 5696
  beta_few e = omega (arith, products sizes)
