-- That the layout is sound: the pieces of each work slice follow each other, and the last ends within the length that document 01 names, "Numbers of an answer", number 7. Assumes nothing.
use Rattle.std.specs.Prelude.{List, ℕ, ◌+◌, ◌*◌, ◌≤◌, length, Float}
use Rattle.model.specs.Settings.{Sizes}
use Rattle.layout.specs.WorkRows.{first_eta_row, second_eta_row, mu_row, raw_row, xbeta_row, deviance_row, point_row, mark_row, weighted_row, working_row, rows_length}
use Rattle.layout.specs.WorkMatrices.{system_place, inverse_place, solved_place, root_inverse_place, wy_place, u_place, b_place, trial_u_place, trial_b_place, point_place, beta_place, beta_end, matrices_length}
use Rattle.layout.specs.WorkTerms.{factor_place, w_place, z_place, unsolved_place, normal_place, spare_place, terms_length}

-- each row ends where the next begins or before
pub record RowsLaid (n : ℕ) : Type 0 where
  pub first_eta : first_eta_row + n ≤ second_eta_row n
  pub second_eta : second_eta_row n + n ≤ mu_row n
  pub mu : mu_row n + n ≤ raw_row n
  pub raw : raw_row n + n ≤ xbeta_row n
  pub xbeta : xbeta_row n + n ≤ deviance_row n
  pub deviance : deviance_row n + n ≤ point_row n
  pub point : point_row n + n ≤ mark_row n
  pub mark : mark_row n + n ≤ weighted_row n
  pub weighted : weighted_row n + n ≤ working_row n
  pub working : working_row n + n ≤ rows_length n
  pub length_few : rows_length n ≤ 8192

-- each piece of the matrices ends where the next begins or before
pub record MatricesLaid (p q : ℕ) : Type 0 where
  pub system : system_place + q * q ≤ inverse_place q
  pub inverse : inverse_place q + q * q ≤ solved_place q
  pub solved : solved_place q + q * p ≤ root_inverse_place p q
  pub root_inverse : root_inverse_place p q + p * p ≤ wy_place p q
  pub wy : wy_place p q + q ≤ u_place p q
  pub u : u_place p q + q ≤ b_place p q
  pub b : b_place p q + q ≤ trial_u_place p q
  pub trial_u : trial_u_place p q + q ≤ trial_b_place p q
  pub trial_b : trial_b_place p q + q ≤ point_place p q
  pub point : point_place p q + q ≤ beta_place p q
  pub beta : beta_place p q + p ≤ beta_end p q
  pub beta_end_lem : beta_end p q ≤ matrices_length p q
  pub length_few : matrices_length p q ≤ 5696

-- each piece of the terms before quadrature ends where the next begins or before
pub record TermsLaid (n p q : ℕ) : Type 0 where
  pub factor : factor_place + q * q ≤ w_place q
  pub w : w_place q + n ≤ z_place n q
  pub z : z_place n q + n ≤ unsolved_place n q
  pub unsolved : unsolved_place n q + q * p ≤ normal_place n p q
  pub normal : normal_place n p q + p * p ≤ spare_place n p q
  pub spare : spare_place n p q + q ≤ terms_length

-- the three work slices
pub record LaidOut (n p q : ℕ) : Type 0 where
  pub rows : RowsLaid n
  pub matrices : MatricesLaid p q
  pub terms : TermsLaid n p q

-- sizes in range, and work slices as long as number 7 asks
pub record WorkRoom (n p q : ℕ) (rows matrices terms : List Float) : Type 0 where
  pub sizes : Sizes n p q
  pub rows_long : rows_length n ≤ length rows
  pub matrices_long : matrices_length p q ≤ length matrices
  pub terms_long : terms_length ≤ length terms
