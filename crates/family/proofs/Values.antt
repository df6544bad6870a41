-- Values by computation: the sqrt link of -0.0, the cases that document 01 has run, Gamma's and probit's. Assumes nothing.
use mathlib.Core.Path.{◌≡◌, refl}
use lib.Ieee.{nan, neg, add, sub, mul, div, lt, le, eq, is_nan, of_bits, to_bits, of_int}
use Rattle.base.specs.Number.{bits, zero_f, one_f, half_f, two_f, eps_f, abs_f, max_f, clamp_f}
use Rattle.root.specs.Sqrt.{with_digit, units_of, place_of, root_of, nearest_from, sqrt_of}
use Rattle.tabulated.specs.ExpTable.{exp_table, exp_row}
use Rattle.tabulated.specs.LogTable.{log_table, log_row}
use Rattle.elementary.specs.Exp.{reduced, row_tail, scale_bits, excess, scaled, refitted, fitted, small, edge, ended, above_zero, exp_two}
use Rattle.elementary.specs.LogPoly.{near_poly, near_sum, near_of, ln_sum}
use Rattle.elementary.specs.Log.{near_one, ln_near, ln_row, ln_main, ln_far, ln_of}
use Rattle.log_gamma.proofs.LogGammaFacts.{at_two}
use Rattle.normal.specs.Tail.{on_grid, half_square, half_rest, inner_part, outer_part, far_part, tail_by, tail_far, upper_tail}
use Rattle.normal.specs.Normal.{density_of}
use Rattle.normal.specs.Quantile.{near_part, distant_part, guess_by, guess_of, upper_quantile, inside_of, norm_quantile}
use Rattle.normal.proofs.NormalFacts.{cdf_zeros, pdf_zeros}
use Rattle.normal.proofs.QuantileFacts.{at_half}
use Rattle.family.specs.Link.{clamp_e, link_fun, link_inv, mu_eta}
use Rattle.family.specs.Family.{gamma_term, dev_resid, initialize_mu, trials_mean, has_density, ln_dgamma}
use Rattle.family.specs.declared.carried.CarriedLink.TheVariants.{Probit, Inverse, Sqrt}
use Rattle.family.specs.declared.carried.CarriedFamily.TheVariants.{Binomial, Gamma}

-- the sqrt link of -0.0 is +0.0
pub sqrt_link_of_minus_zero : link_fun Sqrt (neg zero_f) ≡ zero_f
unfolding link_fun max_f sqrt_of lt is_nan neg of_bits
sqrt_link_of_minus_zero = refl

-- binomial start 0 → 0.25
pub binomial_start_of_zero : initialize_mu Binomial zero_f ≡ bits 0x3fd0_0000_0000_0000
unfolding initialize_mu add div of_bits
binomial_start_of_zero = refl

-- with no trial the start is 0.5 whatever the response, with 4 trials and the share 0.25 it is 1.5 / 5
pub trials_starts : (trials_mean zero_f zero_f ≡ half_f) × (trials_mean zero_f one_f ≡ half_f) × (trials_mean (bits 0x4010_0000_0000_0000) (bits 0x3fd0_0000_0000_0000) ≡ bits 0x3fd3_3333_3333_3333)
unfolding trials_mean add mul div of_bits
trials_starts = (refl, refl, refl)

-- inverse `mu_eta` at 2 → -0.25
pub inverse_slope_at_two : mu_eta Inverse two_f ≡ bits 0xbfd0_0000_0000_0000
unfolding mu_eta max_f lt is_nan neg mul div of_bits
inverse_slope_at_two = refl

-- sqrt `mu_eta` at -1 → E
pub sqrt_slope_at_minus_one : mu_eta Sqrt (neg one_f) ≡ eps_f
unfolding mu_eta max_f lt is_nan neg mul of_bits
sqrt_slope_at_minus_one = refl

-- ---- Gamma
-- the start of a response 0, and of a NaN, is E
pub gamma_start_of_zero : (initialize_mu Gamma zero_f ≡ eps_f) × (initialize_mu Gamma nan ≡ eps_f)
unfolding initialize_mu max_f lt is_nan of_bits
gamma_start_of_zero = (refl, refl)

-- the deviance of 2 with mean 1 and weight 1 is 2 (1 - ln 2)
pub gamma_deviance_of_two : dev_resid Gamma two_f one_f one_f ≡ bits 0x3fe3_a37a_020b_8c22
unfolding dev_resid gamma_term max_f ln_of ln_far ln_main ln_row ln_near near_one ln_sum near_of near_sum near_poly log_table log_row neg add sub mul div lt le eq is_nan of_bits to_bits of_int
gamma_deviance_of_two = refl

-- that of a NaN is a number, 70.0873..: it counts as E
pub gamma_deviance_of_nan : dev_resid Gamma nan one_f one_f ≡ bits 0x4051_8596_6f2b_4f12
unfolding dev_resid gamma_term max_f ln_of ln_far ln_main ln_row ln_near near_one ln_sum near_of near_sum near_poly log_table log_row neg add sub mul div lt le eq is_nan of_bits to_bits of_int
gamma_deviance_of_nan = refl

-- of two NaNs it is 0
pub gamma_deviance_of_nans : dev_resid Gamma nan nan one_f ≡ zero_f
unfolding dev_resid gamma_term max_f ln_of ln_near near_one neg add sub mul div lt le eq is_nan of_bits
gamma_deviance_of_nans = refl

-- the log density at 2 with shape 2 and scale 1 is ln 2 - 2
pub gamma_density_of_two : ln_dgamma two_f two_f one_f ≡ bits 0xbff4_e8de_8082_e308
unfolding ln_dgamma has_density ln_of ln_far ln_main ln_row ln_near near_one ln_sum near_of near_sum near_poly log_table log_row neg add sub mul div lt le eq of_bits to_bits of_int
gamma_density_of_two = rw at_two

-- ---- probit
-- the predictor of 1/2 is 0, its mean 1/2 and the derivative there the density at 0
pub probit_at_half : (link_fun Probit half_f ≡ zero_f) × (link_inv Probit zero_f ≡ half_f) × (mu_eta Probit zero_f ≡ bits 0x3fd9_8845_33d4_3651)
unfolding link_fun link_inv mu_eta clamp_e clamp_f max_f lt is_nan sub add neg of_bits
probit_at_half = (rw at_half, rw cdf_zeros.0, rw pdf_zeros.0)

-- the predictor of a mean at or past E and 1 - E: -8.1258.. and 8.1258.., mirrored bit for bit
pub probit_link_at_ends : (link_fun Probit zero_f ≡ bits 0xc020_4074_bdbf_8864) × (link_fun Probit one_f ≡ bits 0x4020_4074_bdbf_8864)
unfolding link_fun clamp_e clamp_f norm_quantile inside_of upper_quantile guess_of guess_by near_part distant_part sqrt_of root_of place_of units_of nearest_from with_digit ln_of ln_far ln_main ln_row near_one ln_sum near_of near_sum near_poly log_table log_row upper_tail tail_far tail_by far_part inner_part outer_part on_grid half_square half_rest density_of exp_two above_zero ended edge small fitted refitted scaled excess scale_bits row_tail reduced exp_table exp_row abs_f to_bits of_int is_nan add sub mul div lt le eq neg of_bits
probit_link_at_ends = (refl, refl)
