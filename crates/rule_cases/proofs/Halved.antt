-- Poisson, log: steps are halved 18 times for a mean, and the fit goes on. Made by tools/cases/rule.py; the right side is the oracle's answer. Assumes nothing.
use mathlib.Core.Path.{◌≡◌, refl}
use mathlib.Core.List.{[], ◌∷◌}
use lib.Ieee.{add, sub, mul, div, neg, lt, le, eq, ne, is_nan, of_bits, to_bits, of_int, to_unsigned, round}
use Rattle.base.specs.Number.{bits}
use Rattle.base.specs.InPlace.{ruled, fill_by, fill_down}
use Rattle.base.specs.List.{build, matrix, fill_to, fill_at, grid_to}
use Rattle.base.specs.Number.{finite, infinite, negative, abs_f, max_f, clamp_f}
use Rattle.base.specs.Rows.{row}
use Rattle.base.specs.Sparse.{not_falling, good_starts, column_fits, good_columns, good_row, good_rows, stored_in, find_to, place_in, stored, value_at, row_sum, both_sum}
use Rattle.base.specs.Sum.{sum_to, sum_from, add_where, sum_where, all_to, any_to}
use Rattle.root.specs.Sqrt.{with_digit, nearest_from, place_of, root_of, units_of, sqrt_of}
use Rattle.tabulated.specs.ExpTable.{exp_table, exp_row}
use Rattle.tabulated.specs.LogTable.{log_table, log_row}
use Rattle.elementary.specs.Exp.{reduced, row_tail, scale_bits, excess, scaled, large, refitted, fitted, small, edge, ended, exp_main, above_zero, exp_two, exp_far, exp_of}
use Rattle.elementary.specs.Expm1.{quotient_of, rest_of, scaled_of, up_of, down_of, grown_of, shrunk_of, grown_by, shrunk_by, rising_of, falling_of, expm1_main, above_minus_one, expm1_of}
use Rattle.elementary.specs.Log.{near_one, ln_near, ln_row, ln_main, ln_far, ln_of}
use Rattle.elementary.specs.Log1p.{tail_of, lost_of, split_of, far_of, ln1p_main, ln1p_of}
use Rattle.elementary.specs.LogPoly.{near_poly, near_sum, near_of, ln_sum}
use Rattle.elementary.specs.Parts.{whole_of, power_of, inverse_power_of}
use Rattle.log_gamma.specs.LogGamma.{next_of, below_two, product_of, lowered_of, below_eight, series_of, stirling_by, stirling_of, ln_gamma_of}
use Rattle.log_gamma.specs.Near.{about_two, about_least, about_one, below_three}
use Rattle.normal.specs.Normal.{density_of, norm_pdf, from_zero_to_one, norm_cdf}
use Rattle.normal.specs.Quantile.{central_of, near_part, distant_part, guess_by, guess_of, upper_quantile, inside_of, norm_quantile}
use Rattle.normal.specs.Tail.{on_grid, half_square, half_rest, root_rest, erf_rest, taken_from, tail_near, erfc_near_one, tail_middle, inner_part, outer_part, far_part, tail_by, tail_far, upper_tail}
use Rattle.model.specs.Account.{◌⊞◌}
use Rattle.model.specs.Answer.{refused_answer, unfitted_answer, fitted_answer}
use Rattle.model.specs.Caps.{tries_cap, points_cap, inner_cap_of}
use Rattle.model.specs.Items.{count_of, tally}
use Rattle.model.specs.Names.{family_coded, link_coded, start_coded, limit_of}
use Rattle.model.specs.Settings.{good_limit, good_sizes}
use Rattle.model.specs.Shape.{total_to, block_effects, block_thetas, good_block, good_shape}
use Rattle.family.specs.Carried.{links_for, among, valid_for}
use Rattle.family.specs.Family.{variance_of, success_term, binomial_term, poisson_term, gamma_term, proportion, in_range, dev_resid, initialize_mu, trials_mean, has_density, ln_dgamma}
use Rattle.family.specs.Link.{clamp_e, link_fun, logistic, link_inv, cloglog_slope, mu_eta}
use Rattle.family_lists.specs.Aic.{log_weights, gaussian_term, gaussian_aic, density_at, density_term, gamma_aic, aic_of, aic_answer}
use Rattle.family_lists.specs.Lists.{each, weight_sum, lengths_agree, dev_resid_at}
use Rattle.factor.specs.Factor.{ldl_term, ldl_sum, ldl_pivot, ldl_below, ldl_rule, ldl_of, ldl_passes, ldl_end, cholesky_pivot, cholesky_below, cholesky_rule, cholesky_of, cholesky_passes, cholesky_end}
use Rattle.factor.specs.Inverse.{unit_at, unit_column, ldl_column, ldl_inverse_at, ldl_column_at, ldl_inverse, cholesky_column, cholesky_column_at, cholesky_inverse, v_at}
use Rattle.factor.specs.Substitution.{across_term, down_term, unit_forward_rule, unit_backward_rule, over_d_rule, forward_rule, backward_rule, unit_forward, over_d, unit_backward, forward, backward, ldl_solve, cholesky_solve}
use Rattle.factor.specs.Transpose.{turned_at, swapped, row_turned, square_turned}
use Rattle.factor.specs.Triangle.{rows_dot, triangle, row_by, usable, positive, and_then, first_bad, reach}
use Rattle.lambda.specs.Column.{block_of, column_start, column_in, column_of, is_entry, lambda_at, lambda_full}
use Rattle.lambda.specs.Product.{across_row, down_column, times_term, lambda_times_at, transposed_term, lambda_transposed_at, right_term, right_at, left_term, system_at, column_added_at}
use Rattle.linear.specs.Product.{effect_at, normal_at}
use Rattle.stored.specs.Stored.{stored_term, zt_times_at, weighted_term, ztwz_at, effect_term, z_times_at, added_at}
use Rattle.rule.specs.Given.{absent, plus_offset, less_offset}
use Rattle.rule.specs.Results.{v_from, v_of, se_at, se_of, z_value_at, z_values, residual_at, residuals_of}
use Rattle.rule.specs.Run.{items_before, failed_after, after_stop, moved, after_search, after_solve, run_from, start_mean, start_mean_at, start_means, start_eta_at, start_eta, start_at, run_of}
use Rattle.rule.specs.Solve.{ztwz_of, right_columns, system_of, factor_of, zt_times, side_of, wy_of, unsolved_column, solved_column, solved_column_at, solved_columns, normal_entry, normal_of, normal_side_at, normal_side, beta_of, effects_after, b_of, z_times, raw_at, raw_of, reduced_of, found_with, found_beta, found, after_root, solve_root, solve_normal, solve_reduced, after_factor, solve_factor, solve_system, solve_working, solve_of}
use Rattle.rule.specs.Stop.{stops, deviances_of, deviance_sum, fit_term, log_pivot_at, log_pivots, laplace_of, mode_fit, mode_sum, mode_devs, mode_of}
use Rattle.rule.specs.Try.{candidate_at, candidate_of, fine_eta, mean_at, means_of, square_at, add_to, pwrss_of, after_pwrss, try_pwrss, after_means, try_means, after_eta, try_eta, try_of, item_before, after_try, tries_from, tries_of, trial_of}
use Rattle.rule.specs.Working.{working_weight, working_weight_at, divisor, working_response, working_response_at, working_weights, working_responses, target_at, targets, weighted_targets, weighted_column}
use Rattle.rule.specs.Given.{Given}
use Rattle.family.specs.declared.carried.CarriedFamily.TheVariants as family
use Rattle.family.specs.declared.carried.CarriedLink.TheVariants as link
use Rattle.rule_cases.specs.Told.{Told, told_mode, told_v, told_ending, told_outcome, told_of}

abbrev job : Given
job = record { family = family.Poisson; link = link.Log; y = bits 0x3ff0_0000_0000_0000 ∷ bits 0x404e_0000_0000_0000 ∷ bits 0x4010_0000_0000_0000 ∷ bits 0x401c_0000_0000_0000 ∷ []; weights = bits 0x3ff0_0000_0000_0000 ∷ bits 0x3ff0_0000_0000_0000 ∷ bits 0x3ff0_0000_0000_0000 ∷ bits 0x3d71_9799_812d_ea11 ∷ []; design = record { n = 4; p = 2; shape = record { count = 1; m = 1 ∷ 0 ∷ 0 ∷ 0 ∷ 0 ∷ 0 ∷ 0 ∷ 0 ∷ []; k = 1 ∷ 0 ∷ 0 ∷ 0 ∷ 0 ∷ 0 ∷ 0 ∷ 0 ∷ [] }; theta = bits 0x3ff0_0d0e_820b_ed14 ∷ []; offset = []; x = bits 0x3ff0_0000_0000_0000 ∷ bits 0xbfcf_b7ac_a05d_7ee8 ∷ bits 0x3ff0_0000_0000_0000 ∷ bits 0xbfa8_36c8_6725_2aa0 ∷ bits 0x3ff0_0000_0000_0000 ∷ bits 0x3fdc_9c3d_9064_6518 ∷ bits 0x3ff0_0000_0000_0000 ∷ bits 0x408f_4000_0000_0000 ∷ []; zt = record { starts = 0 ∷ 4 ∷ []; columns = 0 ∷ 1 ∷ 2 ∷ 3 ∷ []; values = bits 0x3ff0_0000_0000_0000 ∷ bits 0x3ff0_0000_0000_0000 ∷ bits 0x3ff0_0000_0000_0000 ∷ bits 0x3ff0_0000_0000_0000 ∷ [] } } }

abbrev answer : Told
answer = record { number = 0; iterations = 3; account = record { fits = 1; solves = 3; tries = 21; points = 0; eta = 0; mean = 18; pwrss = 0; ok = 3 }; deviance = bits 0x4070_f2ff_f952_ed73; beta = bits 0x4024_99eb_cfa5_de51 ∷ bits 0x407b_0e49_9211_5e29 ∷ []; se = bits 0x3ff0_1643_920a_84f4 ∷ bits 0x3fcf_dcaf_eaf5_b7f7 ∷ []; z = bits 0x4024_7d68_d750_f40d ∷ bits 0x409b_2c45_ff2d_3e87 ∷ []; u = bits 0xbd34_0000_0000_0000 ∷ []; b = bits 0xbd34_1052_228e_e859 ∷ []; mu = bits 0x4052_ec64_1f22_0115 ∷ bits 0x4052_fba1_3bac_66eb ∷ bits 0x4053_2167_dda3_2de0 ∷ bits 0x41bc_c5b9_f8b9_b146 ∷ []; eta = bits 0x4011_4e88_ceea_99c7 ∷ bits 0x4011_51c0_2000_a661 ∷ bits 0x4011_59ad_ffcb_ed18 ∷ bits 0x4033_feb4_e6f7_1aa0 ∷ []; residual = bits 0xc052_ac64_1f22_0115 ∷ bits 0xc02f_dd09_dd63_3758 ∷ bits 0xc052_2167_dda3_2de0 ∷ bits 0xc1bc_c5b9_f1b9_b146 ∷ []; v = bits 0x3ff0_2ca6_1f04_0322 ∷ bits 0x3f4f_2a9e_e64f_b1a5 ∷ bits 0x3f4f_2a9e_e64f_b1a5 ∷ bits 0x3faf_b986_cde1_dfad ∷ [] }

pub holds : told_of job 100 ≡ answer
unfolding told_mode told_v told_ending told_outcome told_of add sub mul div neg lt le eq ne is_nan of_bits to_bits of_int to_unsigned round ruled fill_by fill_down build matrix fill_to fill_at grid_to finite infinite negative abs_f max_f clamp_f row not_falling good_starts column_fits good_columns good_row good_rows stored_in find_to place_in stored value_at row_sum both_sum sum_to sum_from add_where sum_where all_to any_to with_digit nearest_from place_of root_of units_of sqrt_of exp_table exp_row log_table log_row reduced row_tail scale_bits excess scaled large refitted fitted small edge ended exp_main above_zero exp_two exp_far exp_of quotient_of rest_of scaled_of up_of down_of grown_of shrunk_of grown_by shrunk_by rising_of falling_of expm1_main above_minus_one expm1_of near_one ln_near ln_row ln_main ln_far ln_of tail_of lost_of split_of far_of ln1p_main ln1p_of near_poly near_sum near_of ln_sum whole_of power_of inverse_power_of next_of below_two product_of lowered_of below_eight series_of stirling_by stirling_of ln_gamma_of about_two about_least about_one below_three density_of norm_pdf from_zero_to_one norm_cdf central_of near_part distant_part guess_by guess_of upper_quantile inside_of norm_quantile on_grid half_square half_rest root_rest erf_rest taken_from tail_near erfc_near_one tail_middle inner_part outer_part far_part tail_by tail_far upper_tail ◌⊞◌ refused_answer unfitted_answer fitted_answer tries_cap points_cap inner_cap_of count_of tally family_coded link_coded start_coded limit_of good_limit good_sizes total_to block_effects block_thetas good_block good_shape links_for among valid_for variance_of success_term binomial_term poisson_term gamma_term proportion in_range dev_resid initialize_mu trials_mean has_density ln_dgamma clamp_e link_fun logistic link_inv cloglog_slope mu_eta log_weights gaussian_term gaussian_aic density_at density_term gamma_aic aic_of aic_answer each weight_sum lengths_agree dev_resid_at ldl_term ldl_sum ldl_pivot ldl_below ldl_rule ldl_of ldl_passes ldl_end cholesky_pivot cholesky_below cholesky_rule cholesky_of cholesky_passes cholesky_end unit_at unit_column ldl_column ldl_inverse_at ldl_column_at ldl_inverse cholesky_column cholesky_column_at cholesky_inverse v_at across_term down_term unit_forward_rule unit_backward_rule over_d_rule forward_rule backward_rule unit_forward over_d unit_backward forward backward ldl_solve cholesky_solve turned_at swapped row_turned square_turned rows_dot triangle row_by usable positive and_then first_bad reach block_of column_start column_in column_of is_entry lambda_at lambda_full across_row down_column times_term lambda_times_at transposed_term lambda_transposed_at right_term right_at left_term system_at column_added_at effect_at normal_at stored_term zt_times_at weighted_term ztwz_at effect_term z_times_at added_at absent plus_offset less_offset v_from v_of se_at se_of z_value_at z_values residual_at residuals_of items_before failed_after after_stop moved after_search after_solve run_from start_mean start_mean_at start_means start_eta_at start_eta start_at run_of ztwz_of right_columns system_of factor_of zt_times side_of wy_of unsolved_column solved_column solved_column_at solved_columns normal_entry normal_of normal_side_at normal_side beta_of effects_after b_of z_times raw_at raw_of reduced_of found_with found_beta found after_root solve_root solve_normal solve_reduced after_factor solve_factor solve_system solve_working solve_of stops deviances_of deviance_sum fit_term log_pivot_at log_pivots laplace_of mode_fit mode_sum mode_devs mode_of candidate_at candidate_of fine_eta mean_at means_of square_at add_to pwrss_of after_pwrss try_pwrss after_means try_means after_eta try_eta try_of item_before after_try tries_from tries_of trial_of working_weight working_weight_at divisor working_response working_response_at working_weights working_responses target_at targets weighted_targets weighted_column
holds = refl
