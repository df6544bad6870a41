-- Gaussian, identity, a quadrature of order 5 over two groups in each of three rounds; (t - u)(t + u) for t² - u², or a difference of deviances divided by phi, would be another deviance. Made by tools/cases/call.py; the right side is the oracle's answer. Assumes nothing.
use Rattle.std.specs.Prelude.{None}
use mathlib.Core.Path.{◌≡◌, refl}
use mathlib.Core.Bool.{true}
use mathlib.Core.List.{[], ◌∷◌}
use lib.Ieee.{add, sub, mul, div, neg, lt, le, eq, ne, is_nan, of_bits, to_bits, of_int, to_unsigned, round}
use Rattle.base.specs.Number.{bits}
use Rattle.base.specs.InPlace.{ruled, fill_by, fill_down}
use Rattle.base.specs.List.{build, matrix, fill_to, fill_at, grid_to}
use Rattle.base.specs.Number.{finite, infinite, negative, abs_f, max_f, clamp_f}
use Rattle.base.specs.Rows.{row}
use Rattle.base.specs.Sparse.{not_falling, good_starts, column_fits, good_columns, good_row, good_rows, stored_in, find_to, place_in, stored, value_at, row_sum, both_sum}
use Rattle.base.specs.Sum.{sum_to, sum_from, add_where, sum_where, all_to, any_to}
use Rattle.root.specs.Sqrt.{with_digit, nearest_from, place_of, root_of, units_of, sqrt_of}
use Rattle.tabulated.specs.ExpTable.{exp_table, exp_row}
use Rattle.tabulated.specs.LogTable.{log_table, log_row}
use Rattle.elementary.specs.Exp.{reduced, row_tail, scale_bits, excess, scaled, large, refitted, fitted, small, edge, ended, exp_main, above_zero, exp_two, exp_far, exp_of}
use Rattle.elementary.specs.Expm1.{quotient_of, rest_of, scaled_of, up_of, down_of, grown_of, shrunk_of, grown_by, shrunk_by, rising_of, falling_of, expm1_main, above_minus_one, expm1_of}
use Rattle.elementary.specs.Log.{near_one, ln_near, ln_row, ln_main, ln_far, ln_of}
use Rattle.elementary.specs.Log1p.{tail_of, lost_of, split_of, far_of, ln1p_main, ln1p_of}
use Rattle.elementary.specs.LogPoly.{near_poly, near_sum, near_of, ln_sum}
use Rattle.elementary.specs.Parts.{whole_of, power_of, inverse_power_of}
use Rattle.log_gamma.specs.LogGamma.{next_of, below_two, product_of, lowered_of, below_eight, series_of, stirling_by, stirling_of, ln_gamma_of}
use Rattle.log_gamma.specs.Near.{about_two, about_least, about_one, below_three}
use Rattle.normal.specs.Normal.{density_of, norm_pdf, from_zero_to_one, norm_cdf}
use Rattle.normal.specs.Quantile.{central_of, near_part, distant_part, guess_by, guess_of, upper_quantile, inside_of, norm_quantile}
use Rattle.normal.specs.Tail.{on_grid, half_square, half_rest, root_rest, erf_rest, taken_from, tail_near, erfc_near_one, tail_middle, inner_part, outer_part, far_part, tail_by, tail_far, upper_tail}
use Rattle.model.specs.Account.{◌⊞◌}
use Rattle.model.specs.Answer.{refused_answer, unfitted_answer, fitted_answer}
use Rattle.model.specs.Caps.{tries_cap, points_cap, inner_cap_of}
use Rattle.model.specs.Items.{count_of, tally}
use Rattle.model.specs.Names.{family_coded, link_coded, start_coded, limit_of}
use Rattle.model.specs.Settings.{good_limit, good_sizes}
use Rattle.model.specs.Shape.{total_to, block_effects, block_thetas, good_block, good_shape}
use Rattle.family.specs.Carried.{links_for, among, valid_for}
use Rattle.family.specs.Family.{variance_of, success_term, binomial_term, poisson_term, gamma_term, proportion, in_range, dev_resid, initialize_mu, trials_mean, has_density, ln_dgamma}
use Rattle.family.specs.Link.{clamp_e, link_fun, logistic, link_inv, cloglog_slope, mu_eta}
use Rattle.family_lists.specs.Aic.{log_weights, gaussian_term, gaussian_aic, density_at, density_term, gamma_aic, aic_of, aic_answer}
use Rattle.family_lists.specs.Lists.{each, weight_sum, lengths_agree, dev_resid_at}
use Rattle.factor.specs.Factor.{ldl_term, ldl_sum, ldl_pivot, ldl_below, ldl_rule, ldl_of, ldl_passes, ldl_end, cholesky_pivot, cholesky_below, cholesky_rule, cholesky_of, cholesky_passes, cholesky_end}
use Rattle.factor.specs.Inverse.{unit_at, unit_column, ldl_column, ldl_inverse_at, ldl_column_at, ldl_inverse, cholesky_column, cholesky_column_at, cholesky_inverse, v_at}
use Rattle.factor.specs.Substitution.{across_term, down_term, unit_forward_rule, unit_backward_rule, over_d_rule, forward_rule, backward_rule, unit_forward, over_d, unit_backward, forward, backward, ldl_solve, cholesky_solve}
use Rattle.factor.specs.Transpose.{turned_at, swapped, row_turned, square_turned}
use Rattle.factor.specs.Triangle.{rows_dot, triangle, row_by, usable, positive, and_then, first_bad, reach}
use Rattle.lambda.specs.Column.{block_of, column_start, column_in, column_of, is_entry, lambda_at, lambda_full}
use Rattle.lambda.specs.Product.{across_row, down_column, times_term, lambda_times_at, transposed_term, lambda_transposed_at, right_term, right_at, left_term, system_at, column_added_at}
use Rattle.linear.specs.Product.{effect_at, normal_at}
use Rattle.stored.specs.Stored.{stored_term, zt_times_at, weighted_term, ztwz_at, effect_term, z_times_at, added_at}
use Rattle.rule.specs.Given.{absent, plus_offset, less_offset}
use Rattle.rule.specs.Results.{v_from, v_of, se_at, se_of, z_value_at, z_values, residual_at, residuals_of}
use Rattle.rule.specs.Run.{items_before, failed_after, after_stop, moved, after_search, after_solve, run_from, start_mean, start_mean_at, start_means, start_eta_at, start_eta, start_at, run_of}
use Rattle.rule.specs.Solve.{ztwz_of, right_columns, system_of, factor_of, zt_times, side_of, wy_of, unsolved_column, solved_column, solved_column_at, solved_columns, normal_entry, normal_of, normal_side_at, normal_side, beta_of, effects_after, b_of, z_times, raw_at, raw_of, reduced_of, found_with, found_beta, found, after_root, solve_root, solve_normal, solve_reduced, after_factor, solve_factor, solve_system, solve_working, solve_of}
use Rattle.rule.specs.Stop.{stops, deviances_of, deviance_sum, fit_term, log_pivot_at, log_pivots, laplace_of, mode_fit, mode_sum, mode_devs, mode_of}
use Rattle.rule.specs.Try.{candidate_at, candidate_of, fine_eta, mean_at, means_of, square_at, add_to, pwrss_of, after_pwrss, try_pwrss, after_means, try_means, after_eta, try_eta, try_of, item_before, after_try, tries_from, tries_of, trial_of}
use Rattle.rule.specs.Working.{working_weight, working_weight_at, divisor, working_response, working_response_at, working_weights, working_responses, target_at, targets, weighted_targets, weighted_column}
use Rattle.quadrature.specs.LogSum.{max_to, exp_term, log_sum_at, log_sum_exp}
use Rattle.quadrature.specs.Orders.{size_of, order_of, first_order, wished, within_cap, next_lower, down_from, first_within, capped_from, product_capped, product_order, joint_capped, joint_order}
use Rattle.quadrature.specs.Rules.{nodes_of, weights_of, padded, rule_of}
use Rattle.spread.specs.Spread.{lower_at, spread_term, spread_at}
use Rattle.agq_rule.specs.Inner.{deviance_by, order_by, why_by, with_points, after_run, inner_with, inner_of}
use Rattle.agq_rule.specs.Point.{digit_entry, node_at, point_of, log_entry, log_weight_at, log_weight_of}
use Rattle.agq_rule.specs.Scale.{sigma_of, bad_diagonal, after_cholesky, cholesky_scale, inverse_scale, after_ldl, ldl_scale, block_scale, section_at, section_of}
use Rattle.agq_rule.specs.Steps.{answers, points_before, after_sum, sum_then, terms_then, after_diagonal, one_group, after_scale, several_group, group_by, with_sum, groups_from, product_with, product_step, joint_total, after_joint, joint_with, joint_step, step_by, quadrature_of}
use Rattle.agq_rule.specs.Term.{means_at, effects_deviances, gain_at, gain_of, inverse_phi, delta_of, penalty_at, belongs, term_of, one_moved, one_trial, one_term_at, one_term, moved_at, trial_by, group_penalty, group_term_at, group_term, joint_penalty, joint_term_at, joint_term}
use Rattle.dispersion.specs.Phi.{effective_n, unusable, estimate_of, close, mixed, next_at, next_by, round_of}
use Rattle.dispersion.specs.Rounds.{total_before, with_flag, last_fit, after_round, after_fit, dispersion_from, dispersion_of, fixed_of}
use Rattle.table.specs.Table.{refuse_unless, table_of}
use Rattle.table.specs.Tests.{absent_or, good_inputs, good_results, good_work, all_finite, finite_numbers, all_in_range, none_below, start_fits}
use Rattle.results.specs.Nine.{results_from, results_of}
use Rattle.call.specs.Call.{lengths_of, call_given, results_after, fit_left, call_by, call_of}
use Rattle.call.specs.Fit.{result_by, total_of, inner_at, fit_by, fit_of, result_answer, answer_of}
use Rattle.model.specs.Inputs.{Inputs}
use Rattle.model.specs.declared.sizes.Shape.{Shape}
use Rattle.model.specs.declared.sizes.Settings.{Settings}
use Rattle.model.specs.declared.names.Family.TheVariants as family
use Rattle.model.specs.declared.names.Link.TheVariants as link
use Rattle.model.specs.declared.names.Start.TheVariants as start
use Rattle.table.specs.declared.verdicts.LentLengths.{LentLengths}
use Rattle.call.specs.Call.{Lent}
use Rattle.call_cases.specs.Told.{Told, told_of}

abbrev settings : Settings
settings = record { family = family.Gaussian; link = link.Identity; n_agq = 4; limit = None; n = 3; p = 1; rows = 2; entries = 3; start = start.Usual }

abbrev shape : Shape
shape = record { count = 1; m = 2 ∷ 0 ∷ 0 ∷ 0 ∷ 0 ∷ 0 ∷ 0 ∷ 0 ∷ []; k = 1 ∷ 0 ∷ 0 ∷ 0 ∷ 0 ∷ 0 ∷ 0 ∷ 0 ∷ [] }

abbrev inputs : Inputs
inputs = record { theta = bits 0x3ff4_cccc_cccc_cccd ∷ []; y = bits 0x3ff4_cccc_cccc_cccd ∷ bits 0x3fe9_9999_9999_999a ∷ bits 0x400d_b6ce_d64d_903d ∷ []; weights = bits 0x3ff8_0000_0000_0000 ∷ bits 0x3fe0_0000_0000_0000 ∷ bits 0x3ff0_0000_0000_0000 ∷ []; offset = []; x = bits 0x3ff0_0000_0000_0000 ∷ bits 0x3ff0_0000_0000_0000 ∷ bits 0x3ff0_0000_0000_0000 ∷ []; starts = 0 ∷ 1 ∷ 3 ∷ []; columns = 0 ∷ 1 ∷ 2 ∷ []; values = bits 0x3ff0_0000_0000_0000 ∷ bits 0x3ff0_0000_0000_0000 ∷ bits 0x3fe0_0000_0000_0000 ∷ [] }

-- how long the lent slices are
abbrev room : LentLengths
room = record { beta = 1; se = 1; z = 1; u = 2; b = 2; mu = 3; eta = 3; residual = 3; v = 1; rows = 48; matrices = 56; terms = 7000 }

abbrev answer : Lent → Told
answer L = record { answer = record { number = 0; deviance = bits 0x4024_550b_af6c_3e17; phi = bits 0x3ff0_0000_0094_566a; order = 5; why = 0; converged = true; iterations = 2; account = record { fits = 3; solves = 6; tries = 6; points = 30; eta = 0; mean = 0; pwrss = 0; ok = 6 } }; results = record { beta = bits 0x4004_3eac_f582_832a ∷ []; se = bits 0x3fed_7880_0fc7_839b ∷ []; z = bits 0x4005_fb79_55cf_ef79 ∷ []; u = bits 0xbfe5_b901_12fe_e743 ∷ bits 0xbfc4_1197_95bc_68d8 ∷ []; b = bits 0xbfec_3d4e_324b_5fd7 ∷ bits 0xbfca_16de_a90e_884c ∷ []; mu = bits 0x3ffa_5eb2_d1df_5668 ∷ bits 0x4002_9d3f_0af1_9aa5 ∷ bits 0x4003_6df6_003a_0ee8 ∷ []; eta = bits 0x3ffa_5eb2_d1df_5668 ∷ bits 0x4002_9d3f_0af1_9aa5 ∷ bits 0x4003_6df6_003a_0ee8 ∷ []; residual = bits 0xbfd6_4798_144a_266c ∷ bits 0xbff8_6db1_4916_687d ∷ bits 0x3ff4_91b1_ac27_02aa ∷ []; v = bits 0x3feb_242d_df10_7528 ∷ [] } }

-- in slices of these lengths
computed : (L : Lent) → told_of (call_by (table_of 1 settings shape inputs room) settings shape inputs L) ≡ answer L
unfolding told_of add sub mul div neg lt le eq ne is_nan of_bits to_bits of_int to_unsigned round ruled fill_by fill_down build matrix fill_to fill_at grid_to finite infinite negative abs_f max_f clamp_f row not_falling good_starts column_fits good_columns good_row good_rows stored_in find_to place_in stored value_at row_sum both_sum sum_to sum_from add_where sum_where all_to any_to with_digit nearest_from place_of root_of units_of sqrt_of exp_table exp_row log_table log_row reduced row_tail scale_bits excess scaled large refitted fitted small edge ended exp_main above_zero exp_two exp_far exp_of quotient_of rest_of scaled_of up_of down_of grown_of shrunk_of grown_by shrunk_by rising_of falling_of expm1_main above_minus_one expm1_of near_one ln_near ln_row ln_main ln_far ln_of tail_of lost_of split_of far_of ln1p_main ln1p_of near_poly near_sum near_of ln_sum whole_of power_of inverse_power_of next_of below_two product_of lowered_of below_eight series_of stirling_by stirling_of ln_gamma_of about_two about_least about_one below_three density_of norm_pdf from_zero_to_one norm_cdf central_of near_part distant_part guess_by guess_of upper_quantile inside_of norm_quantile on_grid half_square half_rest root_rest erf_rest taken_from tail_near erfc_near_one tail_middle inner_part outer_part far_part tail_by tail_far upper_tail ◌⊞◌ refused_answer unfitted_answer fitted_answer tries_cap points_cap inner_cap_of count_of tally family_coded link_coded start_coded limit_of good_limit good_sizes total_to block_effects block_thetas good_block good_shape links_for among valid_for variance_of success_term binomial_term poisson_term gamma_term proportion in_range dev_resid initialize_mu trials_mean has_density ln_dgamma clamp_e link_fun logistic link_inv cloglog_slope mu_eta log_weights gaussian_term gaussian_aic density_at density_term gamma_aic aic_of aic_answer each weight_sum lengths_agree dev_resid_at ldl_term ldl_sum ldl_pivot ldl_below ldl_rule ldl_of ldl_passes ldl_end cholesky_pivot cholesky_below cholesky_rule cholesky_of cholesky_passes cholesky_end unit_at unit_column ldl_column ldl_inverse_at ldl_column_at ldl_inverse cholesky_column cholesky_column_at cholesky_inverse v_at across_term down_term unit_forward_rule unit_backward_rule over_d_rule forward_rule backward_rule unit_forward over_d unit_backward forward backward ldl_solve cholesky_solve turned_at swapped row_turned square_turned rows_dot triangle row_by usable positive and_then first_bad reach block_of column_start column_in column_of is_entry lambda_at lambda_full across_row down_column times_term lambda_times_at transposed_term lambda_transposed_at right_term right_at left_term system_at column_added_at effect_at normal_at stored_term zt_times_at weighted_term ztwz_at effect_term z_times_at added_at absent plus_offset less_offset v_from v_of se_at se_of z_value_at z_values residual_at residuals_of items_before failed_after after_stop moved after_search after_solve run_from start_mean start_mean_at start_means start_eta_at start_eta start_at run_of ztwz_of right_columns system_of factor_of zt_times side_of wy_of unsolved_column solved_column solved_column_at solved_columns normal_entry normal_of normal_side_at normal_side beta_of effects_after b_of z_times raw_at raw_of reduced_of found_with found_beta found after_root solve_root solve_normal solve_reduced after_factor solve_factor solve_system solve_working solve_of stops deviances_of deviance_sum fit_term log_pivot_at log_pivots laplace_of mode_fit mode_sum mode_devs mode_of candidate_at candidate_of fine_eta mean_at means_of square_at add_to pwrss_of after_pwrss try_pwrss after_means try_means after_eta try_eta try_of item_before after_try tries_from tries_of trial_of working_weight working_weight_at divisor working_response working_response_at working_weights working_responses target_at targets weighted_targets weighted_column max_to exp_term log_sum_at log_sum_exp size_of order_of first_order wished within_cap next_lower down_from first_within capped_from product_capped product_order joint_capped joint_order nodes_of weights_of padded rule_of lower_at spread_term spread_at deviance_by order_by why_by with_points after_run inner_with inner_of digit_entry node_at point_of log_entry log_weight_at log_weight_of sigma_of bad_diagonal after_cholesky cholesky_scale inverse_scale after_ldl ldl_scale block_scale section_at section_of answers points_before after_sum sum_then terms_then after_diagonal one_group after_scale several_group group_by with_sum groups_from product_with product_step joint_total after_joint joint_with joint_step step_by quadrature_of means_at effects_deviances gain_at gain_of inverse_phi delta_of penalty_at belongs term_of one_moved one_trial one_term_at one_term moved_at trial_by group_penalty group_term_at group_term joint_penalty joint_term_at joint_term effective_n unusable estimate_of close mixed next_at next_by round_of total_before with_flag last_fit after_round after_fit dispersion_from dispersion_of fixed_of refuse_unless table_of absent_or good_inputs good_results good_work all_finite finite_numbers all_in_range none_below start_fits results_from results_of lengths_of call_given results_after fit_left call_by call_of result_by total_of inner_at fit_by fit_of result_answer answer_of
computed L = refl

pub holds : (L : Lent) → lengths_of L ≡ room → told_of (call_of settings shape inputs L) ≡ answer L
unfolding call_of
holds L r = rw r (computed L)
