-- Case J through the whole program: its 44 bytes make one line of output. Document 01, "The job and the program", its last lines; document 02, P5 and P9. Assumes nothing.
use Rattle.std.specs.Prelude.{Ok}
use mathlib.Core.Path.{◌≡◌, refl, ◌∙◌}
use mathlib.Core.List.{[], ◌∷◌}
use lib.Ieee.{lt, le, eq, of_bits}
use Rattle.base.specs.Number.{finite}
use Rattle.base.specs.Sparse.{not_falling, good_starts, column_fits, good_columns, good_row, good_rows}
use Rattle.base.specs.Sum.{all_to}
use Rattle.model.specs.Account.{one_fit}
use Rattle.model.specs.Answer.{unfitted_answer}
use Rattle.model.specs.Items.{count_of, tally}
use Rattle.model.specs.Names.{limit_of}
use Rattle.model.specs.Settings.{good_limit, good_sizes}
use Rattle.model.specs.Shape.{total_to, block_effects, block_thetas, good_block, good_shape}
use Rattle.model.specs.declared.ends.End.TheVariants.{NoStop}
use Rattle.family.specs.Carried.{links_for, among, valid_for}
use Rattle.family.specs.Family.{in_range}
use Rattle.family.specs.declared.carried.CarriedFamily.TheVariants.{Poisson}
use Rattle.family.specs.declared.carried.CarriedLink.TheVariants.{Log}
use Rattle.rule.specs.Run.{items_before, failed_after, run_from, run_of}
use Rattle.agq_rule.specs.Inner.{after_run, inner_with, inner_of}
use Rattle.table.specs.Tests.{absent_or, good_inputs, good_results, good_work, all_finite, finite_numbers, all_in_range, start_fits}
use Rattle.table.specs.Table.{refuse_unless, table_of}
use Rattle.dispersion.specs.Rounds.{no_result, with_flag, last_fit, fixed_of}
use Rattle.job.proofs.JobCases.{case_j, job_j, case_j_read}
use Rattle.lines.specs.Lines.{end_line}
use Rattle.lines.proofs.LineCases.{case_j_line}
use Rattle.call.specs.Fit.{result_by, total_of, inner_at, fit_by, fit_of}
use Rattle.call.specs.Call.{lengths_of, call_given}
use Rattle.call.proofs.Leaves.{asked_fit, unfitted_answer_lem}
use Rattle.report.specs.Report.{answer_text}
use Rattle.jobfit.specs.Done.{inputs_of, zeros}
use Rattle.output.specs.Output.{slices_for, call_for, left_text, output_by, output_of}

-- it is accepted
accepted_j : table_of 1 job_j.settings job_j.shape (inputs_of job_j) (lengths_of (slices_for job_j.settings)) ≡ Ok (Poisson, Log)
unfolding table_of refuse_unless good_sizes good_limit good_shape good_block total_to block_effects block_thetas all_to good_inputs absent_or good_results good_work lengths_of slices_for zeros good_rows good_row good_starts good_columns column_fits not_falling finite_numbers all_finite finite of_bits valid_for links_for among all_in_range in_range le lt eq start_fits
accepted_j = refl

-- no iteration is left to do
unfitted_j : (asked_fit Poisson Log job_j.settings job_j.shape (inputs_of job_j)).outcome ≡ no_result NoStop
unfolding fit_of fit_by fixed_of last_fit with_flag inner_at total_of result_by inner_of inner_with after_run run_of items_before run_from failed_after limit_of call_given
unfitted_j = refl

counted_j : tally (asked_fit Poisson Log job_j.settings job_j.shape (inputs_of job_j)).items ≡ one_fit
unfolding fit_of fit_by fixed_of last_fit with_flag inner_at total_of result_by inner_of inner_with after_run run_of items_before run_from failed_after limit_of call_given tally count_of
counted_j = refl

answer_j : (call_for job_j).answer ≡ unfitted_answer NoStop one_fit
unfolding unfitted_answer
answer_j =
    unfitted_answer_lem job_j.settings job_j.shape (inputs_of job_j) (slices_for job_j.settings) Poisson Log accepted_j NoStop unfitted_j ∙ rw counted_j refl

told_j : left_text (call_for job_j) ≡ end_line (unfitted_answer NoStop one_fit)
unfolding answer_text unfitted_answer
told_j = rw answer_j refl

-- "end 13 order 0 disp 0 iters 0 fits 1 solves 0 tries 0 points 0 why 0 eta 0 mean 0 pwrss 0 ok 0"
pub output_j : output_of case_j
    ≡ 101 ∷ 110 ∷ 100 ∷ 32 ∷ 49 ∷ 51 ∷ 32 ∷ 111 ∷ 114 ∷ 100 ∷ 101 ∷ 114 ∷ 32 ∷ 48 ∷ 32 ∷ 100 ∷ 105 ∷ 115 ∷ 112 ∷ 32 ∷ 48 ∷ 32 ∷ 105 ∷ 116 ∷ 101 ∷ 114 ∷ 115 ∷ 32 ∷ 48 ∷ 32 ∷ 102 ∷ 105 ∷ 116 ∷ 115 ∷ 32 ∷ 49 ∷ 32 ∷ 115 ∷ 111 ∷ 108 ∷ 118 ∷ 101 ∷ 115 ∷ 32 ∷ 48 ∷ 32 ∷ 116 ∷ 114 ∷ 105 ∷ 101 ∷ 115 ∷ 32 ∷ 48 ∷ 32 ∷ 112 ∷ 111 ∷ 105 ∷ 110 ∷ 116 ∷ 115 ∷ 32 ∷ 48 ∷ 32 ∷ 119 ∷ 104 ∷ 121 ∷ 32 ∷ 48 ∷ 32 ∷ 101 ∷ 116 ∷ 97 ∷ 32 ∷ 48 ∷ 32 ∷ 109 ∷ 101 ∷ 97 ∷ 110 ∷ 32 ∷ 48 ∷ 32 ∷ 112 ∷ 119 ∷ 114 ∷ 115 ∷ 115 ∷ 32 ∷ 48 ∷ 32 ∷ 111 ∷ 107 ∷ 32 ∷ 48 ∷ 10 ∷ []
unfolding output_of output_by
output_j = rw case_j_read (told_j ∙ case_j_line)
