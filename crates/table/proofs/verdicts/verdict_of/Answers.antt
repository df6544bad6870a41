-- `table::verdict_of` meets its contract: its tests are the table's lines, in their order.
use mathlib.Core.Path.{sym, ap, ◌∙◌}
use native.Mathlib.Omega.{arith}
use Rattle.model.proofs.Sized.{sized}
use Rattle.table.specs.Tests.{all_in_range, start_fits}
use Rattle.table.proofs.Meant.{count_fits, inputs_fit}
use Rattle.table.proofs.Accepting.{line_1, line_8, line_2_inputs, line_2_results, line_7, line_6, line_3, line_4, line_9, line_27, past_lines}
use Rattle.table.proofs.verdicts.verdict_of.Goals as goal

pub returns-then-not-sizes_ok : goal.returns-then-not-sizes_ok
returns-then-not-sizes_ok c = sym (line_1 _ _ _ _ _ (sym c.sizes_ok.ensures ∙ c.if-not-sizes_ok.true))

pub returns-then-not-count_ok : goal.returns-then-not-count_ok
returns-then-not-count_ok c = sym (line_8 _ _ _ _ _ (sym c.sizes_ok.ensures ∙ c.if-not-sizes_ok.false) (sym c.count_ok.ensures ∙ c.if-not-count_ok.true))

pub returns-then-not-inputs_ok : goal.returns-then-not-inputs_ok
returns-then-not-inputs_ok c =
    sym
    (line_2_inputs _ _ _ _ _ (sym c.sizes_ok.ensures ∙ c.if-not-sizes_ok.false) (sym c.count_ok.ensures ∙ c.if-not-count_ok.false)
    (sym c.inputs_ok.ensures ∙ c.if-not-inputs_ok.true))

pub results_ok-requires : goal.results_ok-requires
results_ok-requires c = (
  (sized _ _ (sym c.sizes_ok.ensures ∙ c.if-not-sizes_ok.false)).sizes,
  (count_fits _ (sym c.count_ok.ensures ∙ c.if-not-count_ok.false)).1,
)

pub returns-then-not-results_ok : goal.returns-then-not-results_ok
returns-then-not-results_ok c =
    sym
    (line_2_results _ _ _ _ _ (sym c.sizes_ok.ensures ∙ c.if-not-sizes_ok.false)
    (sym c.count_ok.ensures ∙ c.if-not-count_ok.false) (sym c.inputs_ok.ensures ∙ c.if-not-inputs_ok.false) (sym c.results_ok.ensures ∙ c.if-not-results_ok.true))

pub work_ok-requires : goal.work_ok-requires
work_ok-requires c = (sized _ _ (sym c.sizes_ok.ensures ∙ c.if-not-sizes_ok.false)).sizes

pub returns-then-not-work_ok : goal.returns-then-not-work_ok
returns-then-not-work_ok c =
    sym
    (line_7 _ _ _ _ _ (sym c.sizes_ok.ensures ∙ c.if-not-sizes_ok.false) (sym c.count_ok.ensures ∙ c.if-not-count_ok.false) (sym c.inputs_ok.ensures ∙ c.if-not-inputs_ok.false)
    (sym c.results_ok.ensures ∙ c.if-not-results_ok.false) (sym c.work_ok.ensures ∙ c.if-not-work_ok.true))

pub rows_ok-requires : goal.rows_ok-requires
rows_ok-requires c = let f = inputs_fit _ _ _ _ (sym c.inputs_ok.ensures ∙ c.if-not-inputs_ok.false) in omega (arith, f.starts)

pub returns-then-not-rows_ok : goal.returns-then-not-rows_ok
returns-then-not-rows_ok c =
    sym
    (line_6 _ _ _ _ _ (sym c.sizes_ok.ensures ∙ c.if-not-sizes_ok.false) (sym c.count_ok.ensures ∙ c.if-not-count_ok.false) (sym c.inputs_ok.ensures ∙ c.if-not-inputs_ok.false)
    (sym c.results_ok.ensures ∙ c.if-not-results_ok.false) (sym c.work_ok.ensures ∙ c.if-not-work_ok.false)
    (sym c.rows_ok.ensures ∙ c.if-not-rows_ok.true))

pub returns-then-not-numbers_ok : goal.returns-then-not-numbers_ok
returns-then-not-numbers_ok c =
    sym
    (line_3 _ _ _ _ _ (sym c.sizes_ok.ensures ∙ c.if-not-sizes_ok.false) (sym c.count_ok.ensures ∙ c.if-not-count_ok.false) (sym c.inputs_ok.ensures ∙ c.if-not-inputs_ok.false)
    (sym c.results_ok.ensures ∙ c.if-not-results_ok.false) (sym c.work_ok.ensures ∙ c.if-not-work_ok.false)
    (sym c.rows_ok.ensures ∙ c.if-not-rows_ok.false) (sym c.numbers_ok.ensures ∙ c.if-not-numbers_ok.true))

pub returns-then-not-valid_for : goal.returns-then-not-valid_for
returns-then-not-valid_for c =
    sym
    (line_4 _ _ _ _ _ (sym c.sizes_ok.ensures ∙ c.if-not-sizes_ok.false) (sym c.count_ok.ensures ∙ c.if-not-count_ok.false) (sym c.inputs_ok.ensures ∙ c.if-not-inputs_ok.false)
    (sym c.results_ok.ensures ∙ c.if-not-results_ok.false) (sym c.work_ok.ensures ∙ c.if-not-work_ok.false)
    (sym c.rows_ok.ensures ∙ c.if-not-rows_ok.false) (sym c.numbers_ok.ensures ∙ c.if-not-numbers_ok.false)
    (sym c.valid_for.ensures ∙ c.if-not-valid_for.true))

pub returns-then-not-responses_ok : goal.returns-then-not-responses_ok
returns-then-not-responses_ok c =
    let same = ap (all_in_range _) (sym c.carried_family-carried.ensures) in
    sym
    (line_9 _ _ _ _ _ (sym c.sizes_ok.ensures ∙ c.if-not-sizes_ok.false) (sym c.count_ok.ensures ∙ c.if-not-count_ok.false) (sym c.inputs_ok.ensures ∙ c.if-not-inputs_ok.false)
    (sym c.results_ok.ensures ∙ c.if-not-results_ok.false) (sym c.work_ok.ensures ∙ c.if-not-work_ok.false)
    (sym c.rows_ok.ensures ∙ c.if-not-rows_ok.false) (sym c.numbers_ok.ensures ∙ c.if-not-numbers_ok.false)
    (sym c.valid_for.ensures ∙ c.if-not-valid_for.false)
    (same ∙ sym c.responses_ok.ensures ∙ c.if-not-responses_ok.true))

pub returns-then-not-start_ok : goal.returns-then-not-start_ok
returns-then-not-start_ok c =
    let same = sym c.carried_family-carried.ensures in
    sym
    (line_27 _ _ _ _ _ (sym c.sizes_ok.ensures ∙ c.if-not-sizes_ok.false) (sym c.count_ok.ensures ∙ c.if-not-count_ok.false) (sym c.inputs_ok.ensures ∙ c.if-not-inputs_ok.false)
    (sym c.results_ok.ensures ∙ c.if-not-results_ok.false) (sym c.work_ok.ensures ∙ c.if-not-work_ok.false)
    (sym c.rows_ok.ensures ∙ c.if-not-rows_ok.false) (sym c.numbers_ok.ensures ∙ c.if-not-numbers_ok.false)
    (sym c.valid_for.ensures ∙ c.if-not-valid_for.false)
    (ap (all_in_range _) same ∙ sym c.responses_ok.ensures ∙ c.if-not-responses_ok.false)
    (ap (start_fits _ _) same ∙ sym c.start_ok.ensures ∙ c.if-not-start_ok.true))

pub returns : goal.returns
returns c =
    let same = sym c.carried_family-carried.ensures in
    rw (c.carried_family-carried.ensures, c.carried_link.ensures)
    (sym
    (past_lines _ _ _ _ _ (sym c.sizes_ok.ensures ∙ c.if-not-sizes_ok.false) (sym c.count_ok.ensures ∙ c.if-not-count_ok.false) (sym c.inputs_ok.ensures ∙ c.if-not-inputs_ok.false)
    (sym c.results_ok.ensures ∙ c.if-not-results_ok.false) (sym c.work_ok.ensures ∙ c.if-not-work_ok.false)
    (sym c.rows_ok.ensures ∙ c.if-not-rows_ok.false) (sym c.numbers_ok.ensures ∙ c.if-not-numbers_ok.false)
    (sym c.valid_for.ensures ∙ c.if-not-valid_for.false)
    (ap (all_in_range _) same ∙ sym c.responses_ok.ensures ∙ c.if-not-responses_ok.false)
    (ap (start_fits _ _) same ∙ sym c.start_ok.ensures ∙ c.if-not-start_ok.false)))
