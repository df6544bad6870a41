-- `cases_linear::stored_rows` is safe: the test of number 6 gives what each product asks of the rows.
use mathlib.Core.Path.{refl, sym, ◌∙◌}
use Rattle.base.proofs.SparseRows.{good_rows_lem}
use Rattle.cases_linear.proofs.stored_rows.Goals as goal

pub side-requires : goal.side-requires
side-requires c = good_rows_lem _ _ _ 5 5 refl refl (sym c.if-rows_ok.true ∙ c.rows_ok.ensures)

pub square-requires : goal.square-requires
square-requires c = good_rows_lem _ _ _ 5 5 refl refl (sym c.if-rows_ok.true ∙ c.rows_ok.ensures)

pub summed-requires : goal.summed-requires
summed-requires c = good_rows_lem _ _ _ 5 5 refl refl (sym c.if-rows_ok.true ∙ c.rows_ok.ensures)
