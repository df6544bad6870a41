-- The table of refusals, in its order: 1, 8, 2, 7, 6, 3, 4, 9, 27. Document 01, "Numbers of an answer"; document 02, P1: 8, P6: 9, P8: 5 occurs no longer, and P10: 27. Assumes nothing.
use Rattle.family.specs.declared.carried.CarriedFamily.{CarriedFamily}
use Rattle.family.specs.declared.carried.CarriedLink.{CarriedLink}
use Rattle.std.specs.Prelude.{Result, Ok, Err}
use Rattle.std.specs.Prelude.{Bool, true, false, ◌&&◌, ℕ}
use Rattle.base.specs.Sparse.{good_rows}
use Rattle.model.specs.Settings.{good_sizes}
use Rattle.model.specs.declared.sizes.Shape.{Shape}
use Rattle.model.specs.declared.sizes.Settings.{Settings}
use Rattle.model.specs.declared.ends.Refusal.{Refusal}
use Rattle.model.specs.declared.ends.Refusal.TheVariants.{OutOfRange, Responses, Lengths, Work, SparseRows, NotFinite, LinkForFamily, ResponseRange, StartFit}
use Rattle.family.specs.Carried.{carried_family, carried_link, valid_for}
use Rattle.table.specs.Tests.{good_count, good_inputs, good_results, good_work, good_numbers, all_in_range, start_fits}
use Rattle.model.specs.Inputs.{Inputs}
use Rattle.table.specs.declared.verdicts.LentLengths.{LentLengths}

-- one line of the table: the refusal where the test fails, else the lines that follow
unfoldable pub refuse_unless : Bool → Refusal → Result (CarriedFamily × CarriedLink) Refusal → Result (CarriedFamily × CarriedLink) Refusal
refuse_unless true refusal rest = rest
refuse_unless false refusal rest = Err refusal

-- the table, for r responses on one design; what passes every line is fitted by the formulas of its family and link
unfoldable pub table_of : ℕ → Settings → Shape → Inputs → LentLengths → Result (CarriedFamily × CarriedLink) Refusal
table_of r t s I L =
    refuse_unless (good_sizes t s) OutOfRange
    (refuse_unless (good_count r) Responses
    (refuse_unless (good_inputs r t s I && good_results r t L) Lengths
    (refuse_unless (good_work t L) Work
    (refuse_unless (good_rows I.starts I.columns t.rows t.n) SparseRows
    (refuse_unless (good_numbers I) NotFinite
    (refuse_unless (valid_for t.link t.family) LinkForFamily
    (refuse_unless (all_in_range I.y (carried_family t.family)) ResponseRange
    (refuse_unless (start_fits t.start I.weights (carried_family t.family)) StartFit
    (Ok ((carried_family t.family), (carried_link t.link)))))))))))
