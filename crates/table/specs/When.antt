-- When each number of the table is given: its own test fails and every test before it is passed. Document 01, "Numbers of an answer"; document 02, P1, P6 and P10. Assumes nothing.
use Rattle.std.specs.Prelude.{◌≡◌, true, false, ◌&&◌, ℕ}
use Rattle.base.specs.Sparse.{good_rows}
use Rattle.model.specs.Inputs.{Inputs}
use Rattle.model.specs.Settings.{good_sizes}
use Rattle.model.specs.declared.sizes.Shape.{Shape}
use Rattle.model.specs.declared.sizes.Settings.{Settings}
use Rattle.model.specs.declared.ends.Refusal.{Refusal}
use Rattle.model.specs.declared.ends.Refusal.TheVariants.{OutOfRange, Responses, Lengths, Work, SparseRows, NotFinite, LinkForFamily, ResponseRange, StartFit}
use Rattle.family.specs.Carried.{carried_family, carried_link, valid_for}
use Rattle.family.specs.declared.carried.CarriedFamily.{CarriedFamily}
use Rattle.family.specs.declared.carried.CarriedLink.{CarriedLink}
use Rattle.table.specs.Tests.{good_count, good_inputs, good_results, good_work, good_numbers, all_in_range, start_fits}
use Rattle.table.specs.declared.verdicts.LentLengths.{LentLengths}

module _ (r : ℕ) (t : Settings) (s : Shape) (I : Inputs) (L : LentLengths) where
  -- the tests of 1 and 8 are passed
  abbrev pub PastCount : Type 0
  PastCount = (good_sizes t s ≡ true) × (good_count r ≡ true)

  -- and that of 2
  abbrev pub PastLengths : Type 0
  PastLengths = PastCount × (good_inputs r t s I && good_results r t L ≡ true)

  -- and that of 7
  abbrev pub PastWork : Type 0
  PastWork = PastLengths × (good_work t L ≡ true)

  -- and that of 6
  abbrev pub PastRows : Type 0
  PastRows = PastWork × (good_rows I.starts I.columns t.rows t.n ≡ true)

  -- and that of 3
  abbrev pub PastNumbers : Type 0
  PastNumbers = PastRows × (good_numbers I ≡ true)

  -- and that of 4
  abbrev pub PastLink : Type 0
  PastLink = PastNumbers × (valid_for t.link t.family ≡ true)

  -- and that of 9
  abbrev pub PastRange : Type 0
  PastRange = PastLink × (all_in_range I.y (carried_family t.family) ≡ true)

  -- and that of 27: every test is passed
  abbrev pub PastAll : Type 0
  PastAll = PastRange × (start_fits t.start I.weights (carried_family t.family) ≡ true)

  -- when a refusal is given
  unfoldable pub GivenWhen : Refusal → Type 0
  GivenWhen OutOfRange = good_sizes t s ≡ false
  GivenWhen Responses = (good_sizes t s ≡ true) × (good_count r ≡ false)
  GivenWhen Lengths = PastCount × (good_inputs r t s I && good_results r t L ≡ false)
  GivenWhen Work = PastLengths × (good_work t L ≡ false)
  GivenWhen SparseRows = PastWork × (good_rows I.starts I.columns t.rows t.n ≡ false)
  GivenWhen NotFinite = PastRows × (good_numbers I ≡ false)
  GivenWhen LinkForFamily = PastNumbers × (valid_for t.link t.family ≡ false)
  GivenWhen ResponseRange = PastLink × (all_in_range I.y (carried_family t.family) ≡ false)
  GivenWhen StartFit = PastRange × (start_fits t.start I.weights (carried_family t.family) ≡ false)

  -- when a call is accepted with the formulas of f and l: every test is passed, and they are those of its family and link
  abbrev pub AcceptedWhen : CarriedFamily → CarriedLink → Type 0
  AcceptedWhen f l = PastAll × ((carried_family t.family ≡ f) × (carried_link t.link ≡ l))
