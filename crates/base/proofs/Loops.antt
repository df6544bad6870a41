-- The laws that a loop's needs are closed by, as sets for `search`: `search (needs, loops)`, and `inplace` or `rows` beside it. Assumes nothing.
use Rattle.base.proofs.Sums.{sum_none, sum_step, sum_end, from_none, from_step, from_end, where_none, where_take, where_skip, where_end, all_none, all_step, all_end, all_fails}
use Rattle.base.proofs.Fills.{fillat_none, fillat_step, fillat_end, length_fillat, fill_none, fill_step, fill_end, length_fill, grid_none, grid_step, grid_end, length_grid}
use Rattle.base.proofs.Rows.{fillat_wrote}
use Rattle.base.proofs.InPlace.{by_none, by_end, length_by, down_none, down_end, length_down}

-- sums, tests and fills
pub ruleset loops = (sum_none, sum_step, sum_end, from_none, from_step, from_end, where_none, where_take, where_skip, where_end, all_none, all_step, all_end, all_fails, fill_none, fill_step, fill_end, length_fill, fillat_none, fillat_step, fillat_end, length_fillat, grid_none, grid_step, grid_end, length_grid)

-- lists written in place; each rule adds a law of its own step
pub ruleset inplace = (by_none, by_end, length_by, down_none, down_end, length_down)

-- a row of a work slice that was filled
pub ruleset rows = (fillat_wrote)
