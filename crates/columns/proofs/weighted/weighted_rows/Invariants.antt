-- `columns::weighted_rows` meets its contract: before turn g the first g rows are written; a row's entries are what it stores.
use mathlib.Core.Path.{◌≡◌}
use Rattle.base.specs.List.{grid_to}
use Rattle.stored.specs.Lent.{sparse_in}
use Rattle.columns.specs.Weighted.{weighted_side}
use Rattle.columns.proofs.weighted.weighted_rows.Given as goal

abbrev pub invariant-loop-g : goal.invariant-loop-g
invariant-loop-g l = l.out ≡ grid_to l.g l.p (weighted_side (sparse_in l.zt) l.x l.p l.n l.w) l.initial.out
