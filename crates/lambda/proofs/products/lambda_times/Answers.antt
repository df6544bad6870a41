-- `lambda::lambda_times` meets its contract: where every column of Λ is one number on the diagonal, the numbers of u times it are Λu.
use mathlib.Core.Path.{◌≡◌, sym, ◌∙◌}
use mathlib.Core.Bool.{true}
use native.Mathlib.Omega.{arith}
use Rattle.model.proofs.Shapes.{in_range_lem}
use Rattle.lambda.specs.Parts.{is_single}
use Rattle.lambda.proofs.ColumnPlaces.{single_theta}
use Rattle.lambda.proofs.Entries.{times_single, scaled_copy}
use Rattle.lambda.proofs.products.lambda_times.Goals as goal

pub bounds-theta-0 : goal.bounds-theta-0
bounds-theta-0 c =
    let one : is_single c.args.shape ≡ true = sym c.is_single.ensures ∙ c.if-is_single.true in
    omega (arith, single_theta c.args.shape (in_range_lem c.args.shape c.requires.shape_value.0) one)

pub returns-then-is_single : goal.returns-then-is_single
returns-then-is_single c =
    let one : is_single c.args.shape ≡ true = sym c.is_single.ensures ∙ c.if-is_single.true in
    times_single c.args.shape c.args.theta.now c.args.q (in_range_lem c.args.shape c.requires.shape_value.0) one c.requires.shape_value.1 c.args.u.now c.args.out.now _ c.requires.shape_in_bounds.2 (scaled_copy _ _ _ _ _ _ c.requires.shape_in_bounds.2 c.copy.ensures c.scale.ensures)
