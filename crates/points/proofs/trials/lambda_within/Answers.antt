-- `points::lambda_within` meets its contract: before column j each place of the row at b holds what the first j columns make of it, and u is as it was lent.
use mathlib.Core.Path.{refl, ap, ◌∙◌}
use mathlib.Core.List.{List}
use native.Mathlib.Omega.{arith}
use lib.Ieee.{Float}
use Rattle.base.specs.List.{build}
use Rattle.lambda.specs.Product.{lambda_times_at}
use Rattle.base.proofs.Rows.{only_none, only_row, only_trans, filled_part}
use Rattle.model.proofs.Shapes.{in_range_lem}
use Rattle.lambda.proofs.ColumnPlaces.{column_rows, column_theta}
use Rattle.points.proofs.Within.{within_none, within_step, within_only, within_all}
use Rattle.points.proofs.trials.lambda_within.Goals as goal

pub loop-j-init : goal.loop-j-init
loop-j-init c =
    let w = filled_part c.args.b c.args.q _ _ c.args.m.now c.wipe.new.out refl (omega (arith, c.requires.q_in_bounds)) c.wipe.auto.out c.wipe.ensures in
    (refl, only_none _ _ _, within_none c.args.shape c.args.theta.now c.args.q c.args.u c.args.b _ c.requires.shape_value.1 (omega (arith, c.requires.q_in_bounds, w.only.len)) w.row', omega (arith, c.requires.q_in_bounds, w.only.len), omega (arith, c.requires.q_in_bounds, w.only.len))

pub add_column-requires : goal.add_column-requires
add_column-requires c =
    let l = c.loop-j in
    let r = in_range_lem c.args.shape c.requires.shape_value.0 in
    let theta = column_theta c.args.shape l.j r (omega (arith, c.requires.shape_value.1, c.loop-j-test.true)) in
    let rows = column_rows c.args.shape l.j r (omega (arith, c.requires.shape_value.1, c.loop-j-test.true)) in
    rw c.column_of-c.ensures (omega (arith, theta, c.requires.shape_value.2), omega (arith, rows, l.invariant.0, c.requires.shape_value.1, c.requires.q_in_bounds))

pub loop-j-preserved : goal.loop-j-preserved
loop-j-preserved c =
    let a = c.args in
    let l = c.loop-j in
    let r = in_range_lem a.shape c.requires.shape_value.0 in
    let made = rw c.column_of-c.ensures at c.add_column.ensures in
    let only = within_only a.shape a.theta.now a.q a.u a.b _ c.requires.shape_value.1 l.invariant.3 l.invariant.4 c.requires.q_in_bounds.2 r l.j c.loop-j-test.true l.m l.invariant.1 l.invariant.2 in
    let step = within_step a.shape a.theta.now a.q a.u a.b _ c.requires.shape_value.1 l.invariant.3 l.invariant.4 c.requires.q_in_bounds.2 r l.j c.loop-j-test.true l.m l.invariant.1 l.invariant.2 in
    (rw made only.len, rw made only, rw made step, l.invariant.3, l.invariant.4)

pub returns : goal.returns
returns c =
    let a = c.args in
    let l = c.loop-j in
    let w = filled_part a.b a.q _ _ a.m.now c.wipe.new.out refl (omega (arith, c.requires.q_in_bounds)) c.wipe.auto.out c.wipe.ensures in
    record {
      row' = within_all a.shape a.theta.now a.q a.u a.b _ c.requires.shape_value.1 l.invariant.3 l.j l.m l.auto.j-end (omega arith) l.invariant.2 ∙ ap (λ (U : List Float). build (lambda_times_at a.shape a.theta.now U) a.q) (only_row a.u a.q a.b a.q c.requires.q_in_bounds.2 c.requires.q_in_bounds.0 w.only);
      only = only_trans w.only l.invariant.1;
    }
