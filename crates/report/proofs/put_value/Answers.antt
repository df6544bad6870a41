-- `report::put_value` meets its contract: the line stands in the front of the buffer's rest. Assumes nothing.
use mathlib.Core.Path.{refl}
use native.Mathlib.Omega.{arith}
use Rattle.report.proofs.Lengths.{value_few}
use Rattle.report.proofs.Growing.{rest_grown}
use Rattle.report.proofs.put_value.Goals as goal

pub overflow_add-result : goal.overflow_add-result
overflow_add-result c = omega (arith, c.value_line-n.ensures.0, value_few c.args.name.now c.args.index c.args.x c.requires.0)

pub returns : goal.returns
returns c =
    let a = c.args in
    rest_grown _ a.out.now _ _ a.at _ _ 64 c.value_line-n.ensures refl refl
    (value_few a.name.now a.index a.x c.requires.0) (omega arith)
