-- `linear::some_columns` meets its contract: the sums begin at +0.0, and each is copied to its place.
use mathlib.Core.Path.{sym}
use Rattle.base.proofs.Fills.{build_const}
use Rattle.linear.proofs.CrossSums.{copied_sums}
use native.Mathlib.Omega.{arith}
use Rattle.linear.proofs.crosses.some_columns.Goals as goal

pub crosses-requires : goal.crosses-requires
crosses-requires g c = (omega arith, omega arith, omega arith, omega arith, sym (build_const _ _))

pub returns : goal.returns
returns g c =
    let crossed = c.crosses in
    let copied = c.copy in
    copied_sums _ _ _ _ _ (omega arith) crossed.ensures copied.ensures
