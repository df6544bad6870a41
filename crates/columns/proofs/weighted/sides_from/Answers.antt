-- `columns::sides_from` meets its contract: each width writes its columns, of which the first begins at b or before it, and the last is behind b.
use Rattle.columns.specs.Weighted.{entries_side}
use Rattle.linear.proofs.CrossSums.{begin_within}
use Rattle.columns.proofs.WeightedSums.{columns_further}
use native.Mathlib.Omega.{arith}
use Rattle.columns.proofs.weighted.sides_from.Goals as goal

pub returns-then-p-lt2 : goal.returns-then-p-lt2
returns-then-p-lt2 c =
    let a = c.args in
    columns_further (entries_side a.zt.now.columns.now a.zt.now.values.now a.x.now a.p a.w.now a.begin a.end) a.p a.b a.b 1 a.out.now _ (omega arith) (omega arith) (omega arith) (omega arith) c.some_sides.ensures

pub returns-then-p-lt6 : goal.returns-then-p-lt6
returns-then-p-lt6 c =
    let a = c.args in
    let within = begin_within a.b a.p 2 _ (omega arith) (omega arith) (omega arith) c.begin_at-o.ensures in
    columns_further (entries_side a.zt.now.columns.now a.zt.now.values.now a.x.now a.p a.w.now a.begin a.end) a.p a.b _ 2 a.out.now _ within.0 within.1 within.2 (omega arith) c.some_sides-then-p-lt6.ensures

pub returns : goal.returns
returns c =
    let a = c.args in
    let within = begin_within a.b a.p 6 _ (omega arith) (omega arith) (omega arith) c.begin_at-o-2.ensures in
    columns_further (entries_side a.zt.now.columns.now a.zt.now.values.now a.x.now a.p a.w.now a.begin a.end) a.p a.b _ 6 a.out.now _ within.0 within.1 within.2 (omega arith) c.some_sides-2.ensures
