-- `factor::rows_dot` meets its contract: the part lent to the product begins with row j.
use Prim.Native.Nat.{◌-◌}
use lib.ListN.{length}
use native.Mathlib.Omega.{arith}
use Rattle.factor.proofs.CholeskyRows.{rows_product}
use Rattle.factor.proofs.factors.rows_dot.Goals as goal

pub returns : goal.returns
returns c =
    let x = c.args.x.now in
    let jo = c.offset-jo.result in
    rows_product _ _ _ _ jo _ (length x - jo) x _ c.dot_from.ensures c.offset-io.ensures.0 c.offset-jo.ensures.0 (omega arith)
