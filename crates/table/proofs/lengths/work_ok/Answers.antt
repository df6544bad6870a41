-- `table::work_ok` meets its contract: each test that fails is a fact that good work slices have, and after all others the terms decide.
use native.Mathlib.Omega.{arith}
use Rattle.table.proofs.Meant.{not_work, work_when}
use Rattle.table.proofs.lengths.work_ok.Goals as goal

pub returns-then-lent-rows_length : goal.returns-then-lent-rows_length
returns-then-lent-rows_length c = not_work _ _ (λ g. omega (arith, c.if-lent-rows_length.true, c.rows_length.ensures, g.rows))

pub returns-then-lent-matrices_length : goal.returns-then-lent-matrices_length
returns-then-lent-matrices_length c = not_work _ _ (λ g. omega (arith, c.if-lent-matrices_length.true, c.matrices_length.ensures, g.matrices))

pub returns : goal.returns
returns c =
    rw c.terms_length.ensures
    (work_when c.args.settings c.args.lent (omega (arith, c.if-lent-rows_length.false, c.rows_length.ensures))
    (omega (arith, c.if-lent-matrices_length.false, c.matrices_length.ensures)))
