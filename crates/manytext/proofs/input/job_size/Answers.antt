-- `manytext::job_size` meets its contract: sixteen bits and eight bits behind them are three bytes. Assumes nothing.
use native.Mathlib.Omega.{arith}
use Rattle.manytext.proofs.Reading.{size_is}
use Rattle.manytext.proofs.input.job_size.Goals as goal

pub returns : goal.returns
returns c =
    let high = c.field_at-high.ensures in
    let low = c.field_at-low.ensures in
    (size_is _ _ _ high.0 low.0, omega (arith, high.1, low.1))
