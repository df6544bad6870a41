-- `jobfit::put_numbers` meets its contract: each group of lists stands behind the one before it. Assumes nothing.
use Rattle.results.specs.Nine.{nine}
use Rattle.jobfit.proofs.Behind.{numbers_laid}
use Rattle.jobfit.proofs.copies.put_numbers.Goals as goal

pub returns : goal.returns
returns c =
    let a = c.args in
    numbers_laid a.answer (nine a.beta.now a.se.now a.z.now a.u.now a.b.now a.mu.now a.eta.now a.residual.now a.v.now)
    a.out.now c.requires _ _ c.copy_three-fixed_end.ensures c.copy_three-fixed_end.auto.out _ _ c.copy_two-effects_end.ensures
    c.copy_two-effects_end.auto.out _ _ c.copy_three-rows_end.ensures c.copy_three-rows_end.auto.out _ _
    c.copy_behind.ensures
