-- `columns::dots_into` meets its contract: the part is filled with the products, the weights and the numbers z - offset being rows of t and r.
use mathlib.Core.Path.{refl}
use Rattle.base.proofs.Rows.{part_is, filled_part}
use Rattle.columns.proofs.sums.dots_into.Goals as goal

pub returns : goal.returns
returns c =
    let args = c.args in
    rw (← part_is args.w args.n _ args.t.now refl, ← part_is args.working args.n _ args.r.now refl)
    (filled_part args.beta args.p _ _ args.m.now c.weighted_dots.new.out refl c.requires.3
    c.weighted_dots.auto.out c.weighted_dots.ensures)
