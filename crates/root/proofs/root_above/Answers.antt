-- `root::root_above` meets its contract: a pattern's fields give its number of units, with the leading digit or without.
use Rattle.std.proofs.Common.{ℕ, ◌*◌, ◌^◌, sym, ap, ◌∙◌}
use Rattle.root.specs.Sqrt.{root_of}
use Rattle.root.proofs.Units.{units_small, units_normal}
use Rattle.root.proofs.root_above.Goals as goal

pub returns-then-e-eq0 : goal.returns-then-e-eq0
returns-then-e-eq0 c = c.root_small.ensures ∙ sym (ap (λ (n : ℕ). root_of (n * 2 ^ 1074)) (units_small c.args.b c.if-e-eq0.true))

pub returns : goal.returns
returns c = c.root_at.ensures ∙ sym (ap root_of (units_normal c.args.b c.requires.most c.if-e-eq0.false))
