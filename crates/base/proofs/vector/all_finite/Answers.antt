-- `base::all_finite` meets its contract: `all` asks of each of the first n entries whether it is finite.
use mathlib.Core.Path.{◌∙◌}
use lib.ListN.{take}
use borrow.Author.Rules.{rules}
use borrow.Author.Tests.{tests}
use Rattle.std.proofs.lemmas.Iterator.{YieldsList-from_slice}
use Rattle.std.proofs.lemmas.Iterator.Search.{all_from_yields_List}
use Rattle.base.specs.Number.{finite}
use Rattle.base.proofs.Every.{every_entry}
use Rattle.base.proofs.vector.all_finite.Goals as goal

pub returns : goal.returns
returns c =
    all_from_yields_List finite _ _ _ c.all.ensures.ran (YieldsList-from_slice (take c.args.n c.args.a.now) cc) (λ x b q k. search (rules, tests))
    ∙ every_entry finite c.args.a.now c.args.n c.requires
