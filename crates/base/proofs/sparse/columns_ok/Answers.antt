-- `base::columns_ok` meets its contract: `all` asks of each entry of the row what the definition asks.
use mathlib.Core.Path.{refl, ◌∙◌}
use Prim.Native.Nat.{◌-◌}
use native.Mathlib.Omega.{arith}
use borrow.Author.Rules.{rules}
use borrow.Author.Tests.{tests}
use Rattle.std.proofs.lemmas.Iterator.{YieldsList-from_range}
use Rattle.std.proofs.lemmas.Iterator.Search.{all_from_yields_List}
use Rattle.base.specs.Sparse.{column_fits, good_columns}
use Rattle.base.proofs.Every.{every_index}
use Rattle.base.proofs.sparse.columns_ok.Goals as goal

pub returns : goal.returns
unfolding good_columns
returns c =
    let count = c.args.e - c.args.b in
    let fits = column_fits c.args.columns.now c.args.n c.args.b in
    all_from_yields_List fits _ _ _ c.all.ensures.ran (YieldsList-from_range 0 count count refl (omega arith)) (λ x b q k. search (rules, tests)) ∙ every_index fits count
