-- `base::rows_ok` meets its contract: good starts keep every row within the columns, and `all` asks each row.
use mathlib.Core.Path.{refl, sym, ◌∙◌}
use Prim.Native.Nat.{◌+◌}
use native.Mathlib.Omega.{arith}
use borrow.Author.Rules.{rules}
use borrow.Author.Tests.{tests}
use Rattle.std.proofs.lemmas.Iterator.{YieldsList-from_range, serves_from_Range}
use Rattle.std.proofs.lemmas.Iterator.Search.{all_from_yields_List}
use Rattle.base.specs.Sparse.{good_row, good_rows}
use Rattle.base.proofs.Every.{every_index}
use Rattle.base.proofs.SparseRows.{starts_step, starts_within}
use Rattle.base.proofs.sparse.rows_ok.Goals as goal

pub all-requires-clause-callable : goal.all-requires-clause-callable
all-requires-clause-callable c =
    let good = sym c.if-starts_ok.true ∙ c.starts_ok.ensures in
    serves_from_Range (λ x q h. search (rules, tests)) (λ a low high. let rises = starts_step _ _ _ good a high in let within = starts_within _ _ _ good (a + 1) (omega arith) in search (rules, arith, rises, within, c.requires))

pub returns-then-starts_ok : goal.returns-then-starts_ok
unfolding good_rows good_row
returns-then-starts_ok c =
    let rows = c.args.rows in
    let test = good_row c.args.starts.now c.args.columns.now c.args.n in
    rw (sym c.starts_ok.ensures ∙ c.if-starts_ok.true)
    (all_from_yields_List test _ _ _ c.all.ensures.ran (YieldsList-from_range 0 rows rows refl (omega arith)) (λ x b q k. search (rules, tests)) ∙ every_index test rows)

pub returns-else-starts_ok : goal.returns-else-starts_ok
unfolding good_rows
returns-else-starts_ok c = rw (sym c.starts_ok.ensures ∙ c.if-starts_ok.false) c.if-starts_ok.false
