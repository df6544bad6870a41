-- `stored::ztwz_entry` meets its contract: where it does not look, the rows share no observation, and the sum is +0.0.
use borrow.Author.Tests.{ltb-true}
use mathlib.Core.Path.{sym, ◌∙◌}
use native.Mathlib.Omega.{arith}
use Rattle.stored.specs.Lent.{sparse_in}
use Rattle.stored.proofs.Apart.{disjoint_sum}
use Rattle.stored.proofs.weighted.ztwz_entry.Goals.{then-b-low, else-b-low}
use Rattle.stored.proofs.weighted.ztwz_entry.Goals as goal

pub returns-then-rows-b : goal.returns-then-rows-b
returns-then-rows-b c =
    let near = c.if-b-a.true in
    disjoint_sum (sparse_in c.args.zt.now) c.args.rows c.args.n c.args.w.now c.args.a c.args.b c.requires.rows c.requires.a_lt_rows.0 (omega arith) (elim c.if-b-low.branch [
      | then-b-low w ↦ c.requires.between.before c.args.b near w.if-b-low.true
      | else-b-low w ↦ c.requires.between.behind c.args.b near (ltb-true _ _ (sym w.value-is ∙ c.if-rows-b.true))
    ])
