-- `base::starts_ok` meets its contract: the two ends are tested first, then that no row falls.
use mathlib.Core.Path.{refl, sym, ◌∙◌}
use native.Mathlib.Omega.{arith}
use borrow.Author.Rules.{rules}
use borrow.Author.Tests.{eq-eqb, ne_eqb, tests}
use Rattle.std.proofs.lemmas.Iterator.{YieldsList-from_range}
use Rattle.std.proofs.lemmas.Iterator.Search.{all_from_yields_List}
use Rattle.base.specs.Sparse.{not_falling, good_starts}
use Rattle.base.proofs.Doubles.{ff}
use Rattle.base.proofs.Every.{every_index}
use Rattle.base.proofs.sparse.starts_ok.Goals as goal
use Rattle.base.proofs.sparse.starts_ok.Goals.{then-starts-eq0, else-starts-eq0}

pub returns-then-starts-rows : goal.returns-then-starts-rows
unfolding good_starts not_falling
returns-then-starts-rows c =
    let kept = not_falling c.args.starts.now in
    let asked = all_from_yields_List kept _ _ c.all.result c.all.ensures.ran (YieldsList-from_range 0 c.args.rows c.args.rows refl (omega arith)) (λ x b q k. search (rules, tests)) ∙ every_index kept c.args.rows in
    elim c.if-starts-eq0.branch [
      | then-starts-eq0 w ↦ rw (eq-eqb _ 0 w.if-starts-eq0.true, sym w.value-is ∙ c.if-starts-rows.true) asked
      | else-starts-eq0 w ↦ absurd (ff (sym (ne_eqb _ 0 w.if-starts-eq0.false) ∙ sym w.value-is ∙ c.if-starts-rows.true))
    ]

pub returns-else-starts-rows : goal.returns-else-starts-rows
unfolding good_starts
returns-else-starts-rows c =
    elim c.if-starts-eq0.branch [
      | then-starts-eq0 w ↦ rw (eq-eqb _ 0 w.if-starts-eq0.true, sym w.value-is ∙ c.if-starts-rows.false) c.if-starts-rows.false
      | else-starts-eq0 w ↦ rw (ne_eqb _ 0 w.if-starts-eq0.false) c.if-starts-rows.false
    ]
