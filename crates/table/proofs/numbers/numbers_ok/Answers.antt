-- `table::numbers_ok` meets its contract: by its six tests in order.
use mathlib.Core.Path.{refl, sym, ◌∙◌}
use Rattle.table.specs.Tests.{finite_numbers}
use Rattle.table.proofs.numbers.numbers_ok.Goals as goal

pub returns-then-not-list_ok : goal.returns-then-not-list_ok
unfolding finite_numbers
returns-then-not-list_ok c = rw (sym c.list_ok.ensures ∙ c.if-not-list_ok.true) refl

pub returns-then-not-list_ok-2 : goal.returns-then-not-list_ok-2
unfolding finite_numbers
returns-then-not-list_ok-2 c = rw (sym c.list_ok.ensures ∙ c.if-not-list_ok.false, sym c.list_ok-2.ensures ∙ c.if-not-list_ok-2.true) refl

pub returns-then-not-list_ok-3 : goal.returns-then-not-list_ok-3
unfolding finite_numbers
returns-then-not-list_ok-3 c =
    rw (
      sym c.list_ok.ensures ∙ c.if-not-list_ok.false,
      sym c.list_ok-2.ensures ∙ c.if-not-list_ok-2.false,
      sym c.list_ok-3.ensures ∙ c.if-not-list_ok-3.true,
    ) refl

pub returns-then-not-list_ok-4 : goal.returns-then-not-list_ok-4
unfolding finite_numbers
returns-then-not-list_ok-4 c =
    rw (
      sym c.list_ok.ensures ∙ c.if-not-list_ok.false,
      sym c.list_ok-2.ensures ∙ c.if-not-list_ok-2.false,
      sym c.list_ok-3.ensures ∙ c.if-not-list_ok-3.false,
      sym c.list_ok-4.ensures ∙ c.if-not-list_ok-4.true,
    ) refl

pub returns-then-not-list_ok-5 : goal.returns-then-not-list_ok-5
unfolding finite_numbers
returns-then-not-list_ok-5 c =
    rw (
      sym c.list_ok.ensures ∙ c.if-not-list_ok.false,
      sym c.list_ok-2.ensures ∙ c.if-not-list_ok-2.false,
      sym c.list_ok-3.ensures ∙ c.if-not-list_ok-3.false,
      sym c.list_ok-4.ensures ∙ c.if-not-list_ok-4.false,
      sym c.list_ok-5.ensures ∙ c.if-not-list_ok-5.true,
    ) refl

pub returns : goal.returns
unfolding finite_numbers
returns c =
    rw (
      sym c.list_ok.ensures ∙ c.if-not-list_ok.false,
      sym c.list_ok-2.ensures ∙ c.if-not-list_ok-2.false,
      sym c.list_ok-3.ensures ∙ c.if-not-list_ok-3.false,
      sym c.list_ok-4.ensures ∙ c.if-not-list_ok-4.false,
      sym c.list_ok-5.ensures ∙ c.if-not-list_ok-5.false,
    ) c.list_ok-6.ensures
