-- `table::inputs_ok` meets its contract: each test that fails is a fact that good inputs have, and after all others the values decide.
use mathlib.Core.Path.{sym, ◌∙◌}
use mathlib.Core.Bool.{true≢false}
use native.Mathlib.Omega.{arith}
use Rattle.model.proofs.Sized.{sized}
use Rattle.layout.proofs.Bounds.{products}
use Rattle.table.proofs.Meant.{or_absent, not_inputs, inputs_when, many_few}
use Rattle.table.proofs.lengths.inputs_ok.Goals as goal

pub theta_length-requires : goal.theta_length-requires
theta_length-requires c = let z = sized c.args.settings c.args.shape c.requires.0 in z.shape

pub overflow_mul-responses : goal.overflow_mul-responses
overflow_mul-responses c = let z = sized c.args.settings c.args.shape c.requires.0 in omega (arith, many_few 512 c.requires.1 z.sizes.n_few)

pub returns-then-not-absent_or : goal.returns-then-not-absent_or
returns-then-not-absent_or c =
    not_inputs _ _ _ _
    (λ g. true≢false (sym (or_absent _ c.args.lists.now.weights.now g.weights) ∙ sym c.absent_or.ensures ∙ c.if-not-absent_or.true))

pub returns-then-not-absent_or-2 : goal.returns-then-not-absent_or-2
returns-then-not-absent_or-2 c =
    not_inputs _ _ _ _
    (λ g. true≢false (sym (or_absent _ c.args.lists.now.offset.now g.offset) ∙ sym c.absent_or-2.ensures ∙ c.if-not-absent_or-2.true))

pub overflow_mul-settings : goal.overflow_mul-settings
overflow_mul-settings c = let z = sized c.args.settings c.args.shape c.requires.0 in omega (arith, (products z.sizes).np)

pub overflow_add-settings : goal.overflow_add-settings
overflow_add-settings c = let z = sized c.args.settings c.args.shape c.requires.0 in omega (arith, z.sizes.q_few)

pub returns-then-lists-theta_length : goal.returns-then-lists-theta_length
returns-then-lists-theta_length c = not_inputs _ _ _ _ (λ g. c.if-lists-theta_length.true (g.theta ∙ sym c.theta_length.ensures))

pub returns-then-lists-responses : goal.returns-then-lists-responses
returns-then-lists-responses c = not_inputs _ _ _ _ (λ g. c.if-lists-responses.true g.y)

pub returns-then-lists-settings : goal.returns-then-lists-settings
returns-then-lists-settings c = not_inputs _ _ _ _ (λ g. c.if-lists-settings.true g.x)

pub returns-then-lists-settings-2 : goal.returns-then-lists-settings-2
returns-then-lists-settings-2 c = not_inputs _ _ _ _ (λ g. c.if-lists-settings-2.true g.starts)

pub returns-then-lists-settings-3 : goal.returns-then-lists-settings-3
returns-then-lists-settings-3 c = not_inputs _ _ _ _ (λ g. c.if-lists-settings-3.true g.columns)

pub returns : goal.returns
returns c =
    inputs_when _ _ _ _ (c.if-lists-theta_length.false ∙ c.theta_length.ensures) c.if-lists-responses.false
    (sym c.absent_or.ensures ∙ c.if-not-absent_or.false) (sym c.absent_or-2.ensures ∙ c.if-not-absent_or-2.false) c.if-lists-settings.false
    c.if-lists-settings-2.false c.if-lists-settings-3.false
