-- `scale::block_scale` meets its contract: each call leaves what the next one reads, and each end is the rule's.
use mathlib.Core.Path.{refl}
use Rattle.scale.proofs.SectionCopied.{square_within}
use Rattle.scale.proofs.ScaleFound.{not_inverted, scale_left, told_by}
use native.Mathlib.Omega.{arith}
use Rattle.std.specs.Prelude.{⊤}
use Rattle.std.proofs.Common.{◌≡◌, Result, Err, sym, ◌∙◌, rules}
use Rattle.quadrature.specs.declared.orders.Decline.{Decline}
use Rattle.quadrature.specs.declared.orders.Decline.TheVariants.{Inverse, Factor}
use Rattle.scale.proofs.scales.block_scale.Goals as goal

pub returns-in_err-map_err : goal.returns-in_err-map_err
returns-in_err-map_err c =
    let args = c.args in
    let e : ◌≡◌ {A = Result ⊤ Decline} c.from_residual.result (Err c.in_err-map_err.field-0.0) = search rules in
    rw e
    (not_inverted args.q args.s args.k _ _ args.m.now _ args.t.now _ _ c.inverse_at-place.ensures refl
    (omega (arith, c.requires.matrices, square_within args.q args.s args.k c.requires.within, c.inverse_at-place.ensures))
    (omega (arith, c.requires.terms, square_within args.q args.s args.k c.requires.within)) c.section_into.ensures
    c.ldl.auto.out c.ldl.ensures _ (sym (told_by Inverse _ _ (λ i y l. search rules) c.map_err.ensures.cases) ∙ c.in_err-map_err.was))

pub returns : goal.returns
returns c =
    let args = c.args in
    scale_left args.q args.s args.k _ _ args.m.now _ args.t.now _ _ c.inverse_at-place.ensures refl
    (omega (arith, c.requires.matrices, square_within args.q args.s args.k c.requires.within, c.inverse_at-place.ensures))
    (omega (arith, c.requires.terms, square_within args.q args.s args.k c.requires.within)) c.section_into.ensures
    c.ldl.auto.out c.ldl.ensures _ _ _ _ (sym (told_by Inverse _ _ (λ i y l. search rules) c.map_err.ensures.cases) ∙ c.in_ok-map_err.was) c.ldl_inverse.auto.out
    c.ldl_inverse.ensures c.cholesky.auto.a c.cholesky.ensures _ (told_by Factor _ _ (λ i y l. search rules) c.map_err-2.ensures.cases)
