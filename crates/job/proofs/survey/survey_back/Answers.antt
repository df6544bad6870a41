-- `job::survey_back` meets its contract: what each call answers is the definition's, and the first fault ends it. Assumes nothing.
use mathlib.Core.Path.{◌≡◌, sym, ap, ◌∙◌}
use mathlib.Core.Bool.{true}
use native.Mathlib.Omega.{arith}
use Rattle.bits.proofs.BitLaws.{bits_below}
use Rattle.job.specs.declared.head.Head.{Head}
use Rattle.job.specs.Format.{sizes_fit}
use Rattle.job.specs.Places.{counts_of, places_of}
use Rattle.job.proofs.FaultLaws.{allowed, refused}
use Rattle.job.proofs.SizeLaws.{head_short, sizes_small, counted, placed}
use Rattle.job.proofs.SurveyLaws.{back_fault, back_unfit, back_faulty, back_sound, fits_by_lem, shape_by, ranged_by, counts_by_lem, places_by_lem, back_by}
use Rattle.job.proofs.survey.survey_back.Goals.{After-back_fault, After-counts_in-counts, After-places_in-places, In_ok-demand}
use Rattle.job.proofs.survey.survey_back.Goals as goal

-- what each step shows, from what the steps before it showed
fits : (c : In_ok-demand) → sizes_fit c.args.s.now ≡ true
fits c =
    fits_by_lem c.args.s.now c.args.head c.shape_in-shape.result true c.requires.1 c.shape_in-shape.ensures
    (sym c.sizes_fit.ensures ∙ allowed _ 1 0 _ (sym c.demand.ensures ∙ c.in_ok-demand.was))

counted_is : (c : After-counts_in-counts) → sizes_fit c.args.s.now ≡ true → c.counts_in-counts.result ≡ counts_of c.args.s.now
counted_is c f = counts_by_lem c.args.s.now c.args.head c.shape_in-shape.result c.counts_in-counts.result f c.requires.1 c.shape_in-shape.ensures c.counts_in-counts.ensures

placed_is : (c : After-places_in-places) → c.counts_in-counts.result ≡ counts_of c.args.s.now → c.places_in-places.result ≡ places_of c.args.s.now
placed_is c n = places_by_lem c.args.s.now c.blocks_at.result c.args.head c.counts_in-counts.result c.places_in-places.result c.blocks_at.ensures c.requires.1 n c.places_in-places.ensures

fault_is : (c : After-back_fault) → c.counts_in-counts.result ≡ counts_of c.args.s.now → c.places_in-places.result ≡ places_of c.args.s.now
    → c.back_fault.result ≡ back_fault c.args.s.now
fault_is c n p = back_by c.args.s.now c.back_fault.result c.counts_in-counts.result c.places_in-places.result n p c.back_fault.ensures

pub returns-in_err-demand : goal.returns-in_err-demand
returns-in_err-demand c =
    back_unfit c.args.s.now c.sizes_fit.result c.in_err-demand.field-0.0 c.from_residual.result
    (fits_by_lem c.args.s.now c.args.head c.shape_in-shape.result c.sizes_fit.result c.requires.1 c.shape_in-shape.ensures (sym c.sizes_fit.ensures))
    (sym c.demand.ensures ∙ c.in_err-demand.was)
    (refused _ _ c.from_residual.ensures.1)

pub counts_in-counts-requires : goal.counts_in-counts-requires
counts_in-counts-requires c = ranged_by c.args.s.now c.args.head c.shape_in-shape.result (fits c) c.requires.1 c.shape_in-shape.ensures

pub overflow_mul-head : goal.overflow_mul-head
overflow_mul-head c = omega (arith, bits_below c.args.s.now 34 4, ap (λ (h : Head). h.blocks) c.requires.1)

pub overflow_add-blocks_at : goal.overflow_add-blocks_at
overflow_add-blocks_at c = omega (arith, bits_below c.args.s.now 34 4, ap (λ (h : Head). h.blocks) c.requires.1, head_short c.args.s.now, c.blocks_at.ensures)

pub places_in-places-requires : goal.places_in-places-requires
places_in-places-requires c =
    let at = goal.at.places_in-places-requires c in
    let f = fits at.In_ok-demand in (
      omega (arith, bits_below c.args.s.now 34 4, ap (λ (h : Head). h.blocks) c.requires.1, head_short c.args.s.now, c.blocks_at.ensures),
      (counted c.args.s.now (sizes_small c.args.s.now f) c.counts_in-counts.result (counted_is at.After-counts_in-counts f)).1,
    )

pub back_fault-requires : goal.back_fault-requires
back_fault-requires c =
    let at = goal.at.back_fault-requires c in
    let f = fits at.In_ok-demand in
    let m = sizes_small c.args.s.now f in
    let n = counted_is at.After-counts_in-counts f in
    (c.requires.0, (placed c.args.s.now m c.places_in-places.result (placed_is at.After-places_in-places n)).1, (counted c.args.s.now m c.counts_in-counts.result n).1.q_few)

pub returns-in_err-back_fault : goal.returns-in_err-back_fault
returns-in_err-back_fault c =
    let at = goal.at.returns-in_err-back_fault c in
    let f = fits at.In_ok-demand in
    let n = counted_is at.After-counts_in-counts f in
    back_faulty c.args.s.now c.back_fault.result c.in_err-back_fault.field-0.0 _ f (fault_is at.After-back_fault n (placed_is at.After-places_in-places n)) c.in_err-back_fault.was
    (refused _ _ c.from_residual-in_err-back_fault.ensures.1)

pub returns : goal.returns
returns c =
    let s = c.args.s.now in
    let at = goal.at.returns c in
    let f = fits at.In_ok-demand in
    let n = counted_is at.After-counts_in-counts f in
    let p = placed_is at.After-places_in-places n in
    back_sound s c.back_fault.result _ _ _ _ _ f (fault_is at.After-back_fault n p) c.in_ok-back_fault.was c.requires.1 (shape_by s c.shape_in-shape.result f c.shape_in-shape.ensures) n p
