-- `iteration::solve_into` meets its contract: each part leaves what the rule's next definition is said of.
use mathlib.Core.Path.{◌≡◌}
use Rattle.std.proofs.Common.{rules}
use Rattle.std.specs.Prelude.{Result, Err, ⊤}
use Rattle.model.specs.declared.ends.End.{End}
use Rattle.model.specs.declared.ends.End.TheVariants.{SystemPivot, NormalPivot}
use Rattle.iteration.proofs.SolveMade.{end_mapped, ok_mapped, system_ends, normal_ends, solve_finds}
use Rattle.iteration.proofs.solving.solve_into.Goals as goal

pub returns-in_err-map_err : goal.returns-in_err-map_err
returns-in_err-map_err c =
    let d = c.args.design.now in
    let e : ◌≡◌ {A = Result ⊤ End} c.from_residual.result (Err c.in_err-map_err.field-0.0) = search rules in
    let h = end_mapped SystemPivot c.factor_system.result c.map_err.result c.map_err.ensures.cases (λ i y l. search rules) _ c.in_err-map_err.was in
    rw (e, h.2)
    (system_ends d.n d.p d.q c.w_at.result _ d.shape d.theta.now d.offset.now d.x.now _ _ _ _ _ _ _
    c.requires.ready.effects c.requires.work_room c.w_at.ensures c.factor_system.ensures h.1)

pub returns-in_err-map_err-2 : goal.returns-in_err-map_err-2
returns-in_err-map_err-2 c =
    let d = c.args.design.now in
    let e : ◌≡◌ {A = Result ⊤ End} c.from_residual-in_err-map_err-2.result (Err c.in_err-map_err-2.field-0.0) = search rules in
    let h = end_mapped NormalPivot c.solve_root.result c.map_err-2.result c.map_err-2.ensures.cases (λ i y l. search rules) _ c.in_err-map_err-2.was in
    rw (e, h.2)
    (normal_ends d.n d.p d.q c.w_at.result _ d.shape d.theta.now d.offset.now d.x.now _ _ _ _ _ _ _
    c.requires.ready.effects c.requires.work_room c.w_at.ensures c.factor_system.ensures _ _ _ _ _ (ok_mapped _ _ _ c.map_err.ensures.cases _ c.in_ok-map_err.was)
    c.right_sides.ensures c.solve_root.ensures h.1)

pub returns : goal.returns
returns c =
    let d = c.args.design.now in
    solve_finds d.n d.p d.q c.w_at.result 0 d.shape d.theta.now d.offset.now d.x.now _ _ _ _ _ _ _
    c.requires.ready.effects c.requires.work_room c.w_at.ensures c.factor_system.ensures _ _ _ _ _ (ok_mapped _ _ _ c.map_err.ensures.cases _ c.in_ok-map_err.was)
    c.right_sides.ensures c.solve_root.ensures _ _ _ (ok_mapped _ _ _ c.map_err-2.ensures.cases _ c.in_ok-map_err-2.was) c.raw_into.ensures
