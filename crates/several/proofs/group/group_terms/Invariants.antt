-- `several::group_terms` meets its contract: before point i the first i terms are written, and the trial row has changed in the group's places only.
use Prim.Native.Nat.{◌*◌, ◌-◌, ◌≤◌}
use Rattle.base.specs.Rows.{row, Only}
use Rattle.agq.specs.Gained.{gain_for}
use Rattle.several.specs.Several.{group_term_in, TermsIn}
use Rattle.several.proofs.group.group_terms.Given as goal

abbrev pub invariant-loop-i : goal.invariant-loop-i
invariant-loop-i l = (TermsIn
    (group_term_in (gain_for l.given l.xbeta l.initial.r) l.s l.k l.inv_phi l.nodes l.node_logs l.size
    (row l.l (l.k * l.k) l.initial.m) (row l.u l.given.design.q l.initial.m) (row l.trial l.given.design.q l.initial.m)) l.given.design.n l.given.design.q l.xbeta l.trial l.i l.initial.r l.r l.initial.m l.m l.initial.terms l.terms) × (Only l.s l.k (row l.trial l.given.design.q l.initial.m) (row l.trial l.given.design.q l.m))
