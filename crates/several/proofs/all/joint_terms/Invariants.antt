-- `several::joint_terms` meets its contract: before point i the first i terms are written, and û, whose squares are summed once, stands as it stood.
use mathlib.Core.Path.{◌≡◌}
use Prim.Native.Nat.{◌*◌, ◌-◌, ◌≤◌}
use Rattle.base.specs.Sum.{dot_of}
use Rattle.base.specs.Rows.{row}
use Rattle.agq.specs.Gained.{gain_for}
use Rattle.several.specs.Several.{joint_term_in, TermsIn}
use Rattle.several.proofs.all.joint_terms.Given as goal

abbrev pub invariant-loop-i : goal.invariant-loop-i
invariant-loop-i l = (l.hats ≡ dot_of l.given.design.q (row l.u l.given.design.q l.initial.m) (row l.u l.given.design.q l.initial.m))
    × (TermsIn
    (joint_term_in (gain_for l.given l.xbeta l.initial.r) l.given.design.q l.inv_phi l.nodes l.node_logs l.size
    (row l.l (l.given.design.q * l.given.design.q) l.initial.m) (row l.u l.given.design.q l.initial.m)) l.given.design.n l.given.design.q l.xbeta l.trial l.i l.initial.r l.r l.initial.m l.m l.initial.terms l.terms)
