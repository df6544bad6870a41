-- `agq::one_terms` meets its contract: before node i the first i terms are written, and what a point is made of has not changed.
use mathlib.Core.Path.{◌≡◌}
use Prim.Native.Nat.{◌+◌}
use lib.ListN.{length}
use Rattle.base.specs.List.{fill_to}
use Rattle.base.specs.Rows.{row, Only}
use Rattle.stored.specs.Stored.{sparse}
use Rattle.agq.specs.One.{one_term_at_node}
use Rattle.agq.proofs.one.one_terms.Given as goal

abbrev pub invariant-loop-i : goal.invariant-loop-i
invariant-loop-i l = (length l.terms ≡ length l.initial.terms)
    × (l.terms ≡ fill_to l.i
    (one_term_at_node l.given.family l.given.link l.given.design.shape l.given.design.theta.now (sparse l.given.design.zt.starts.now l.given.design.zt.columns.now l.given.design.zt.values.now) l.given.y.now l.given.weights.now l.given.design.offset.now l.given.design.n l.given.design.q l.xbeta l.g l.sigma l.inv_phi (row l.u l.given.design.q l.initial.m) l.initial.r (row l.trial l.given.design.q l.initial.m) l.nodes
    l.node_logs) l.initial.terms) × (Only l.trial (l.given.design.q + l.given.design.q) l.initial.m l.m) × (Only (l.xbeta + l.given.design.n + l.given.design.n) l.given.design.n l.initial.r l.r) × (Only l.g 1 (row l.trial l.given.design.q l.initial.m) (row l.trial l.given.design.q l.m))
