-- `names::blanks_before` meets its contract: what stands before place i is blank.
use mathlib.Core.Path.{◌≡◌, sym, ◌∙◌}
use lib.ListN.{length}
use native.Mathlib.Omega.{arith}
use Rattle.names.proofs.Trims.{front_next, front_stop, front_all}
use Rattle.names.proofs.blanks_before.Goals as goal

pub returns-then-not-is_blank : goal.returns-then-not-is_blank
returns-then-not-is_blank c = record { within = omega arith; rest = front_stop _ _ (omega arith) (sym c.is_blank.ensures ∙ c.if-not-is_blank.true) c.loop-i.invariant }

pub loop-i-preserved : goal.loop-i-preserved
loop-i-preserved c = front_next _ _ (omega arith) (sym c.is_blank.ensures ∙ c.if-not-is_blank.false) c.loop-i.invariant

pub returns : goal.returns
returns c =
    let q : c.loop-i.i ≡ length c.args.s.now = omega arith in
    rw (← q) (record { within = omega arith; rest = front_all c.args.s.now c.loop-i.i (omega arith) c.loop-i.invariant })
