-- `names::kept` meets its contract: what stands from place i on is blank.
use mathlib.Core.Path.{◌≡◌, sym, ◌∙◌}
use Prim.Native.Nat.{◌+◌, ◌-◌}
use native.Mathlib.Omega.{arith}
use Rattle.names.proofs.Trims.{end_next, end_stop, end_all}
use Rattle.names.proofs.kept.Goals as goal

pub returns-then-not-is_blank : goal.returns-then-not-is_blank
returns-then-not-is_blank c =
    let q : c.loop-i.i - 1 + 1 ≡ c.loop-i.i = omega arith in
    rw q (record { within = omega arith; rest = end_stop _ _ (omega arith) (omega arith) (sym c.is_blank.ensures ∙ c.if-not-is_blank.true) c.loop-i.invariant })

pub loop-i-preserved : goal.loop-i-preserved
loop-i-preserved c = end_next _ _ (omega arith) (omega arith) (sym c.is_blank.ensures ∙ c.if-not-is_blank.false) c.loop-i.invariant

pub returns : goal.returns
returns c =
    let q : c.loop-i.i ≡ 0 = omega arith in
    rw (← q) (record { within = omega arith; rest = end_all c.args.s.now c.loop-i.i (omega arith) c.loop-i.invariant })
