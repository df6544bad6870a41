-- `tries::tries` meets its contract: before each try what is left of the rule's search, counted on, is the whole.
use Prim.Native.Nat.{◌-◌}
use Rattle.tries.specs.Told.{trial_in}
use Rattle.tries.proofs.Counted.{Going}
use Rattle.tries.proofs.search.tries.Given as goal

abbrev pub invariant-loop-made : goal.invariant-loop-made
invariant-loop-made l = Going (trial_in l.link l.n l.q l.prev l.raw l.u l.w l.z l.initial.rows) l.next l.mu l.cap l.initial.rows l.rows l.step l.made

abbrev pub decreases-loop-made : goal.decreases-loop-made
decreases-loop-made l = l.cap - l.made.tries
