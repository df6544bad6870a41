-- `tries::tries` meets its contract: before each try what is left of the rule's search, counted on, is the whole.
use Rattle.tries.proofs.Counted.{starts, ends, sum_fits, moved, halved, counts_one}
use native.Mathlib.Omega.{arith}
use mathlib.Core.Path.{◌≡◌, refl}
use mathlib.Core.List.{List}
use lib.Ieee.{Float}
use Rattle.std.specs.Prelude.{Err}
use Rattle.rule.specs.Try.{refused}
use Rattle.tries.specs.Told.{tell_try, fate_of}
use Rattle.tries.specs.declared.search.TryRefusal.{TryRefusal}
use Rattle.tries.specs.declared.search.TryRefusal.TheVariants.{Eta, Mean, Pwrss}
use Rattle.tries.proofs.search.tries.Goals as goal

-- a try that was turned down is told as the fate that it met
told_err : (e : TryRefusal) (y m : List Float) → tell_try (Err e) y m ≡ refused (fate_of (Err e))
told_err Eta y m = refl
told_err Mean y m = refl
told_err Pwrss y m = refl

pub loop-made-init : goal.loop-made-init
loop-made-init c = starts _ _ _ _ _ _ c.tries_cap-cap.ensures c.none-made.ensures

pub plus-made-requires : goal.plus-made-requires
plus-made-requires c = sum_fits _ _ _ _ _ _ _ _ _ c.one_try-t.result c.loop-made.invariant c.of_try.ensures

pub returns-in-Ok : goal.returns-in-Ok
returns-in-Ok c =
    moved _ _ _ _ _ _ _ _ _ _ _ _ _ _ _ _ _ c.requires c.loop-made.invariant c.loop-made-test.true c.one_try-t.ensures _ _ c.of_try.ensures
    c.plus-made.ensures _ c.in-Ok.is

pub loop-made-smaller : goal.loop-made-smaller
loop-made-smaller c = omega (arith, c.loop-made-test.true, counts_one _ _ _ c.one_try-t.result c.of_try.ensures c.plus-made.ensures)

pub loop-made-preserved : goal.loop-made-preserved
loop-made-preserved c =
    halved _ _ _ _ _ _ _ _ _ _ _ _ _ _ _ _ _ c.requires c.loop-made.invariant c.loop-made-test.true c.one_try-t.ensures _ _ c.of_try.ensures
    c.plus-made.ensures (rw c.in_default.is (told_err _ _ _))

pub returns : goal.returns
returns c = ends _ _ _ _ _ _ _ _ c.loop-made.invariant (omega (arith, c.loop-made-test.false))
