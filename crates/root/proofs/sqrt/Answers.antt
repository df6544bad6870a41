-- `root::sqrt` meets its contract: each test leaves one case of the definition, and the last the numbers above zero, by their bits.
use Rattle.std.proofs.Common.{T, sym, ap, ◌∙◌, rules}
use lib.Ieee.{Float, binary64, fits, eq}
use lib.Ieee.Bits.{of_bits-to_bits}
use Rattle.base.proofs.Doubles.{no_quotient}
use Rattle.root.proofs.Cases.{Above, left, of_nan, of_below, of_zero, of_infinity, of_above, pattern_above}
use Rattle.root.proofs.sqrt.Goals.{Else-x-infinity}
use Rattle.root.proofs.sqrt.Goals as goal

-- the argument where all four tests failed
abbrev arg : Else-x-infinity → Float
arg c = c.args.x

above : (c : Else-x-infinity) → Above (arg c)
above c =
    left (arg c) (sym c.is_nan.ensures ∙ c.if-is_nan.false)
    c.if-x.false c.if-x-2.false
    (sym (ap (λ (y : Float). eq (arg c) y) c.infinity.ensures) ∙ c.if-x-infinity.false)

pub returns-then-is_nan : goal.returns-then-is_nan
returns-then-is_nan c = of_nan _ (sym c.is_nan.ensures ∙ c.if-is_nan.true)

pub returns-then-x : goal.returns-then-x
returns-then-x c = no_quotient ∙ of_below _ c.if-x.true

pub returns-then-x-2 : goal.returns-then-x-2
returns-then-x-2 c = of_zero _ c.if-x-2.true

pub returns-then-x-infinity : goal.returns-then-x-infinity
returns-then-x-infinity c = of_infinity _ (rw c.infinity.ensures at c.if-x-infinity.true)

pub root_above-requires : goal.root_above-requires
root_above-requires c =
    let f : T (fits binary64 (arg (goal.at.root_above-requires c).Else-x-infinity)) = search rules in
    rw c.pattern.ensures (pattern_above (arg (goal.at.root_above-requires c).Else-x-infinity) (above (goal.at.root_above-requires c).Else-x-infinity) f)

pub returns : goal.returns
returns c =
    let f : T (fits binary64 (arg (goal.at.returns c).Else-x-infinity)) = search rules in
    rw (c.root_above.ensures, c.pattern.ensures, of_bits-to_bits binary64 (arg (goal.at.returns c).Else-x-infinity) f) (of_above (arg (goal.at.returns c).Else-x-infinity) (above (goal.at.returns c).Else-x-infinity))
