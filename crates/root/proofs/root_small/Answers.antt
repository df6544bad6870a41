-- `root::root_small` meets its contract: shifting t and lowering the exponent as far leave the number as it is.
use Rattle.std.proofs.Common.{ℕ, ◌-◌, ◌<◌, ap, refl, ◌∙◌, arith}
use lib.Count.{count_leading_zeros}
use Rattle.root.specs.Sqrt.{root_of}
use Rattle.root.proofs.Place.{shifted, halved}
use Rattle.root.proofs.root_small.Goals as goal

-- t is doubled fewer than 53 times: so many places are what it is shifted by
pub turns_few : (t : ℕ) → 0 < t → t < 0x10_0000_0000_0000 → count_leading_zeros 64 t - 11 < 53
turns_few t a b = (shifted t a b).few

pub overflow_sub-n : goal.overflow_sub-n
overflow_sub-n c = (shifted c.args.t c.requires.0 c.requires.1).enough

pub root_at-requires : goal.root_at-requires
root_at-requires c = let s = shifted c.args.t c.requires.0 c.requires.1 in rw s.whole (s.digits, omega arith)

pub returns : goal.returns
returns c =
    let s = shifted c.args.t c.requires.0 c.requires.1 in
    c.root_at.ensures ∙ rw s.whole (ap root_of (halved c.args.t _ _ s.few refl))
