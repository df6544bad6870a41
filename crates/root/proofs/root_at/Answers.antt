-- `root::root_at` meets its contract: the exponent's half is the root's place, and its parity decides between s and 2 s.
use Rattle.std.proofs.Common.{◌*◌, arith}
use Rattle.root.proofs.Squares.{root_digits}
use Rattle.root.proofs.Place.{at_even, at_odd}
use Rattle.root.proofs.root_at.Goals.{then-e-eq0, else-e-eq0}
use Rattle.root.proofs.root_at.Goals as goal

pub overflow_add-k-2 : goal.overflow_add-k-2
overflow_add-k-2 c =
    elim c.if-e-eq0.branch [
      | then-e-eq0 w ↦ let d = root_digits (c.args.s * 2) (omega arith) (omega arith) in let n = rw w.near_root-is at c.near_root-near.ensures in omega (arith, n, d)
      | else-e-eq0 w ↦ let d = root_digits c.args.s (omega arith) (omega arith) in let n = rw w.near_root-is at c.near_root-near.ensures in omega (arith, n, d)
    ]

pub returns : goal.returns
returns c =
    elim c.if-e-eq0.branch [
      | then-e-eq0 w ↦ rw (c.double.ensures, c.near_root-near.ensures, w.near_root-is) (at_even c.args.s c.args.e c.requires.0 w.if-e-eq0.true)
      | else-e-eq0 w ↦ rw (c.double.ensures, c.near_root-near.ensures, w.near_root-is) (at_odd c.args.s c.args.e c.requires.0 w.if-e-eq0.false)
    ]
