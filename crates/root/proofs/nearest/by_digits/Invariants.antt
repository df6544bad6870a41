-- `root::nearest::by_digits` meets its contract: each turn finds the next digit, as the definition does, and after 53 turns none is left.
use Rattle.std.proofs.Common.{◌≡◌, ◌+◌, ◌-◌, ◌*◌, ◌^◌, ◌≤◌}
use Rattle.root.specs.Sqrt.{nearest_from}
use Rattle.root.proofs.nearest.by_digits.Given as goal

abbrev pub invariant-loop-k : goal.invariant-loop-k
invariant-loop-k l = (l.q + 2 ^ (53 - l.k) ≤ 0x20_0000_0000_0000) × (nearest_from (53 - l.k) l.q (l.s * 0x10_0000_0000_0000) ≡ nearest_from 53 0 (l.s * 0x10_0000_0000_0000))
