-- `fed::first_other` meets its contract: before turn i each place from `at` on holds the pattern.
use mathlib.Core.Path.{◌≡◌}
use Prim.Native.Nat.{ℕ, ◌<◌, ◌≤◌}
use Rattle.std.specs.Float.Ieee.{to_bits}
use Rattle.std.specs.Float.{binary64}
use Rattle.base.specs.Sum.{◌!◌}
use Rattle.fed.proofs.buffers.first_other.Given as goal

abbrev pub invariant-loop-i : goal.invariant-loop-i
invariant-loop-i l = (k : ℕ) → l.at ≤ k → k < l.i → to_bits binary64 (l.xs ! k) ≡ l.pattern
