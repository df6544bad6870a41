-- `linear::cross_rows` meets its contract: before turn a the rows before row a have their entries up to the diagonal.
use mathlib.Core.Path.{◌≡◌}
use Prim.Native.Nat.{ℕ, ◌≤◌, ◌<◌}
use Rattle.base.specs.List.{at}
use Rattle.linear.specs.Product.{cross_at}
use Rattle.linear.proofs.crosses.cross_rows.Given as goal

abbrev pub invariant-loop-a : goal.invariant-loop-a
invariant-loop-a l = (i j : ℕ) → i < l.a → j ≤ i → at l.p l.out i j ≡ cross_at l.x l.p l.n l.w i j
