-- `linear::effects_less` meets its contract: before turn i the first i places hold their entries of u.
use mathlib.Core.Path.{◌≡◌}
use lib.ListN.{length}
use Rattle.base.specs.List.{fill_to}
use Rattle.linear.specs.Product.{effect_at}
use Rattle.linear.proofs.product.effects_less.Given as goal

abbrev pub invariant-loop-i : goal.invariant-loop-i
invariant-loop-i l = (length l.out ≡ length l.initial.out) × (l.out ≡ fill_to l.i (effect_at l.wy l.solved l.q l.p l.beta) l.initial.out)
