-- Within its order a padded row is the rule's own, and its nodes are finite. Assumes nothing.
use mathlib.Core.Path.{◌≡◌, refl}
use mathlib.Core.Bool.{true}
use Prim.Native.Nat.{ℕ, ◌-◌, ◌<◌}
use lib.ListN.{length, replicate, get_or-append}
use lib.Ieee.{nan, of_bits}
use Rattle.base.specs.Number.{zero_f, finite}
use Rattle.base.specs.Sum.{◌!◌, all_to, finite_at}
use Rattle.base.proofs.Sums.{all_at}
use Rattle.quadrature.specs.declared.orders.Order.{Order}
use Rattle.quadrature.specs.declared.orders.Order.TheVariants.{Three, Five, Seven, Nine, Eleven}
use Rattle.quadrature.specs.Orders.{size_of}
use Rattle.quadrature.specs.Rules.{nodes_of, weights_of, padded}

nodes_many : (o : Order) → length (nodes_of o) ≡ size_of o
unfolding size_of nodes_of
nodes_many Three = refl
nodes_many Five = refl
nodes_many Seven = refl
nodes_many Nine = refl
nodes_many Eleven = refl

weights_many : (o : Order) → length (weights_of o) ≡ size_of o
unfolding size_of weights_of
weights_many Three = refl
weights_many Five = refl
weights_many Seven = refl
weights_many Nine = refl
weights_many Eleven = refl

pub node_padded : (o : Order) (i : ℕ) → i < size_of o → padded (nodes_of o) ! i ≡ nodes_of o ! i
unfolding padded
node_padded o i l = get_or-append (nodes_of o) (replicate (11 - length (nodes_of o)) zero_f) nan i (rw (nodes_many o) l)

pub weight_padded : (o : Order) (i : ℕ) → i < size_of o → padded (weights_of o) ! i ≡ weights_of o ! i
unfolding padded
weight_padded o i l = get_or-append (weights_of o) (replicate (11 - length (weights_of o)) zero_f) nan i (rw (weights_many o) l)

all_finite_lem : (o : Order) → true ≡ all_to (size_of o) (finite_at (nodes_of o))
unfolding size_of nodes_of all_to finite of_bits
all_finite_lem Three = refl
all_finite_lem Five = refl
all_finite_lem Seven = refl
all_finite_lem Nine = refl
all_finite_lem Eleven = refl

pub node_finite : (o : Order) (i : ℕ) → i < size_of o → finite (nodes_of o ! i) ≡ true
node_finite o i l = all_at (finite_at (nodes_of o)) (size_of o) (all_finite_lem o) i l
