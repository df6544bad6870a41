-- `names::named` meets its contract: no link before the one to come has the name.
use mathlib.Core.Path.{◌≡◌}
use mathlib.Core.List.{map}
use lib.ListN.{drop}
use Rattle.names.specs.Names.{all_links, lower_of, named_among}
use Rattle.names.proofs.named.Given as goal

abbrev pub invariant-loop-link : goal.invariant-loop-link
invariant-loop-link l = named_among (drop l.link-index all_links) (map lower_of l.word) ≡ named_among all_links (map lower_of l.word)
