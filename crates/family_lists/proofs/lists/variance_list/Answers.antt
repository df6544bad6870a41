-- `family_lists::variance_list` meets its contract: the closure's rule is `variance_of`.
use Rattle.family.specs.Family.{variance_of}
use Rattle.std.proofs.Common.{rules}
use Rattle.family_lists.proofs.lists.variance_list.Goals as goal

pub returns : goal.returns
returns c = c.each.ensures (variance_of c.args.family) (λ x r h. search (rules, h))
