-- `family_lists::link_inv_list` meets its contract: the closure's rule is `link_inv`.
use Rattle.family.specs.Link.{link_inv}
use Rattle.std.proofs.Common.{rules}
use Rattle.family_lists.proofs.lists.link_inv_list.Goals as goal

pub returns : goal.returns
returns c = c.each.ensures (link_inv c.args.link) (λ x r h. search (rules, h))
