-- `family_lists::link_fun_list` meets its contract: the closure's rule is `link_fun`.
use Rattle.family.specs.Link.{link_fun}
use Rattle.std.proofs.Common.{rules}
use Rattle.family_lists.proofs.lists.link_fun_list.Goals as goal

pub returns : goal.returns
returns c = c.each.ensures (link_fun c.args.link) (λ x r h. search (rules, h))
