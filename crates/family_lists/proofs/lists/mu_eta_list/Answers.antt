-- `family_lists::mu_eta_list` meets its contract: the closure's rule is `mu_eta`.
use Rattle.family.specs.Link.{mu_eta}
use Rattle.std.proofs.Common.{rules}
use Rattle.family_lists.proofs.lists.mu_eta_list.Goals as goal

pub returns : goal.returns
returns c = c.each.ensures (mu_eta c.args.link) (λ x r h. search (rules, h))
