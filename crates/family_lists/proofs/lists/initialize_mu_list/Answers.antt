-- `family_lists::initialize_mu_list` meets its contract: the closure's rule is `initialize_mu`.
use Rattle.family.specs.Family.{initialize_mu}
use Rattle.std.proofs.Common.{rules}
use Rattle.family_lists.proofs.lists.initialize_mu_list.Goals as goal

pub returns : goal.returns
returns c = c.each.ensures (initialize_mu c.args.family) (λ x r h. search (rules, h))
