-- `groups::group` meets its contract: its test is the rule's.
use mathlib.Core.Path.{refl}
use Rattle.groups.proofs.Looped.{group_one, group_several}
use Rattle.groups.proofs.product.group.Goals as goal

pub returns-then-k-eq1 : goal.returns-then-k-eq1
returns-then-k-eq1 c =
    let args = c.args in
    group_one _ args.phi args.order args.given.now.design.n args.given.now.design.p args.given.now.design.q args.k args.g _ _ _ _ _ _ _ c.if-k-eq1.true c.one_group.ensures

pub returns : goal.returns
returns c =
    let args = c.args in
    group_several _ args.phi args.order args.given.now.design.n args.given.now.design.p args.given.now.design.q args.k args.g _ _ _ _ _ _ _ _ c.if-k-eq1.false refl
    c.several_group.ensures
