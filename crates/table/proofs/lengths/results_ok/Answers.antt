-- `table::results_ok` meets its contract: each test that fails is a fact that good results have, and after all others v decides.
use Rattle.table.proofs.Meant.{not_results, results_when}
use Rattle.table.proofs.lengths.results_ok.Goals as goal

pub returns-then-lent-fixed : goal.returns-then-lent-fixed
returns-then-lent-fixed c = not_results _ _ _ (λ g. c.if-lent-fixed.true g.beta)

pub returns-then-lent-fixed-2 : goal.returns-then-lent-fixed-2
returns-then-lent-fixed-2 c = not_results _ _ _ (λ g. c.if-lent-fixed-2.true g.se)

pub returns-then-lent-fixed-3 : goal.returns-then-lent-fixed-3
returns-then-lent-fixed-3 c = not_results _ _ _ (λ g. c.if-lent-fixed-3.true g.z)

pub returns-then-lent-effects : goal.returns-then-lent-effects
returns-then-lent-effects c = not_results _ _ _ (λ g. c.if-lent-effects.true g.u)

pub returns-then-lent-effects-2 : goal.returns-then-lent-effects-2
returns-then-lent-effects-2 c = not_results _ _ _ (λ g. c.if-lent-effects-2.true g.b)

pub returns-then-lent-observations : goal.returns-then-lent-observations
returns-then-lent-observations c = not_results _ _ _ (λ g. c.if-lent-observations.true g.mu)

pub returns-then-lent-observations-2 : goal.returns-then-lent-observations-2
returns-then-lent-observations-2 c = not_results _ _ _ (λ g. c.if-lent-observations-2.true g.eta)

pub returns-then-lent-observations-3 : goal.returns-then-lent-observations-3
returns-then-lent-observations-3 c = not_results _ _ _ (λ g. c.if-lent-observations-3.true g.residual)

pub returns : goal.returns
returns c =
    results_when _ _ _ c.if-lent-fixed.false c.if-lent-fixed-2.false c.if-lent-fixed-3.false c.if-lent-effects.false c.if-lent-effects-2.false c.if-lent-observations.false c.if-lent-observations-2.false
    c.if-lent-observations-3.false
