-- `tries::one_try` meets its contract: the passes wrote the candidate and its means, and their answers are the rule's three tests.
use Rattle.tries.proofs.Tried.{eta_refused_lem, mean_refused_lem, pwrss_refused_lem, try_accepted}
use Rattle.tries.proofs.search.one_try.Goals as goal

pub returns-then-not-fine_etas : goal.returns-then-not-fine_etas
returns-then-not-fine_etas c =
    eta_refused_lem _ _ _ _ _ _ c.requires.next_mu c.requires.next_in c.requires.mu_in c.candidate.ensures _ c.fine_etas.ensures
    c.if-not-fine_etas.true

pub returns-then-not-finite_row : goal.returns-then-not-finite_row
returns-then-not-finite_row c =
    mean_refused_lem _ _ _ _ _ _ c.requires.next_mu c.requires.next_in c.requires.mu_in c.candidate.ensures _ _ c.fine_etas.ensures
    c.if-not-fine_etas.false c.means.ensures _ c.finite_row.ensures c.if-not-finite_row.true

pub returns-then-not-is_finite : goal.returns-then-not-is_finite
returns-then-not-is_finite c =
    pwrss_refused_lem _ _ _ _ _ _ c.requires.next_mu c.requires.next_in c.requires.mu_in c.candidate.ensures _ _
    c.fine_etas.ensures c.if-not-fine_etas.false c.means.ensures _ c.finite_row.ensures c.if-not-finite_row.false _
    c.pwrss-p.ensures _ c.is_finite.ensures c.if-not-is_finite.true

pub returns : goal.returns
returns c =
    try_accepted _ _ _ _ _ _ c.requires.next_mu c.requires.next_in c.requires.mu_in c.candidate.ensures _ _ c.fine_etas.ensures
    c.if-not-fine_etas.false c.means.ensures _ c.finite_row.ensures c.if-not-finite_row.false _
    c.pwrss-p.ensures _ c.is_finite.ensures c.if-not-is_finite.false
