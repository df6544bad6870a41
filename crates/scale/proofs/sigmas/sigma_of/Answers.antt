-- `scale::sigma_of` meets its contract: the two tests are those of a bad diagonal entry.
use mathlib.Core.Path.{sym, ◌∙◌}
use Rattle.scale.proofs.SigmaFound.{sigma_low, sigma_endless, sigma_found}
use Rattle.scale.proofs.sigmas.sigma_of.Goals.{then-entry-via-then-entry, then-entry-via-else-entry+then-not-is_finite}
use Rattle.scale.proofs.sigmas.sigma_of.Goals as goal

pub returns-then-entry : goal.returns-then-entry
returns-then-entry c = elim c.then-entry.branch [
  | then-entry-via-then-entry w ↦ sigma_low _ w.if-entry.true
  | then-entry-via-else-entry+then-not-is_finite w ↦ sigma_endless _ w.if-entry.false (sym w.is_finite.ensures ∙ w.if-not-is_finite.true)
]

pub returns : goal.returns
returns c = sigma_found _ _ c.if-entry.false (sym c.is_finite.ensures ∙ c.if-not-is_finite.false) c.sqrt.ensures
