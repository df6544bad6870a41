-- R's table of links and families, each pair; the default links are valid; link and carried link are found again by each other, so that every link is carried, once; probit goes with binomial alone. Document 01, "What the port carries"; document 02, P8. Assumes nothing.
use mathlib.Core.Path.{◌≡◌, refl}
use mathlib.Core.Bool.{Bool, true, false}
use mathlib.Core.List.{List, [], ◌∷◌, map}
use Rattle.model.specs.declared.names.Family.{Family}
use Rattle.model.specs.declared.names.Family.TheVariants.{Binomial, Poisson, Gaussian, Gamma}
use Rattle.model.specs.declared.names.Link.{Link}
use Rattle.model.specs.declared.names.Link.TheVariants.{Logit, Probit, Cloglog, Log, Identity, Inverse, Sqrt}
use Rattle.family.specs.Carried.{carried_link, link_of, links_for, among, valid_for, default_for}
use Rattle.base.proofs.Doubles.{ff}
use Rattle.family.specs.declared.carried.CarriedLink.{CarriedLink}
use Rattle.family.specs.declared.carried.CarriedLink.TheVariants as link

-- the answers for one family, over the links in their order
abbrev pub answers_for : Family → List Bool
answers_for f = map (λ l. valid_for l f) (Logit ∷ Probit ∷ Cloglog ∷ Log ∷ Identity ∷ Inverse ∷ Sqrt ∷ [])

-- ---- the table: logit, probit, cloglog, log, identity, inverse, sqrt
pub binomial_row : answers_for Binomial ≡ true ∷ true ∷ true ∷ false ∷ false ∷ false ∷ false ∷ []
unfolding valid_for among links_for
binomial_row = refl

pub poisson_row : answers_for Poisson ≡ false ∷ false ∷ false ∷ true ∷ true ∷ false ∷ true ∷ []
unfolding valid_for among links_for
poisson_row = refl

pub gaussian_row : answers_for Gaussian ≡ false ∷ false ∷ false ∷ true ∷ true ∷ true ∷ false ∷ []
unfolding valid_for among links_for
gaussian_row = refl

pub gamma_row : answers_for Gamma ≡ false ∷ false ∷ false ∷ true ∷ true ∷ true ∷ false ∷ []
unfolding valid_for among links_for
gamma_row = refl

-- ---- the default link is valid
pub default_is_valid : (f : Family) → valid_for (default_for f) f ≡ true
unfolding valid_for among links_for
default_is_valid Binomial = refl
default_is_valid Poisson = refl
default_is_valid Gaussian = refl
default_is_valid Gamma = refl

-- ---- a carried link is the one that its own link is mapped to, and a link that of its carried one
pub carried_link_of : (l : CarriedLink) → carried_link (link_of l) ≡ l
carried_link_of link.Logit = refl
carried_link_of link.Probit = refl
carried_link_of link.Cloglog = refl
carried_link_of link.Log = refl
carried_link_of link.Identity = refl
carried_link_of link.Inverse = refl
carried_link_of link.Sqrt = refl

pub link_of_carried : (l : Link) → link_of (carried_link l) ≡ l
link_of_carried Logit = refl
link_of_carried Probit = refl
link_of_carried Cloglog = refl
link_of_carried Log = refl
link_of_carried Identity = refl
link_of_carried Inverse = refl
link_of_carried Sqrt = refl

-- probit goes with binomial alone
pub probit_for_binomial : (f : Family) → valid_for Probit f ≡ true → f ≡ Binomial
unfolding valid_for among links_for
probit_for_binomial Binomial e = refl
probit_for_binomial Poisson e = absurd (ff e)
probit_for_binomial Gaussian e = absurd (ff e)
probit_for_binomial Gamma e = absurd (ff e)
