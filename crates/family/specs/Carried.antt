-- What of the links and families is carried, each family's default link, and which pairs are valid. Document 01, "What the port carries", as amended by document 02, P2 and P8; `Link` of family.rs. Assumes nothing.
use Rattle.std.specs.Prelude.{Bool, false, ◌||◌, List, [], ◌∷◌, ℕ, eqb}
use Rattle.model.specs.Names.{link_code}
use Rattle.model.specs.declared.names.Family.{Family}
use Rattle.model.specs.declared.names.Family.TheVariants.{Binomial, Poisson, Gaussian, Gamma}
use Rattle.model.specs.declared.names.Link.{Link}
use Rattle.model.specs.declared.names.Link.TheVariants.{Logit, Probit, Cloglog, Log, Identity, Inverse, Sqrt}
use Rattle.family.specs.declared.carried.CarriedLink.{CarriedLink}
use Rattle.family.specs.declared.carried.CarriedLink.TheVariants as link
use Rattle.family.specs.declared.carried.CarriedFamily.{CarriedFamily}
use Rattle.family.specs.declared.carried.CarriedFamily.TheVariants as family

-- every link
abbrev pub carried_link : Link → CarriedLink
carried_link Logit = link.Logit
carried_link Probit = link.Probit
carried_link Cloglog = link.Cloglog
carried_link Log = link.Log
carried_link Identity = link.Identity
carried_link Inverse = link.Inverse
carried_link Sqrt = link.Sqrt

-- the link that a carried one is
abbrev pub link_of : CarriedLink → Link
link_of link.Logit = Logit
link_of link.Probit = Probit
link_of link.Cloglog = Cloglog
link_of link.Log = Log
link_of link.Identity = Identity
link_of link.Inverse = Inverse
link_of link.Sqrt = Sqrt

-- every family
abbrev pub carried_family : Family → CarriedFamily
carried_family Binomial = family.Binomial
carried_family Poisson = family.Poisson
carried_family Gaussian = family.Gaussian
carried_family Gamma = family.Gamma

-- `default_for`: the family's canonical link
abbrev pub default_for : Family → Link
default_for Binomial = Logit
default_for Poisson = Log
default_for Gaussian = Identity
default_for Gamma = Inverse

-- the links that R takes for a family
unfoldable pub links_for : Family → List Link
links_for Binomial = Logit ∷ Probit ∷ Cloglog ∷ []
links_for Poisson = Log ∷ Identity ∷ Sqrt ∷ []
links_for Gaussian = Identity ∷ Log ∷ Inverse ∷ []
links_for Gamma = Inverse ∷ Identity ∷ Log ∷ []

-- the link with a code stands in a list
unfoldable pub among : ℕ → List Link → Bool
among c [] = false
among c (l ∷ ls) = eqb c (link_code l) || among c ls

-- `valid_for`
unfoldable pub valid_for : Link → Family → Bool
valid_for l f = among (link_code l) (links_for f)
