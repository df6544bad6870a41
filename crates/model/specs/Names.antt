-- Codes of the families, links and starts, and the limit of iterations. Document 01, "The job and the program", and "What the port carries" for the limit; document 02, P10, for the starts. Assumes nothing.
use Rattle.std.specs.Prelude.{◌≡◌, Bool, true, false, cond, [], ◌∷◌, ℕ, get_or, Option, Some, None, Result, MatchResult}
use Rattle.model.specs.declared.names.Family.{Family}
use Rattle.model.specs.declared.names.Family.TheVariants.{Binomial, Poisson, Gaussian, Gamma}
use Rattle.model.specs.declared.names.Link.{Link}
use Rattle.model.specs.declared.names.Link.TheVariants.{Logit, Probit, Cloglog, Log, Identity, Inverse, Sqrt}
use Rattle.model.specs.declared.names.Start.{Start}
use Rattle.model.specs.declared.names.Start.TheVariants.{Usual, Trials}
use Rattle.model.specs.declared.names.UnknownCode.{UnknownCode}

-- a family's code in a job is its place in this list, from 0
abbrev pub family_code : Family → ℕ
family_code Binomial = 0
family_code Poisson = 1
family_code Gaussian = 2
family_code Gamma = 3

-- the family with a code, none from 4 on
unfoldable pub family_coded : ℕ → Option Family
family_coded code =
    get_or (Some Binomial ∷ Some Poisson ∷ Some Gaussian ∷ Some Gamma ∷ []) code None

-- what is found for a code is what has it, or the code itself where nothing has it
abbrev pub Coded : {A : Type 0} → Option A → ℕ → Result A UnknownCode → Type 0
Coded coded code found = MatchResult found (λ x. coded ≡ Some x) (λ e. (coded ≡ None) × (e.0 ≡ code))

-- a link's code in a job is its place in the Rust's enum, from 0
abbrev pub link_code : Link → ℕ
link_code Logit = 0
link_code Probit = 1
link_code Cloglog = 2
link_code Log = 3
link_code Identity = 4
link_code Inverse = 5
link_code Sqrt = 6

-- the link with a code, none from 7 on
unfoldable pub link_coded : ℕ → Option Link
link_coded code =
    get_or
    (Some Logit ∷ Some Probit ∷ Some Cloglog ∷ Some Log ∷ Some Identity
    ∷ Some Inverse ∷ Some Sqrt ∷ [])
    code None

-- a start's code in a job of version 2 is its bit (document 02, P10)
abbrev pub start_code : Start → ℕ
start_code Usual = 0
start_code Trials = 1

-- the start with a code, none from 2 on
unfoldable pub start_coded : ℕ → Option Start
start_coded code = get_or (Some Usual ∷ Some Trials ∷ []) code None

-- the link is `inverse`, which has a limit, a number of tries and a test of its own
abbrev pub is_inverse : Link → Bool
is_inverse Logit = false
is_inverse Probit = false
is_inverse Cloglog = false
is_inverse Log = false
is_inverse Identity = false
is_inverse Inverse = true
is_inverse Sqrt = false

-- the limit L of a call; without one the link decides
unfoldable pub limit_of : Option ℕ → Link → ℕ
limit_of (Some l) link = l
limit_of None link = cond (is_inverse link) 1000 100
