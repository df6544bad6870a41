-- Codes: which numbers are none, and a code and its family, link or start determine each other, so that a job can be written and read back. Assumes nothing.
use Rattle.std.specs.Prelude.{Some, None}
use mathlib.Core.Path.{◌≡◌, refl, ap}
use mathlib.Core.List.{[], ◌∷◌}
use Prim.Native.Nat.{ℕ, zero, suc, ◌≤◌}
use native.Mathlib.Omega.{arith}
use lib.ListN.{get_or-eq_default}
use Rattle.model.specs.Names.{family_code, family_coded, link_code, link_coded, start_code, start_coded}
use Rattle.model.specs.declared.names.Family.{Family}
use Rattle.model.specs.declared.names.Family.TheVariants.{Binomial, Poisson, Gaussian, Gamma}
use Rattle.model.specs.declared.names.Link.{Link}
use Rattle.model.specs.declared.names.Link.TheVariants.{Logit, Probit, Cloglog, Log, Identity, Inverse, Sqrt}
use Rattle.model.specs.declared.names.Start.{Start}
use Rattle.model.specs.declared.names.Start.TheVariants.{Usual, Trials}

-- no family has a code from 4 on
pub no_family : (c : ℕ) → 4 ≤ c → family_coded c ≡ None
unfolding family_coded
no_family c h =
    get_or-eq_default (Some Binomial ∷ Some Poisson ∷ Some Gaussian ∷ Some Gamma ∷ []) None h

-- no link has a code from 7 on
pub no_link : (c : ℕ) → 7 ≤ c → link_coded c ≡ None
unfolding link_coded
no_link c h =
    get_or-eq_default
    (Some Logit ∷ Some Probit ∷ Some Cloglog ∷ Some Log ∷ Some Identity ∷ Some Inverse ∷ Some Sqrt ∷ [])
    None h

-- no start has a code from 2 on
pub no_start : (c : ℕ) → 2 ≤ c → start_coded c ≡ None
unfolding start_coded
no_start c h = get_or-eq_default (Some Usual ∷ Some Trials ∷ []) None h

-- each family is the one with its code
pub family_of_code : (f : Family) → family_coded (family_code f) ≡ Some f
unfolding family_coded
family_of_code Binomial = refl
family_of_code Poisson = refl
family_of_code Gaussian = refl
family_of_code Gamma = refl

-- and its code is the only one
pub code_of_family : (c : ℕ) (f : Family) → family_coded c ≡ Some f → c ≡ family_code f
unfolding family_coded
code_of_family zero x e =
    let same : Binomial ≡ x = cc in
    ap family_code {x = Binomial} same
code_of_family (suc zero) x e =
    let same : Poisson ≡ x = cc in
    ap family_code {x = Poisson} same
code_of_family (suc (suc zero)) x e =
    let same : Gaussian ≡ x = cc in
    ap family_code {x = Gaussian} same
code_of_family (suc (suc (suc zero))) x e =
    let same : Gamma ≡ x = cc in
    ap family_code {x = Gamma} same
code_of_family (suc (suc (suc (suc c)))) x e =
    let never : ◌≡◌ {A = ℕ} 0 1 = cc in
    omega arith

-- each link is the one with its code
pub link_of_code : (l : Link) → link_coded (link_code l) ≡ Some l
unfolding link_coded
link_of_code Logit = refl
link_of_code Probit = refl
link_of_code Cloglog = refl
link_of_code Log = refl
link_of_code Identity = refl
link_of_code Inverse = refl
link_of_code Sqrt = refl

-- and its code is the only one
pub code_of_link : (c : ℕ) (l : Link) → link_coded c ≡ Some l → c ≡ link_code l
unfolding link_coded
code_of_link zero x e =
    let same : Logit ≡ x = cc in
    ap link_code {x = Logit} same
code_of_link (suc zero) x e =
    let same : Probit ≡ x = cc in
    ap link_code {x = Probit} same
code_of_link (suc (suc zero)) x e =
    let same : Cloglog ≡ x = cc in
    ap link_code {x = Cloglog} same
code_of_link (suc (suc (suc zero))) x e =
    let same : Log ≡ x = cc in
    ap link_code {x = Log} same
code_of_link (suc (suc (suc (suc zero)))) x e =
    let same : Identity ≡ x = cc in
    ap link_code {x = Identity} same
code_of_link (suc (suc (suc (suc (suc zero))))) x e =
    let same : Inverse ≡ x = cc in
    ap link_code {x = Inverse} same
code_of_link (suc (suc (suc (suc (suc (suc zero)))))) x e =
    let same : Sqrt ≡ x = cc in
    ap link_code {x = Sqrt} same
code_of_link (suc (suc (suc (suc (suc (suc (suc c))))))) x e =
    let never : ◌≡◌ {A = ℕ} 0 1 = cc in
    omega arith

-- each start is the one with its code
pub start_of_code : (s : Start) → start_coded (start_code s) ≡ Some s
unfolding start_coded
start_of_code Usual = refl
start_of_code Trials = refl

-- and its code is the only one
pub code_of_start : (c : ℕ) (s : Start) → start_coded c ≡ Some s → c ≡ start_code s
unfolding start_coded
code_of_start zero x e =
    let same : Usual ≡ x = cc in
    ap start_code {x = Usual} same
code_of_start (suc zero) x e =
    let same : Trials ≡ x = cc in
    ap start_code {x = Trials} same
code_of_start (suc (suc c)) x e =
    let never : ◌≡◌ {A = ℕ} 0 1 = cc in
    omega arith
