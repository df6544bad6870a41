-- Cases of a test of a link by its place. Assumes nothing.
use mathlib.Core.Path.{◌≡◌, refl, sym, ap, ◌∙◌}
use mathlib.Core.Bool.{Bool}
use mathlib.Core.List.{List, [], ◌∷◌}
use mathlib.Core.Logic.{⊎_elim}
use Prim.Native.Nat.{ℕ}
use types.Run.{OneOf}
use denote.Enum.Declared.{tag_of}
use Rattle.model.specs.Names.{link_code}
use Rattle.model.specs.declared.names.Family.{Family}
use Rattle.model.specs.contracts.names.Link as link
use Rattle.model.specs.declared.names.Link.{Link}
use Rattle.model.specs.declared.names.Link.TheVariants.{Logit, Probit, Cloglog, Log, Identity, Inverse, Sqrt}
use Rattle.family.specs.Carried.{links_for, among, valid_for}

-- ---- a link that stands at one of some places is valid, or not, as the links at all these places are
tag_is_code : (l : Link) → tag_of link.the_type l ≡ link_code l
tag_is_code Logit = refl
tag_is_code Probit = refl
tag_is_code Cloglog = refl
tag_is_code Log = refl
tag_is_code Identity = refl
tag_is_code Inverse = refl
tag_is_code Sqrt = refl

-- a test has the answer b at each place
abbrev pub Same : (ℕ → Bool) → Bool → List ℕ → Type 0
Same t b [] = Unit {0}
Same t b (k ∷ ks) = (b ≡ t k) × Same t b ks

at_place : (t : ℕ → Bool) (b : Bool) (ks : List ℕ) (x : ℕ) → Same t b ks → OneOf ks x → b ≡ t x
at_place t b [] x h o = absurd o
at_place t b (k ∷ []) x h o = h.0 ∙ ap t (sym o)
at_place t b (k ∷ j ∷ ks) x h o = ⊎_elim (λ (e : x ≡ k). h.0 ∙ ap t (sym e)) (λ r. at_place t b (j ∷ ks) x h.1 r) o

pub valid_at : (l : Link) (f : Family) (b : Bool) (ks : List ℕ) → Same (λ c. among c (links_for f)) b ks → OneOf ks (tag_of link.the_type l) → b ≡ valid_for l f
unfolding valid_for
valid_at l f b ks h o = at_place (λ c. among c (links_for f)) b ks (link_code l) h (rw tag_is_code at o)
