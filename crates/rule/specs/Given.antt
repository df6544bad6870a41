-- What an inner fit is given. Document 01, "What the port carries". Assumes nothing.
use Rattle.std.specs.Prelude.{List, Bool, cond, ℕ, eqb, length, Float}
use Rattle.base.specs.Number.{◌⊕◌, ◌⊖◌}
use Rattle.base.specs.Sum.{◌!◌}
use Rattle.base.specs.Sparse.{Sparse}
use Rattle.model.specs.Shape.{effects_of}
use Rattle.model.specs.declared.sizes.Shape.{Shape}
use Rattle.family.specs.declared.carried.CarriedFamily.{CarriedFamily}
use Rattle.family.specs.declared.carried.CarriedLink.{CarriedLink}

-- what the predictor is made of: n observations; X with p columns, row by row; the random effects by their shape, with theta and Z'; the offset, empty where it is absent
pub record Design : Type 0 where
  pub n : ℕ
  pub p : ℕ
  pub shape : Shape
  pub theta : List Float
  pub offset : List Float
  pub x : List Float
  pub zt : Sparse

-- the design that the arguments are
abbrev pub design_of : ℕ → ℕ → Shape → List Float → List Float → List Float → Sparse → Design
design_of n p shape theta offset x zt = record { n = n; p = p; shape = shape; theta = theta; offset = offset; x = x; zt = zt }

-- how many effects there are
abbrev pub q_of : Design → ℕ
q_of D = effects_of D.shape

-- the design, the responses with their family and link, and the prior weights, empty where they are absent
pub record Given : Type 0 where
  pub family : CarriedFamily
  pub link : CarriedLink
  pub y : List Float
  pub weights : List Float
  pub design : Design

-- what is given of the responses, with a design
abbrev pub given_of : CarriedFamily → CarriedLink → (y weights : List Float) → Design → Given
given_of family link y weights D = record { family = family; link = link; y = y; weights = weights; design = D }

-- how many observations there are
abbrev pub n_of : Given → ℕ
n_of G = G.design.n

-- the list is absent
unfoldable pub absent : List Float → Bool
absent l = eqb (length l) 0

-- v plus the offset of observation i, where there is an offset
unfoldable pub plus_offset : List Float → ℕ → Float → Float
plus_offset offset i v = cond (absent offset) v (v ⊕ (offset ! i))

-- v less the offset of observation i, where there is an offset
unfoldable pub less_offset : List Float → ℕ → Float → Float
less_offset offset i v = cond (absent offset) v (v ⊖ (offset ! i))
