-- How far a group's points lie from the mode: 1 / √A_gg, or the Cholesky factor of the block's inverse. Document 01, "The inner fit", from "The block's inverse" to the pivots at which a step declines. Assumes nothing.
use Rattle.std.specs.Prelude.{List, Bool, not, ◌||◌, ℕ, ◌+◌, ◌*◌, Float, Result, Ok, Err, ⊤}
use Prim.{tt}
use Rattle.std.specs.Float.Ieee.{le}
use Rattle.base.specs.Number.{◌⊘◌, one_f, eps_f, finite}
use Rattle.base.specs.List.{build, matrix, at, zero_at}
use Rattle.root.specs.Sqrt.{sqrt_of}
use Rattle.factor.specs.Factor.{ldl_of, ldl_end, cholesky_of, cholesky_end}
use Rattle.factor.specs.Inverse.{ldl_inverse}
use Rattle.quadrature.specs.declared.orders.Decline.{Decline}
use Rattle.quadrature.specs.declared.orders.Decline.TheVariants.{Inverse, Factor}

-- ---- one effect

-- sigma: the root, then its reciprocal
unfoldable pub sigma_of : Float → Float
sigma_of a = one_f ⊘ sqrt_of a

-- a diagonal entry that cannot be used: at most E, or not finite
unfoldable pub bad_diagonal : Float → Bool
bad_diagonal a = le a eps_f || not (finite a)

-- ---- several effects

-- the lower factor L, or why there is none
pub data Scale : Type 0 where
  scaled : List Float → Scale
  unscaled : Decline → Scale

-- by how the Cholesky factorisation of the inverse ended
unfoldable pub after_cholesky : Result ⊤ ℕ → List Float → Scale
after_cholesky (Err i) C = unscaled Factor
after_cholesky (Ok tt) C = scaled C

-- the inverse S with its factor C
unfoldable pub cholesky_scale : ℕ → List Float → List Float → Scale
cholesky_scale k S C = after_cholesky (cholesky_end k S C) C

-- the inverse S
unfoldable pub inverse_scale : ℕ → List Float → Scale
inverse_scale k S = cholesky_scale k S (cholesky_of k S)

-- by how LDL' of the block ended
unfoldable pub after_ldl : Result ⊤ ℕ → ℕ → List Float → Scale
after_ldl (Err i) k F = unscaled Inverse
after_ldl (Ok tt) k F = inverse_scale k (ldl_inverse k F)

-- the block's LDL' F
unfoldable pub ldl_scale : ℕ → List Float → Scale
ldl_scale k F = after_ldl (ldl_end k F) k F

-- several effects with the k by k block B of A
unfoldable pub block_scale : ℕ → List Float → Scale
block_scale k B = ldl_scale k (ldl_of k B (build zero_at (k * k)))

-- entry (i, j) of the block of A that begins at effect s
unfoldable pub section_at : ℕ → List Float → ℕ → ℕ → ℕ → Float
section_at q A s i j = at q A (s + i) (s + j)

-- that block, k by k
unfoldable pub section_of : ℕ → List Float → ℕ → ℕ → List Float
section_of q A s k = matrix k k (section_at q A s)
