-- What the answers of this crate tell of a group's scale, and what stands where. Document 01, "The inner fit", from "The block's inverse" to the pivots at which a step declines. Assumes nothing.
use Rattle.quadrature.specs.declared.orders.Decline.{Decline}
use Rattle.std.specs.Prelude.{◌≡◌, List, Bool, true, false, ℕ, ◌+◌, ◌*◌, ◌≤◌, length, Float, Result, Ok, Err, ⊤}
use Prim.{tt}
use Rattle.base.specs.Sum.{◌!◌}
use Rattle.base.specs.Rows.{row, Only}
use Rattle.layout.specs.WorkMatrices.{system_place, inverse_place}
use Rattle.layout.specs.WorkTerms.{factor_place}
use Rattle.quadrature.specs.declared.orders.Decline.TheVariants.{Diagonal}
use Rattle.agq_rule.specs.Scale.{sigma_of, bad_diagonal, Scale, scaled, unscaled, block_scale, section_of}

-- ---- one effect

-- by the test of the diagonal entry a
unfoldable pub one_scale_by : Bool → Float → Result Float Decline
one_scale_by true a = Err Diagonal
one_scale_by false a = Ok (sigma_of a)

-- sigma of the diagonal entry a, or that the step declines
unfoldable pub one_scale_of : Float → Result Float Decline
one_scale_of a = one_scale_by (bad_diagonal a) a

-- ---- several effects

-- entry j of what stands from o on
abbrev pub entry_from : List Float → ℕ → ℕ → Float
entry_from xs o j = xs ! (o + j)

-- the scale that an answer tells, L standing in the work slice
unfoldable pub tell_scale : Result ⊤ Decline → List Float → Scale
tell_scale (Ok tt) L = scaled L
tell_scale (Err d) L = unscaled d

-- the k effects from s on are among the q, and the squares of A, of the inverse and of the factor are in their slices
pub record ScaleRoom (q s k : ℕ) (m t : List Float) : Type 0 where
  pub few : q ≤ 32
  pub within : s + k ≤ q
  pub matrices : inverse_place q + q * q ≤ length m
  pub terms : factor_place + q * q ≤ length t

-- the answer with what stands at the place of the inverse is the scale of that block of A; nothing changed but there and where its LDL' was
pub record ScaleLeaves (q s k : ℕ) (m m' t t' : List Float) (r : Result ⊤ Decline) : Type 0 where
  pub scale : tell_scale r (row (inverse_place q) (k * k) m') ≡ block_scale k (section_of q (row system_place (q * q) m) s k)
  pub matrices_only : Only (inverse_place q) (k * k) m m'
  pub terms_only : Only factor_place (k * k) t t'
