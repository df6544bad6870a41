-- What the steps from β to Zb leave. Document 01, "The inner fit": u, b = Λu and Zb. Assumes nothing.
use Rattle.std.specs.Prelude.{◌≡◌, List, ℕ, ◌+◌, Float}
use Rattle.base.specs.List.{build}
use Rattle.base.specs.Rows.{row, Only}
use Rattle.lambda.specs.Product.{lambda_times_at}
use Rattle.model.specs.declared.sizes.Shape.{Shape}

-- u and then b = Λu stand at the place of u, and nothing else has changed
pub record EffectsLeft (shape : Shape) (theta : List Float) (at q : ℕ) (u m m' : List Float) : Type 0 where
  pub first : row at q m' ≡ u
  pub second : row (at + q) q m' ≡ build (lambda_times_at shape theta u) q
  pub frame : Only at (q + q) m m'
