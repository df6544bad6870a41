-- What the writing of a fit asks of its arguments. Assumes nothing.
use Rattle.std.specs.Prelude.{◌≡◌, List, true, ℕ, ◌≤◌, length, Float}
use Rattle.model.specs.Settings.{Sizes}
use Rattle.model.specs.Shape.{effects_of, theta_length, good_shape}
use Rattle.model.specs.declared.sizes.Shape.{Shape}
use Rattle.layout.specs.WorkRows.{rows_length}
use Rattle.layout.specs.WorkMatrices.{matrices_length}

-- the shape has q effects and theta its numbers; there are n responses; the sizes are in range, and rows and matrices have their named lengths
pub record Standing (shape : Shape) (n p q : ℕ) (theta y rows matrices : List Float) : Type 0 where
  pub good : good_shape shape ≡ true
  pub effects : q ≡ effects_of shape
  pub numbers : theta_length shape ≤ length theta
  pub y_long : n ≤ length y
  pub sizes : Sizes n p q
  pub rows_long : rows_length n ≤ length rows
  pub matrices_long : matrices_length p q ≤ length matrices
