-- What the writer of results asks of its arguments. Assumes nothing.
use Rattle.std.specs.Prelude.{◌≡◌, List, true, ℕ, ◌*◌, ◌≤◌, length, Float}
use Rattle.model.specs.Shape.{effects_of, theta_length, good_shape}
use Rattle.model.specs.declared.sizes.Shape.{Shape}

-- the shape has q effects and theta its numbers; there are n responses; the columns are p by p; β, u, mu and eta are as long as the sizes say
pub record Readable (shape : Shape) (n p q : ℕ) (theta y columns beta u mu eta : List Float) : Type 0 where
  pub good : good_shape shape ≡ true
  pub effects : q ≡ effects_of shape
  pub numbers : theta_length shape ≤ length theta
  pub y_long : n ≤ length y
  pub columns_long : p * p ≤ length columns
  pub beta_long : length beta ≡ p
  pub u_long : length u ≡ q
  pub mu_long : length mu ≡ n
  pub eta_long : length eta ≡ n

-- each lent result is as long as the sizes say
pub record Writable (n p q : ℕ) (beta se z u b mu eta residual v : List Float) : Type 0 where
  pub beta_long : length beta ≡ p
  pub se_long : length se ≡ p
  pub z_long : length z ≡ p
  pub u_long : length u ≡ q
  pub b_long : length b ≡ q
  pub mu_long : length mu ≡ n
  pub eta_long : length eta ≡ n
  pub residual_long : length residual ≡ n
  pub v_long : length v ≡ p * p
