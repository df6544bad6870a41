-- One content: each contract of this crate is an equation with its definition. Assumes nothing.
use mathlib.Core.Path.{◌≡◌}
use mathlib.Core.List.{List}
use Prim.Native.Nat.{ℕ}
use lib.Ieee.{Float}
use Rattle.base.specs.List.{fill_to, grid_to}
use Rattle.base.proofs.Unique.{one_value}
use Rattle.model.specs.declared.sizes.Shape.{Shape}
use Rattle.factor.specs.Inverse.{v_at}
use Rattle.rule.specs.Results.{se_at, z_value_at, residual_at}
use Rattle.results.specs.Nine.{Results, results_from}

-- `v_rows`
pub v_rows_unique : (columns : List Float) (p : ℕ) (before s t : List Float) → s ≡ grid_to p p (v_at p columns) before → t ≡ grid_to p p (v_at p columns) before → s ≡ t
v_rows_unique columns p before s t d e = one_value d e

-- `standard_errors`
pub standard_errors_unique : (v : List Float) (p : ℕ) (before s t : List Float) → s ≡ fill_to p (se_at p v) before → t ≡ fill_to p (se_at p v) before → s ≡ t
standard_errors_unique v p before s t d e = one_value d e

-- `z_values`
pub z_values_unique : (beta se : List Float) (p : ℕ) (before s t : List Float) → s ≡ fill_to p (z_value_at beta se) before → t ≡ fill_to p (z_value_at beta se) before → s ≡ t
z_values_unique beta se p before s t d e = one_value d e

-- `residuals`
pub residuals_unique : (y mu : List Float) (n : ℕ) (before s t : List Float) → s ≡ fill_to n (residual_at y mu) before → t ≡ fill_to n (residual_at y mu) before → s ≡ t
residuals_unique y mu n before s t d e = one_value d e

-- `write_results`: all nine at once
pub write_results_unique : (n p : ℕ) (shape : Shape) (theta y columns beta u mu eta : List Float) (r s : Results) → r ≡ results_from n p shape theta y columns beta u mu eta
    → s ≡ results_from n p shape theta y columns beta u mu eta → r ≡ s
write_results_unique n p shape theta y columns beta u mu eta r s d e = one_value d e
