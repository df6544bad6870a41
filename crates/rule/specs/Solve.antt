-- One solve: A and its factor, the right sides, the normal matrix and its factor, β, u, b and the raw predictor.
-- Document 01, "The inner fit", from Z'WZ to the raw predictor; ends 10 and 11 of "Numbers of an answer". Assumes nothing.
use Rattle.std.specs.Prelude.{Result, Ok, Err, ⊤}
use Prim.{tt}
use Rattle.std.specs.Prelude.{List, ℕ, ◌*◌, Float}
use Rattle.base.specs.Number.{◌⊕◌, ◌⊖◌}
use Rattle.base.specs.Sum.{◌!◌, dot_of}
use Rattle.base.specs.List.{build, matrix, zero_at}
use Rattle.model.specs.declared.ends.End.{End}
use Rattle.model.specs.declared.ends.End.TheVariants.{SystemPivot, NormalPivot}
use Rattle.factor.specs.Factor.{ldl_of, ldl_end, cholesky_of, cholesky_end}
use Rattle.factor.specs.Substitution.{ldl_solve, cholesky_solve}
use Rattle.stored.specs.Stored.{zt_times_at, ztwz_at, z_times_at}
use Rattle.lambda.specs.Product.{lambda_times_at, lambda_transposed_at, right_column_at, system_at}
use Rattle.linear.specs.Product.{x_beta_at, effect_at, normal_at}
use Rattle.rule.specs.Given.{Design, Given, q_of, plus_offset}
use Rattle.rule.specs.Working.{working_weights, working_responses, targets, weighted_targets, weighted_column}

-- ---- A

-- Z'WZ
unfoldable pub ztwz_of : Design → List Float → List Float
ztwz_of D w = matrix (q_of D) (q_of D) (ztwz_at D.zt D.n w)

-- the columns of (Z'WZ)Λ, S being Z'WZ
unfoldable pub right_columns : Design → List Float → List Float
right_columns D S = matrix (q_of D) (q_of D) (right_column_at D.shape D.theta S)

-- A = Λ'((Z'WZ)Λ) + I
unfoldable pub system_of : Design → List Float → List Float
system_of D w = matrix (q_of D) (q_of D) (system_at D.shape D.theta (right_columns D (ztwz_of D w)))

-- the factor LDL' of A
unfoldable pub factor_of : Design → List Float → List Float
factor_of D A = ldl_of (q_of D) A (build zero_at (q_of D * q_of D))

-- ---- right sides

-- Z'v
unfoldable pub zt_times : Design → List Float → List Float
zt_times D v = build (zt_times_at D.zt D.n v) (q_of D)

-- Λ'(Z'v)
unfoldable pub side_of : Design → List Float → List Float
side_of D v = build (lambda_transposed_at D.shape D.theta (zt_times D v)) (q_of D)

-- wy: the solution for Λ'(Z'(w·(z - offset))), t being z - offset
unfoldable pub wy_of : Design → List Float → List Float → List Float → List Float
wy_of D F w t = ldl_solve (q_of D) F (side_of D (weighted_targets D w t))

-- V_a: Λ'(Z'(x_a·w)), unsolved
unfoldable pub unsolved_column : Design → List Float → ℕ → List Float
unsolved_column D w a = side_of D (weighted_column D w a)

-- W_a: the same, solved
unfoldable pub solved_column : Design → List Float → List Float → ℕ → List Float
solved_column D F w a = ldl_solve (q_of D) F (unsolved_column D w a)

-- W_a[i]
unfoldable pub solved_column_at : Design → List Float → List Float → ℕ → ℕ → Float
solved_column_at D F w a i = solved_column D F w a ! i

-- the columns W, one behind the other
unfoldable pub solved_columns : Design → List Float → List Float → List Float
solved_columns D F w = matrix D.p (q_of D) (solved_column_at D F w)

-- ---- the normal matrix

-- entry (a, b): Σ (x_a·w)·x_b less V_a-as-W_b
unfoldable pub normal_entry : Design → List Float → List Float → ℕ → ℕ → Float
normal_entry D w W a b = normal_at D.x D.p D.n (weighted_column D w a) (unsolved_column D w a) W (q_of D) b

-- the normal matrix
unfoldable pub normal_of : Design → List Float → List Float → List Float
normal_of D w W = matrix D.p D.p (normal_entry D w W)

-- entry a of its right side: Σ (x_a·w)·(z - offset) less V_a·wy
unfoldable pub normal_side_at : Design → List Float → List Float → List Float → ℕ → Float
normal_side_at D w t wy a = dot_of D.n (weighted_column D w a) t ⊖ dot_of (q_of D) (unsolved_column D w a) wy

-- its right side
unfoldable pub normal_side : Design → List Float → List Float → List Float → List Float
normal_side D w t wy = build (normal_side_at D w t wy) D.p

-- ---- β, u, b and the raw predictor

-- β, C being the normal matrix's Cholesky factor
unfoldable pub beta_of : Design → List Float → List Float → List Float
beta_of D C side = cholesky_solve D.p C side

-- u: wy_i less Σ W_j[i]·β_j
unfoldable pub effects_after : Design → List Float → List Float → List Float → List Float
effects_after D wy W beta = build (effect_at wy W (q_of D) D.p beta) (q_of D)

-- b = Λu
unfoldable pub b_of : Design → List Float → List Float
b_of D u = build (lambda_times_at D.shape D.theta u) (q_of D)

-- Zb
unfoldable pub z_times : Design → List Float → List Float
z_times D b = build (z_times_at D.zt (q_of D) b) D.n

-- the raw predictor at observation i: Xβ + Zb, then offset
unfoldable pub raw_at : List Float → List Float → ℕ → List Float → List Float → ℕ → Float
raw_at offset x p beta zb i = plus_offset offset i (x_beta_at x p beta i ⊕ (zb ! i))

-- of every observation
unfoldable pub raw_of : Design → List Float → List Float → List Float
raw_of D beta b = build (raw_at D.offset D.x D.p beta (z_times D b)) D.n

-- ---- the solve

-- what a solve found: w, z, A and its factor, the normal matrix's factor, β, u and the raw predictor
pub record Solved : Type 0 where
  pub w : List Float
  pub z : List Float
  pub system : List Float
  pub factor : List Float
  pub root : List Float
  pub beta : List Float
  pub u : List Float
  pub raw : List Float

-- a solve: what it found, or the end 10 or 11
pub data Solve : Type 0 where
  solved : Solved → Solve
  unsolved : End → Solve

-- what an iteration goes through: w, z, z - offset, A, its factor F, wy and the columns W
pub record Reduced : Type 0 where
  pub w : List Float
  pub z : List Float
  pub t : List Float
  pub system : List Float
  pub factor : List Float
  pub wy : List Float
  pub W : List Float

-- from the factor of A on
unfoldable pub reduced_of : Design → List Float → List Float → List Float → List Float → List Float → Reduced
reduced_of D w z t A F = record { w = w; z = z; t = t; system = A; factor = F; wy = wy_of D F w t; W = solved_columns D F w }

-- with β and u
unfoldable pub found_with : Design → Reduced → List Float → List Float → List Float → Solved
found_with D r C beta u =
    record { w = r.w; z = r.z; system = r.system; factor = r.factor; root = C; beta = beta; u = u; raw = raw_of D beta (b_of D u) }

-- with β
unfoldable pub found_beta : Design → Reduced → List Float → List Float → Solved
found_beta D r C beta = found_with D r C beta (effects_after D r.wy r.W beta)

-- with the normal matrix's factor C
unfoldable pub found : Design → Reduced → List Float → Solved
found D r C = found_beta D r C (beta_of D C (normal_side D r.w r.t r.wy))

-- by how the normal matrix's factorisation ended
unfoldable pub after_root : Result ⊤ ℕ → Design → Reduced → List Float → Solve
after_root (Err i) D r C = unsolved NormalPivot
after_root (Ok tt) D r C = solved (found D r C)

-- the normal matrix N with its factor C
unfoldable pub solve_root : Design → Reduced → List Float → List Float → Solve
solve_root D r N C = after_root (cholesky_end D.p N C) D r C

-- the normal matrix N
unfoldable pub solve_normal : Design → Reduced → List Float → Solve
solve_normal D r N = solve_root D r N (cholesky_of D.p N)

-- with the right sides solved
unfoldable pub solve_reduced : Design → Reduced → Solve
solve_reduced D r = solve_normal D r (normal_of D r.w r.W)

-- by how the factorisation of A ended
unfoldable pub after_factor : Result ⊤ ℕ → Design → List Float → List Float → List Float → List Float → Solve
after_factor (Err i) D w z A F = unsolved SystemPivot
after_factor (Ok tt) D w z A F = solve_reduced D (reduced_of D w z (targets D z) A F)

-- A with its factor F
unfoldable pub solve_factor : Design → List Float → List Float → List Float → List Float → Solve
solve_factor D w z A F = after_factor (ldl_end (q_of D) F) D w z A F

-- A
unfoldable pub solve_system : Design → List Float → List Float → List Float → Solve
solve_system D w z A = solve_factor D w z A (factor_of D A)

-- w and z
unfoldable pub solve_working : Design → List Float → List Float → Solve
solve_working D w z = solve_system D w z (system_of D w)

-- the solve of an iteration at the predictor eta with the means mu
unfoldable pub solve_of : Given → Float → List Float → List Float → Solve
solve_of G phi eta mu = solve_working G.design (working_weights G phi eta mu) (working_responses G eta mu)
