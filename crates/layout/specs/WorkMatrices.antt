-- Where the pieces of the work slice `matrices` begin, each where the one before it ends. Its length: document 01, "Numbers of an answer", number 7. Assumes nothing.
use Rattle.std.specs.Prelude.{ℕ, ◌+◌, ◌*◌}

-- S, q²: Z'WZ, then A over it
abbrev pub system_place : ℕ
system_place = 0

-- I, q²: the inverse of a block or of A, then its Cholesky factor
abbrev pub inverse_place : ℕ → ℕ
inverse_place q = q * q

-- W, qp: the solved columns
abbrev pub solved_place : ℕ → ℕ
solved_place q = inverse_place q + q * q

-- P, p²: the inverse of the normal matrix's Cholesky factor
abbrev pub root_inverse_place : ℕ → ℕ → ℕ
root_inverse_place p q = solved_place q + q * p

-- wy, the right side Λ'(Z'(w·(z - offset))) solved with A's factor, the first of six vectors of q numbers
abbrev pub wy_place : ℕ → ℕ → ℕ
wy_place p q = root_inverse_place p q + p * p

-- u
abbrev pub u_place : ℕ → ℕ → ℕ
u_place p q = wy_place p q + q

-- b
abbrev pub b_place : ℕ → ℕ → ℕ
b_place p q = u_place p q + q

-- the trial u
abbrev pub trial_u_place : ℕ → ℕ → ℕ
trial_u_place p q = b_place p q + q

-- the trial b, which `agq` writes q numbers behind the trial u
abbrev pub trial_b_place : ℕ → ℕ → ℕ
trial_b_place p q = trial_u_place p q + q

-- z of a quadrature point, which `several` writes q numbers behind the trial b
abbrev pub point_place : ℕ → ℕ → ℕ
point_place p q = trial_b_place p q + q

-- β, p numbers
abbrev pub beta_place : ℕ → ℕ → ℕ
beta_place p q = point_place p q + q

-- where β ends; nothing stands behind it
abbrev pub beta_end : ℕ → ℕ → ℕ
beta_end p q = beta_place p q + p

-- the room that the caller must lend; the pieces take 2q² + qp + p² + 6q + p of it
abbrev pub matrices_length : ℕ → ℕ → ℕ
matrices_length p q = 3 * (q * q) + 4 * (p * p) + 2 * (q * p) + 12 * (q + p)
