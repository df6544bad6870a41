-- Where the pieces of the work slice `terms` begin until the first log term is formed, each where the one before it ends. Its length: document 01, "Numbers of an answer", number 7. Assumes nothing.
use Rattle.std.specs.Prelude.{ℕ, ◌+◌, ◌*◌}

-- K, q²: (Z'WZ)Λ, then L and d
abbrev pub factor_place : ℕ
factor_place = 0

-- w, n numbers
abbrev pub w_place : ℕ → ℕ
w_place q = q * q

-- z, n numbers
abbrev pub z_place : ℕ → ℕ → ℕ
z_place n q = w_place q + n

-- V, qp: the columns before they are solved
abbrev pub unsolved_place : ℕ → ℕ → ℕ
unsolved_place n q = z_place n q + n

-- N, p²: the normal matrix, then its factor
abbrev pub normal_place : ℕ → ℕ → ℕ → ℕ
normal_place n p q = unsolved_place n q + q * p

-- u, q numbers, before it is put to b
abbrev pub spare_place : ℕ → ℕ → ℕ → ℕ
spare_place n p q = normal_place n p q + p * p

-- the room that the caller must lend; in the quadrature all of it is for log terms
abbrev pub terms_length : ℕ
terms_length = 7000
