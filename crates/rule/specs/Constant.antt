-- A constant of the inner fit. Assumes nothing.
use Rattle.std.specs.Prelude.{Float}
use Rattle.base.specs.Number.{bits}

-- 1e-8, the tolerance of the stop test, and of phi in the dispersion loop
abbrev pub tol_f : Float
tol_f = bits 0x3e45_798e_e230_8c3a
