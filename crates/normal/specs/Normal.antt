-- norm_cdf and norm_pdf, the normal distribution function and its density, as ordered operations. Document 02, P8; docs/ELEMENTARY.md has method and bound. Assumes nothing.
use Rattle.std.specs.Prelude.{cond, Float}
use Rattle.std.specs.Float.Ieee.{neg, lt, le, is_nan}
use Rattle.base.specs.Number.{◌⊕◌, ◌⊖◌, bits, zero_f, one_f, abs_f}
use Rattle.elementary.specs.Exp.{exp_two}
use Rattle.normal.specs.Constants.{pdf_hi, pdf_lo}
use Rattle.normal.specs.Tail.{on_grid, half_square, half_rest, upper_tail}

-- 39, from where on the tail and the density round to zero
abbrev pub end_f : Float
end_f = bits 0x4043_8000_0000_0000

-- exp (-y² / 2 - ln sqrt(2π)), for y from 0 to 39: the exponent in two parts, of which the first is exact
unfoldable pub density_of : Float → Float
density_of y =
    let z = on_grid y in
    exp_two (neg (half_square z ⊕ pdf_hi)) (neg (half_rest y z ⊕ pdf_lo))

-- the density at x: a NaN stays
unfoldable pub norm_pdf : Float → Float
norm_pdf x = cond (is_nan x) x (cond (le end_f (abs_f x)) zero_f (density_of (abs_f x)))

-- z from 0 to 1, and the end that it lies past; +0 of a NaN
unfoldable pub from_zero_to_one : Float → Float
from_zero_to_one z = cond (lt zero_f z) (cond (lt z one_f) z one_f) zero_f

-- the distribution function at x: a NaN stays; below zero the tail past -x, else 1 less the tail past x
unfoldable pub norm_cdf : Float → Float
norm_cdf x =
    cond (is_nan x) x
    (cond (le x (neg end_f)) zero_f
    (cond (le end_f x) one_f
    (cond (lt x zero_f) (from_zero_to_one (upper_tail (neg x))) (from_zero_to_one (one_f ⊖ upper_tail x)))))
