-- Worked examples, by computation. Assumes nothing.
use Rattle.std.specs.Prelude.{Ok, Err}
use Prim.{tt}
use mathlib.Core.Path.{◌≡◌, refl}
use mathlib.Core.List.{[], ◌∷◌}
use lib.Ieee.{Float, of_bits, size, add, sub, mul, div, lt, eq}
use Rattle.base.specs.Number.{bits, zero_f, one_f, finite}
use Rattle.base.specs.Sum.{sum_to, sum_from}
use Rattle.base.specs.List.{build, matrix}
use Rattle.base.specs.InPlace.{ruled, fill_by, fill_down}
use Rattle.root.specs.Sqrt.{with_digit, nearest_from, place_of, root_of, units_of, sqrt_of}
use Rattle.factor.specs.Triangle.{rows_dot, triangle, usable, positive, and_then, first_bad}
use Rattle.factor.specs.Factor.{ldl_term, ldl_sum, ldl_pivot, ldl_below, ldl_rule, ldl_of, ldl_passes, ldl_end, cholesky_pivot, cholesky_below, cholesky_rule, cholesky_of, cholesky_passes, cholesky_end}
use Rattle.factor.specs.Substitution.{across_term, down_term, unit_forward_rule, unit_backward_rule, over_d_rule, forward_rule, backward_rule, unit_forward, over_d, unit_backward, forward, backward, ldl_solve, cholesky_solve}
use Rattle.factor.specs.Inverse.{unit_at, unit_column, ldl_column, ldl_inverse_at, ldl_inverse, cholesky_column, cholesky_column_at, cholesky_inverse, v_at}

abbrev minus_four : Float
minus_four = bits 0xc010_0000_0000_0000

abbrev minus_three : Float
minus_three = bits 0xc008_0000_0000_0000

abbrev minus_two : Float
minus_two = bits 0xc000_0000_0000_0000

abbrev minus_one : Float
minus_one = bits 0xbff0_0000_0000_0000

abbrev minus_half : Float
minus_half = bits 0xbfe0_0000_0000_0000

abbrev minus_quarter : Float
minus_quarter = bits 0xbfd0_0000_0000_0000

abbrev minus_eighth : Float
minus_eighth = bits 0xbfc0_0000_0000_0000

abbrev quarter : Float
quarter = bits 0x3fd0_0000_0000_0000

abbrev seventeen_sixty_fourths : Float
seventeen_sixty_fourths = bits 0x3fd1_0000_0000_0000

abbrev three_eighths : Float
three_eighths = bits 0x3fd8_0000_0000_0000

abbrev half : Float
half = bits 0x3fe0_0000_0000_0000

abbrev two : Float
two = bits 0x4000_0000_0000_0000

abbrev three : Float
three = bits 0x4008_0000_0000_0000

abbrev four : Float
four = bits 0x4010_0000_0000_0000

abbrev five : Float
five = bits 0x4014_0000_0000_0000

abbrev six : Float
six = bits 0x4018_0000_0000_0000

abbrev eight : Float
eight = bits 0x4020_0000_0000_0000

abbrev ten : Float
ten = bits 0x4024_0000_0000_0000

abbrev fifteen : Float
fifteen = bits 0x402e_0000_0000_0000

abbrev eighteen : Float
eighteen = bits 0x4032_0000_0000_0000

abbrev twenty_two : Float
twenty_two = bits 0x4036_0000_0000_0000

-- LDL' of 4 2, 2 3: what stood above the diagonal stays
pub ldl_2 : ldl_of 2 (four ∷ two ∷ two ∷ three ∷ []) (eight ∷ eight ∷ eight ∷ eight ∷ []) ≡ (four ∷ eight ∷ half ∷ two ∷ [])
unfolding ldl_of fill_by ruled ldl_rule triangle ldl_below ldl_pivot ldl_sum ldl_term sum_to of_bits add sub mul div
ldl_2 = refl

-- LDL' of 4 2 -2, 2 5 1, -2 1 6
pub ldl_3 : ldl_of 3 (four ∷ two ∷ minus_two ∷ two ∷ five ∷ one_f ∷ minus_two ∷ one_f ∷ six ∷ []) (eight ∷ eight ∷ eight ∷ eight ∷ eight ∷ eight ∷ eight ∷ eight ∷ eight ∷ []) ≡ (four ∷ eight ∷ eight ∷ half ∷ four ∷ eight ∷ minus_half ∷ half ∷ four ∷ [])
unfolding ldl_of fill_by ruled ldl_rule triangle ldl_below ldl_pivot ldl_sum ldl_term sum_to of_bits add sub mul div
ldl_3 = refl

-- it succeeds
pub ldl_3_end : ldl_end 3 (four ∷ eight ∷ eight ∷ half ∷ four ∷ eight ∷ minus_half ∷ half ∷ four ∷ []) ≡ Ok tt
unfolding ldl_end first_bad and_then ldl_passes usable finite of_bits eq
ldl_3_end = refl

-- the second pivot of 1 1, 1 1 is zero
pub ldl_singular : ldl_end 2 (ldl_of 2 (one_f ∷ one_f ∷ one_f ∷ one_f ∷ []) (eight ∷ eight ∷ eight ∷ eight ∷ [])) ≡ Err 1
unfolding ldl_end first_bad and_then ldl_passes usable finite ldl_of fill_by ruled ldl_rule triangle ldl_below ldl_pivot ldl_sum ldl_term sum_to of_bits add sub mul div eq
ldl_singular = refl

-- a negative pivot can be divided by
pub ldl_negative : ldl_end 2 (ldl_of 2 (minus_four ∷ two ∷ two ∷ three ∷ []) (eight ∷ eight ∷ eight ∷ eight ∷ [])) ≡ Ok tt
unfolding ldl_end first_bad and_then ldl_passes usable finite ldl_of fill_by ruled ldl_rule triangle ldl_below ldl_pivot ldl_sum ldl_term sum_to of_bits add sub mul div eq
ldl_negative = refl

-- with the right side 2, 15, 18 the solution is 1, 2, 3
pub ldl_solve_3 : ldl_solve 3 (four ∷ eight ∷ eight ∷ half ∷ four ∷ eight ∷ minus_half ∷ half ∷ four ∷ []) (two ∷ fifteen ∷ eighteen ∷ []) ≡ (one_f ∷ two ∷ three ∷ [])
unfolding ldl_solve unit_forward over_d unit_backward unit_forward_rule over_d_rule unit_backward_rule across_term down_term fill_by fill_down ruled sum_to sum_from of_bits add sub mul div
ldl_solve_3 = refl

-- the inverse of 4 2, 2 3
pub ldl_inverse_2 : ldl_inverse 2 (four ∷ eight ∷ half ∷ two ∷ []) ≡ (three_eighths ∷ minus_quarter ∷ minus_quarter ∷ half ∷ [])
unfolding ldl_inverse matrix build ldl_inverse_at ldl_column unit_column unit_at ldl_solve unit_forward over_d unit_backward unit_forward_rule over_d_rule unit_backward_rule across_term down_term fill_by fill_down ruled sum_to sum_from of_bits add sub mul div
ldl_inverse_2 = refl

-- Cholesky of 4 2, 2 10: what stood above the diagonal stays
pub cholesky_2 : cholesky_of 2 (four ∷ eight ∷ two ∷ ten ∷ []) ≡ (two ∷ eight ∷ one_f ∷ three ∷ [])
unfolding cholesky_of fill_by ruled cholesky_rule triangle cholesky_below cholesky_pivot rows_dot sum_to sqrt_of root_of place_of units_of nearest_from with_digit of_bits size add sub mul div
cholesky_2 = refl

-- Cholesky of 4 2 -2, 2 10 2, -2 2 6
pub cholesky_3 : cholesky_of 3 (four ∷ eight ∷ eight ∷ two ∷ ten ∷ eight ∷ minus_two ∷ two ∷ six ∷ []) ≡ (two ∷ eight ∷ eight ∷ one_f ∷ three ∷ eight ∷ minus_one ∷ one_f ∷ two ∷ [])
unfolding cholesky_of fill_by ruled cholesky_rule triangle cholesky_below cholesky_pivot rows_dot sum_to sqrt_of root_of place_of units_of nearest_from with_digit of_bits size add sub mul div
cholesky_3 = refl

-- it succeeds
pub cholesky_3_end : cholesky_end 3 (four ∷ eight ∷ eight ∷ two ∷ ten ∷ eight ∷ minus_two ∷ two ∷ six ∷ []) (two ∷ eight ∷ eight ∷ one_f ∷ three ∷ eight ∷ minus_one ∷ one_f ∷ two ∷ []) ≡ Ok tt
unfolding cholesky_end first_bad and_then cholesky_passes positive finite cholesky_pivot rows_dot sum_to of_bits add sub mul lt
cholesky_3_end = refl

-- a negative pivot has no root
pub cholesky_negative : cholesky_end 2 (four ∷ eight ∷ two ∷ minus_three ∷ []) (two ∷ eight ∷ one_f ∷ three ∷ []) ≡ Err 1
unfolding cholesky_end first_bad and_then cholesky_passes positive finite cholesky_pivot rows_dot sum_to of_bits add sub mul lt
cholesky_negative = refl

-- with the right side 8, 22 the solution is 1, 2
pub cholesky_solve_2 : cholesky_solve 2 (two ∷ eight ∷ one_f ∷ three ∷ []) (eight ∷ twenty_two ∷ []) ≡ (one_f ∷ two ∷ [])
unfolding cholesky_solve forward backward forward_rule backward_rule unit_forward_rule unit_backward_rule across_term down_term fill_by fill_down ruled sum_to sum_from of_bits add sub mul div
cholesky_solve_2 = refl

-- the columns of the inverse of 2, 1 4
pub cholesky_inverse_2 : cholesky_inverse 2 (two ∷ eight ∷ one_f ∷ four ∷ []) ≡ (half ∷ minus_eighth ∷ zero_f ∷ quarter ∷ [])
unfolding cholesky_inverse matrix build cholesky_column_at cholesky_column unit_column unit_at forward forward_rule unit_forward_rule across_term fill_by ruled sum_to of_bits add sub mul div
cholesky_inverse_2 = refl

-- and entry (0, 0) of v
pub v_first : v_at 2 (half ∷ minus_eighth ∷ zero_f ∷ quarter ∷ []) 0 0 ≡ seventeen_sixty_fourths
unfolding v_at rows_dot sum_to of_bits add mul
v_first = refl
