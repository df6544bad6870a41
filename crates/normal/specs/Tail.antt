-- The tail of the normal distribution past y, from 0 to 39, as ordered operations: with w = y / sqrt 2 it is erfc w / 2, by fdlibm's approximations of erf and erfc. Document 02, P8; docs/ELEMENTARY.md has method and bound. Assumes nothing.
use Rattle.std.specs.Prelude.{cond, Float}
use Rattle.std.specs.Float.Ieee.{neg, lt}
use Rattle.base.specs.Number.{◌⊕◌, ◌⊖◌, ◌⊗◌, ◌⊘◌, bits, one_f, half_f}
use Rattle.elementary.specs.Exp.{exp_two}
use Rattle.normal.specs.Constants.{grid, tail_hi, tail_lo, k₁, k₂, pp₁_hi, pp₁_lo, erfc_one, pp₀, pp₁, pp₂, pp₃, pp₄, qq₁, qq₂, qq₃, qq₄, qq₅}
use Rattle.normal.specs.Constants.{pa₀, pa₁, pa₂, pa₃, pa₄, pa₅, pa₆, qa₁, qa₂, qa₃, qa₄, qa₅, qa₆, ra₀, ra₁, ra₂, ra₃, ra₄, ra₅, ra₆, ra₇, sa₁, sa₂, sa₃, sa₄, sa₅, sa₆, sa₇, sa₈}
use Rattle.normal.specs.Constants.{rb₀, rb₁, rb₂, rb₃, rb₄, rb₅, rb₆, sb₁, sb₂, sb₃, sb₄, sb₅, sb₆, sb₇}

-- ---- y² / 2 and y / sqrt 2 in parts
-- z, the multiple of 2^-20 nearest to y
unfoldable pub on_grid : Float → Float
on_grid y = y ⊕ grid ⊖ grid

-- z² / 2, exact: z has 26 digits
unfoldable pub half_square : Float → Float
half_square z = half_f ⊗ (z ⊗ z)

-- what z² / 2 lacks of y² / 2
unfoldable pub half_rest : Float → Float → Float
half_rest y z = half_f ⊗ ((y ⊖ z) ⊗ (y ⊕ z))

-- what y / 2 + k₁ z lacks of y / sqrt 2; both terms are exact
unfoldable pub root_rest : Float → Float → Float
root_rest y z = (y ⊖ z) ⊗ k₁ ⊕ y ⊗ k₂

-- ---- up to w = 0.84375
-- erf w - w, where w² is s + d: w times a quotient of polynomials in w², whose linear term is taken at s and d apart
unfoldable pub erf_rest : Float → Float → Float → Float
erf_rest w s d =
    let v = s ⊕ d in
    let p = pp₀ ⊕ s ⊗ pp₁_hi ⊕ (s ⊗ pp₁_lo ⊕ (d ⊗ pp₁ ⊕ v ⊗ v ⊗ (pp₂ ⊕ v ⊗ (pp₃ ⊕ v ⊗ pp₄)))) in
    let q = one_f ⊕ v ⊗ (qq₁ ⊕ v ⊗ (qq₂ ⊕ v ⊗ (qq₃ ⊕ v ⊗ (qq₄ ⊕ v ⊗ qq₅)))) in
    w ⊗ p ⊘ q

-- 1/2 below 1, so that this less y / 2 and k₁ z is exact for y from 1/2 on
unfoldable pub taken_from : Float → Float
taken_from y = cond (lt y one_f) half_f one_f

-- (1 - w - (erf w - w)) / 2
unfoldable pub tail_near : Float → Float
tail_near y =
    let z = on_grid y in
    let h = half_f ⊗ y in
    let b = z ⊗ k₁ in
    let g = root_rest y z in
    let c = taken_from y in
    half_f ⊗ (one_f ⊖ c ⊕ (c ⊖ h ⊖ b ⊖ (g ⊕ erf_rest (h ⊕ (b ⊕ g)) (half_square z) (half_rest y z))))

-- ---- from there to w = 1.25
-- erfc (1 + u) / 2: the largest term, pa₁ u, goes straight to the sum with erfc_one, and P / Q is P - P (Q - 1) / Q
unfoldable pub erfc_near_one : Float → Float
erfc_near_one u =
    let t = pa₂ ⊕ u ⊗ (pa₃ ⊕ u ⊗ (pa₄ ⊕ u ⊗ (pa₅ ⊕ u ⊗ pa₆))) in
    let o = u ⊗ (qa₁ ⊕ u ⊗ (qa₂ ⊕ u ⊗ (qa₃ ⊕ u ⊗ (qa₄ ⊕ u ⊗ (qa₅ ⊕ u ⊗ qa₆))))) in
    let p = pa₀ ⊕ u ⊗ (pa₁ ⊕ u ⊗ t) in
    half_f ⊗ (erfc_one ⊖ u ⊗ pa₁ ⊖ (pa₀ ⊕ u ⊗ u ⊗ t ⊖ p ⊗ (o ⊘ (one_f ⊕ o))))

-- at u = w - 1, which is rounded once
unfoldable pub tail_middle : Float → Float
tail_middle y =
    let z = on_grid y in
    erfc_near_one (half_f ⊗ y ⊖ one_f ⊕ z ⊗ k₁ ⊕ root_rest y z)

-- ---- from w = 1.25 on
-- ln (w erfc w) + w² + 0.5625 up to w = 1/0.35, where v is w² and q is 1 / w²: the published quotient with both sides times v³
unfoldable pub inner_part : Float → Float → Float
inner_part v q =
    let p = ra₃ ⊕ q ⊗ (ra₄ ⊕ q ⊗ (ra₅ ⊕ q ⊗ (ra₆ ⊕ q ⊗ ra₇))) ⊕ v ⊗ (ra₂ ⊕ v ⊗ (ra₁ ⊕ v ⊗ ra₀)) in
    let s = sa₃ ⊕ q ⊗ (sa₄ ⊕ q ⊗ (sa₅ ⊕ q ⊗ (sa₆ ⊕ q ⊗ (sa₇ ⊕ q ⊗ sa₈)))) ⊕ v ⊗ (sa₂ ⊕ v ⊗ (sa₁ ⊕ v)) in
    p ⊘ s

-- the same beyond
unfoldable pub outer_part : Float → Float
outer_part q =
    let p = rb₀ ⊕ q ⊗ (rb₁ ⊕ q ⊗ (rb₂ ⊕ q ⊗ (rb₃ ⊕ q ⊗ (rb₄ ⊕ q ⊗ (rb₅ ⊕ q ⊗ rb₆))))) in
    let s = one_f ⊕ q ⊗ (sb₁ ⊕ q ⊗ (sb₂ ⊕ q ⊗ (sb₃ ⊕ q ⊗ (sb₄ ⊕ q ⊗ (sb₅ ⊕ q ⊗ (sb₆ ⊕ q ⊗ sb₇)))))) in
    p ⊘ s

-- by y, with 4.04 for 1/0.35
unfoldable pub far_part : Float → Float → Float
far_part y v = cond (lt y (bits 0x4010_28f5_c28f_5c29)) (inner_part v (one_f ⊘ v)) (outer_part (one_f ⊘ v))

-- exp (r - s - d - 0.5625 - ln 2 / 2) / y: of the exponent, t is the part that one double holds
unfoldable pub tail_by : Float → Float → Float → Float → Float
tail_by y s d r =
    let a = neg (s ⊕ tail_hi) in
    let t = a ⊕ r in
    exp_two t (a ⊖ t ⊕ r ⊖ (d ⊕ tail_lo)) ⊘ y

-- with y² / 2 as s + d
unfoldable pub tail_far : Float → Float
tail_far y =
    let z = on_grid y in
    let s = half_square z in
    let d = half_rest y z in
    tail_by y s d (far_part y (s ⊕ d))

-- ---- the tail, with 1.1932 and 1.7677 for 0.84375 sqrt 2 and 1.25 sqrt 2
unfoldable pub upper_tail : Float → Float
upper_tail y =
    cond (lt y (bits 0x3ff3_1758_e219_652c)) (tail_near y)
    (cond (lt y (bits 0x3ffc_487f_cb92_3a2a)) (tail_middle y)
    (tail_far y))
