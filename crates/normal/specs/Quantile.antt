-- norm_quantile, the normal distribution's quantile, as ordered operations: Cephes' ndtri, and one of Newton's steps where the smaller tail is below 1/4. Document 02, P8; docs/ELEMENTARY.md has method and bound. Assumes nothing.
use Rattle.std.specs.Prelude.{true, false, cond, List, drop, Float}
use Rattle.std.specs.List.{fold}
use Rattle.std.specs.Float.{nan, inf}
use Rattle.std.specs.Float.Ieee.{neg, lt, le, eq, is_nan}
use Rattle.base.specs.Number.{◌⊕◌, ◌⊖◌, ◌⊗◌, ◌⊘◌, bits, zero_f, one_f, half_f, two_f, abs_f}
use Rattle.base.specs.Sum.{◌!◌}
use Rattle.root.specs.Sqrt.{sqrt_of}
use Rattle.elementary.specs.Log.{ln_of}
use Rattle.normal.specs.QuantileConstants.{p0₀, p0₁, p0₂, p0₃, p0₄, q0₀, q0₁, q0₂, q0₃, q0₄, q0₅, q0₆, q0₇, root_two_pi, far_tail}
use Rattle.normal.specs.QuantileConstants.{p1₀, p1₁, p1₂, p1₃, p1₄, p1₅, p1₆, p1₇, p1₈, q1₀, q1₁, q1₂, q1₃, q1₄, q1₅, q1₆, q1₇}
use Rattle.normal.specs.QuantileConstants.{p2₀, p2₁, p2₂, p2₃, p2₄, p2₅, p2₆, p2₇, p2₈, q2₀, q2₁, q2₂, q2₃, q2₄, q2₅, q2₆, q2₇}
use Rattle.normal.specs.Tail.{upper_tail}
use Rattle.normal.specs.Normal.{density_of}

-- a polynomial by Horner's rule: s is the highest coefficient, and the others follow, the highest power first
unfoldable pub horner_of : Float → List Float → Float → Float
horner_of s others w = fold (λ s c. s ⊗ w ⊕ c) s others

-- w P / Q, where Q has a leading 1 that is not stored
unfoldable pub part_of : List Float → List Float → Float → Float
part_of p q w = w ⊗ horner_of (p ! 0) (drop 1 p) w ⊘ horner_of (w ⊕ (q ! 0)) (drop 1 q) w

-- the quantile of 1/2 + q, for |q| up to 0.365: (q + q³ P / Q) sqrt(2π), P and Q in q²
unfoldable pub central_of : Float → Float
central_of q =
    let t = q ⊗ q in
    let p = (((p0₀ ⊗ t ⊕ p0₁) ⊗ t ⊕ p0₂) ⊗ t ⊕ p0₃) ⊗ t ⊕ p0₄ in
    let s = (((((((t ⊕ q0₀) ⊗ t ⊕ q0₁) ⊗ t ⊕ q0₂) ⊗ t ⊕ q0₃) ⊗ t ⊕ q0₄) ⊗ t ⊕ q0₅) ⊗ t ⊕ q0₆) ⊗ t ⊕ q0₇ in
    (q ⊕ q ⊗ (t ⊗ p ⊘ s)) ⊗ root_two_pi

-- w P / Q in w, for w from 1/8 to 1/2
unfoldable pub near_part : Float → Float
near_part w =
    let p = (((((((p1₀ ⊗ w ⊕ p1₁) ⊗ w ⊕ p1₂) ⊗ w ⊕ p1₃) ⊗ w ⊕ p1₄) ⊗ w ⊕ p1₅) ⊗ w ⊕ p1₆) ⊗ w ⊕ p1₇) ⊗ w ⊕ p1₈ in
    let s = (((((((w ⊕ q1₀) ⊗ w ⊕ q1₁) ⊗ w ⊕ q1₂) ⊗ w ⊕ q1₃) ⊗ w ⊕ q1₄) ⊗ w ⊕ q1₅) ⊗ w ⊕ q1₆) ⊗ w ⊕ q1₇ in
    w ⊗ p ⊘ s

-- the same for a smaller w
unfoldable pub distant_part : Float → Float
distant_part w =
    let p = (((((((p2₀ ⊗ w ⊕ p2₁) ⊗ w ⊕ p2₂) ⊗ w ⊕ p2₃) ⊗ w ⊕ p2₄) ⊗ w ⊕ p2₅) ⊗ w ⊕ p2₆) ⊗ w ⊕ p2₇) ⊗ w ⊕ p2₈ in
    let s = (((((((w ⊕ q2₀) ⊗ w ⊕ q2₁) ⊗ w ⊕ q2₂) ⊗ w ⊕ q2₃) ⊗ w ⊕ q2₄) ⊗ w ⊕ q2₅) ⊗ w ⊕ q2₆) ⊗ w ⊕ q2₇ in
    w ⊗ p ⊘ s

-- x - ln x / x - P / Q (1 / x) / x, where x is sqrt(-2 ln t)
unfoldable pub guess_by : Float → Float
guess_by x = x ⊖ ln_of x ⊘ x ⊖ cond (lt x (bits 0x4020_0000_0000_0000)) (near_part (one_f ⊘ x)) (distant_part (one_f ⊘ x))

-- y whose tail is t, to some units in the last place, for t from 0 to 1/4
unfoldable pub guess_of : Float → Float
guess_of t = cond (lt far_tail t) (central_of (half_f ⊖ t)) (guess_by (sqrt_of (neg two_f ⊗ ln_of t)))

-- the same with one of Newton's steps, but below 2^-1000, where the tail is hardly a normal number
unfoldable pub upper_quantile : Float → Float
upper_quantile t =
    let y = guess_of t in
    cond (lt t (bits 0x0170_0000_0000_0000)) y (y ⊕ (upper_tail y ⊖ t) ⊘ density_of y)

-- the quantile of p strictly between 0 and 1, where q is p - 1/2
unfoldable pub inside_of : Float → Float → Float
inside_of p q =
    cond (le (abs_f q) (bits 0x3fd0_0000_0000_0000)) (central_of q)
    (cond (lt q zero_f) (neg (upper_quantile p)) (upper_quantile (one_f ⊖ p)))

-- the quantile of p: a NaN stays, outside 0 to 1 there is none, at the ends it is infinite
unfoldable pub norm_quantile : Float → Float
norm_quantile p =
    cond (is_nan p) p
    (cond (lt p zero_f) nan
    (cond (lt one_f p) nan
    (cond (eq p zero_f) (inf true)
    (cond (eq p one_f) (inf false) (inside_of p (p ⊖ half_f))))))
