-- The four approximations of ln gamma below 8 as ordered operations, fdlibm's as musl's lgamma_r.c has them. Document 02, P2; docs/ELEMENTARY.md has method and bound. Assumes nothing.
use Rattle.std.specs.Prelude.{Float}
use Rattle.std.specs.Float.Ieee.{neg}
use Rattle.base.specs.Number.{◌⊕◌, ◌⊖◌, ◌⊗◌, ◌⊘◌, one_f, half_f, two_f}
use Rattle.log_gamma.specs.Constants.{a₀, a₁, a₂, a₃, a₄, a₅, a₆, a₇, a₈, a₉, a₁₀, a₁₁, tf, tt₀, t₀, t₁, t₂, t₃, t₄, t₅, t₆, t₇, t₈, t₉, t₁₀, t₁₁, t₁₂, t₁₃, t₁₄}
use Rattle.log_gamma.specs.Constants.{u₀, u₁, u₂, u₃, u₄, u₅, v₁, v₂, v₃, v₄, v₅, s₀, s₁, s₂, s₃, s₄, s₅, s₆, r₁, r₂, r₃, r₄, r₅, r₆}

-- ln gamma (2 - y): y (a₀ + a₁ y + .. + a₁₁ y¹¹) - y / 2, the even and the odd coefficients apart
unfoldable pub about_two : Float → Float
about_two y =
    let z = y ⊗ y in
    let even = a₀ ⊕ z ⊗ (a₂ ⊕ z ⊗ (a₄ ⊕ z ⊗ (a₆ ⊕ z ⊗ (a₈ ⊕ z ⊗ a₁₀)))) in
    let odd = z ⊗ (a₁ ⊕ z ⊗ (a₃ ⊕ z ⊗ (a₅ ⊕ z ⊗ (a₇ ⊕ z ⊗ (a₉ ⊕ z ⊗ a₁₁))))) in
    y ⊗ even ⊕ odd ⊖ half_f ⊗ y

-- ln gamma (tc + y): its least value and y² (t₀ + t₁ y + .. + t₁₄ y¹⁴), every third coefficient in one sum
unfoldable pub about_least : Float → Float
about_least y =
    let z = y ⊗ y in
    let w = z ⊗ y in
    let p1 = t₀ ⊕ w ⊗ (t₃ ⊕ w ⊗ (t₆ ⊕ w ⊗ (t₉ ⊕ w ⊗ t₁₂))) in
    let p2 = t₁ ⊕ w ⊗ (t₄ ⊕ w ⊗ (t₇ ⊕ w ⊗ (t₁₀ ⊕ w ⊗ t₁₃))) in
    let p3 = t₂ ⊕ w ⊗ (t₅ ⊕ w ⊗ (t₈ ⊕ w ⊗ (t₁₁ ⊕ w ⊗ t₁₄))) in
    tf ⊕ (z ⊗ p1 ⊖ (tt₀ ⊖ w ⊗ (p2 ⊕ y ⊗ p3)))

-- ln gamma (1 + y): -y / 2 and y (u₀ + .. + u₅ y⁵) / (1 + v₁ y + .. + v₅ y⁵)
unfoldable pub about_one : Float → Float
about_one y =
    let p = y ⊗ (u₀ ⊕ y ⊗ (u₁ ⊕ y ⊗ (u₂ ⊕ y ⊗ (u₃ ⊕ y ⊗ (u₄ ⊕ y ⊗ u₅))))) in
    let q = one_f ⊕ y ⊗ (v₁ ⊕ y ⊗ (v₂ ⊕ y ⊗ (v₃ ⊕ y ⊗ (v₄ ⊕ y ⊗ v₅)))) in
    neg half_f ⊗ y ⊕ p ⊘ q

-- ln gamma v for v from 2 to 3, with y = v - 2: y / 2 and y (s₀ + .. + s₆ y⁶) / (1 + r₁ y + .. + r₆ y⁶)
unfoldable pub below_three : Float → Float
below_three v =
    let y = v ⊖ two_f in
    let p = y ⊗ (s₀ ⊕ y ⊗ (s₁ ⊕ y ⊗ (s₂ ⊕ y ⊗ (s₃ ⊕ y ⊗ (s₄ ⊕ y ⊗ (s₅ ⊕ y ⊗ s₆)))))) in
    let q = one_f ⊕ y ⊗ (r₁ ⊕ y ⊗ (r₂ ⊕ y ⊗ (r₃ ⊕ y ⊗ (r₄ ⊕ y ⊗ (r₅ ⊕ y ⊗ r₆))))) in
    half_f ⊗ y ⊕ p ⊘ q
