-- Last bits of a log term, and what a joint rule that declines has counted: closed cases, computed by the checker, and one law. Assumes nothing.
use mathlib.Core.Path.{◌≡◌, refl, ap, ◌∙◌}
use mathlib.Core.Bool.{Bool, true, false}
use mathlib.Core.List.{List, [], ◌∷◌, ◌++◌, append-nil}
use Prim.Native.Nat.{ℕ, ◌^◌}
use lib.ListN.{length, replicate}
use lib.Ieee.{Float, neg, of_bits, add, sub, mul, div, lt}
use Rattle.base.specs.Number.{bits, zero_f, one_f, half_f, max_f, finite}
use Rattle.base.specs.Sum.{sum_to}
use Rattle.base.specs.List.{build}
use Rattle.base.proofs.Fills.{build_length}
use Rattle.model.specs.Items.{Item, a_point}
use Rattle.quadrature.specs.LogSum.{log_sum_exp}
use Rattle.quadrature.specs.Orders.{size_of}
use Rattle.quadrature.specs.declared.orders.Order.{Order}
use Rattle.rule.specs.Given.{Given, q_of}
use Rattle.rule.specs.Stop.{Mode}
use Rattle.agq_rule.specs.Scale.{scaled}
use Rattle.agq_rule.specs.Term.{inverse_phi, delta_of, penalty_at, group_penalty, joint_term, joint_penalty}
use Rattle.agq_rule.specs.Steps.{answers, points_before, after_sum, sum_then, terms_then, joint_total, after_joint}

-- 0.3
abbrev three_tenths : Float
three_tenths = bits 0x3fd3_3333_3333_3333

-- one effect: -1.2·-1.2 - -1.1·-1.1; as (t - û)·(t + û) it would end in 65
pub one_penalty : penalty_at (bits 0xbff3_3333_3333_3333 ∷ []) (bits 0xbff1_9999_9999_999a ∷ []) 0 ≡ bits 0x3fcd_70a3_d70a_3d68
unfolding penalty_at of_bits sub mul
one_penalty = refl

-- two effects, t being 0.5, 1 and û being 1, 0.3: the sum of t² - û²; as (s + t²) - û² it would end in 7b
pub several_penalty : group_penalty 0 2 (half_f ∷ one_f ∷ []) (one_f ∷ three_tenths ∷ []) ≡ bits 0x3fc4_7ae1_47ae_147c
unfolding group_penalty penalty_at sum_to of_bits add sub mul
several_penalty = refl

-- the same effects by the joint rule: Σt² - Σû²
pub joint_penalty_lem : joint_penalty 2 (half_f ∷ one_f ∷ []) (one_f ∷ three_tenths ∷ []) ≡ bits 0x3fc4_7ae1_47ae_1478
unfolding joint_penalty sum_to of_bits add sub mul
joint_penalty_lem = refl

-- dd 5 at phi 3: (-½·dd)·(1/phi); as (-½·dd)/phi it would end in ab
pub times_inverse : delta_of (inverse_phi (bits 0x4008_0000_0000_0000)) (bits 0x4014_0000_0000_0000) zero_f ≡ bits 0xbfea_aaaa_aaaa_aaaa
unfolding inverse_phi delta_of max_f neg of_bits sub mul div lt
times_inverse = refl

-- the points of the joint rule are counted, whatever its log sum: also where the rule declines because that is not finite
nothing_more : (M : Mode) (o : Order) (b : Bool) (s : Float) → (after_sum b s (joint_total M o)).items ≡ []
unfolding after_sum joint_total answers
nothing_more M o true s = refl
nothing_more M o false s = refl

pub joint_counted : (G : Given) (M : Mode) (phi : Float) (o : Order) (L : List Float) → (after_joint (scaled L) G M phi o).items ≡ replicate (size_of o ^ q_of G.design) a_point
unfolding after_joint terms_then points_before sum_then
joint_counted G M phi o L =
    let n = size_of o ^ q_of G.design in
    let terms = build (joint_term G M phi o L) n in
    let s = log_sum_exp terms in
    ap (λ (is : List Item). replicate (length terms) a_point ++ is) (nothing_more M o (finite s) s) ∙ (append-nil (replicate (length terms) a_point) ∙ ap (λ (k : ℕ). replicate k a_point) (build_length (joint_term G M phi o L) n))
