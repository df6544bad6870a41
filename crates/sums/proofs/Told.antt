-- The rule's words for what the sums answer: points, a log sum or declining, then the rest. Assumes nothing.
use Rattle.std.specs.Prelude.{Result, Ok, Err}
use mathlib.Core.Path.{◌≡◌, refl, sym, ap, ◌∙◌}
use mathlib.Core.List.{List, ◌∷◌, ◌++◌, append-nil}
use mathlib.Core.Bool.{Bool, true, false}
use Prim.Native.Nat.{ℕ, zero, suc, ◌+◌}
use native.Mathlib.Nat.{zero-add, suc-add}
use lib.ListN.{length, replicate}
use lib.Ieee.{Float}
use Rattle.base.specs.Number.{finite}
use Rattle.base.specs.List.{build}
use Rattle.model.specs.Items.{Item, a_point}
use Rattle.quadrature.specs.declared.orders.Decline.{Decline}
use Rattle.quadrature.specs.declared.orders.Decline.TheVariants.{Diagonal}
use Rattle.quadrature.specs.declared.orders.Order.{Order}
use Rattle.quadrature.specs.LogSum.{log_sum_exp}
use Rattle.quadrature.specs.Orders.{size_of}
use Rattle.rule.specs.Given.{Given}
use Rattle.rule.specs.Stop.{Mode}
use Rattle.agq_rule.specs.Scale.{sigma_of, bad_diagonal}
use Rattle.agq_rule.specs.Term.{one_term}
use Rattle.agq_rule.specs.Steps.{Integrated, answers, points_before, after_sum, sum_then, terms_then, after_diagonal, one_group}
use Rattle.scale.specs.Tells.{one_scale_of}
use Rattle.scale.proofs.SigmaFound.{sigma_told, none_told}
use Rattle.sums.specs.Summed.{carry, summed_by, group_sum_of, tells_then, integrated_of}
use Rattle.sums.specs.declared.answers.GroupSum.{GroupSum}

-- ---- points

points_joined : (i j : ℕ) (l : List Item) → replicate i a_point ++ (replicate j a_point ++ l) ≡ replicate (i + j) a_point ++ l
points_joined zero j l = rw (zero-add j) refl
points_joined (suc i) j l = rw (suc-add i j) (ap (λ (z : List Item). a_point ∷ z) (points_joined i j l))

-- points before points
pub points_add : (i j : ℕ) (a : Integrated) → points_before i (points_before j a) ≡ points_before (i + j) a
unfolding points_before
points_add i j a = λ k. record { answer = a.answer; items = points_joined i j a.items k }

pub no_points : (a : Integrated) → a ≡ points_before 0 a
unfolding points_before
no_points a = refl

-- ---- a log sum

sum_told : (b : Bool) (s : Float) (rest : Float → Integrated) → after_sum b s rest ≡ carry (summed_by b s) rest
unfolding after_sum carry summed_by
sum_told false s rest = refl
sum_told true s rest = refl

pub terms_told : (terms : List Float) (rest : Float → Integrated) → terms_then terms rest ≡ tells_then (group_sum_of terms) rest
unfolding terms_then sum_then group_sum_of
terms_told terms rest = ap (points_before (length terms)) (sum_told (finite (log_sum_exp terms)) (log_sum_exp terms) rest)

-- without a scale there is no point
pub declined_told : (d : Decline) (rest : Float → Integrated) → answers (Err d) ≡ tells_then (record { sum = Err d; points = 0 }) rest
unfolding carry answers points_before
declined_told d rest = refl

-- ---- one effect

pub one_declined : (G : Given) (M : Mode) (phi : Float) (o : Order) (g : ℕ) (a : Float) (s : Result Float Decline) (d : Decline) (rest : Float → Integrated) → s ≡ one_scale_of a → s ≡ Err d
    → one_group G M phi o g a rest ≡ tells_then (record { sum = Err d; points = 0 }) rest
unfolding one_group after_diagonal
one_declined G M phi o g a s d rest e f =
    let z : (bad_diagonal a ≡ true) × (d ≡ Diagonal) = none_told a d (sym f ∙ e) in
    rw (z.0, z.1) (declined_told Diagonal rest)

pub one_told : (G : Given) (M : Mode) (phi : Float) (o : Order) (g : ℕ) (a : Float) (s : Result Float Decline) (sigma : Float) (A : GroupSum) (rest : Float → Integrated) → s ≡ one_scale_of a → s ≡ Ok sigma
    → A ≡ group_sum_of (build (one_term G M phi o g sigma) (size_of o)) → one_group G M phi o g a rest ≡ tells_then A rest
unfolding one_group after_diagonal
one_told G M phi o g a s sigma A rest e f h =
    let z : (bad_diagonal a ≡ false) × (sigma ≡ sigma_of a) = sigma_told a sigma (sym f ∙ e) in
    let w : A ≡ group_sum_of (build (one_term G M phi o g (sigma_of a)) (size_of o)) = rw z.1 at h in
    rw (z.0, w) (terms_told (build (one_term G M phi o g (sigma_of a)) (size_of o)) rest)

-- ---- a step's answer

-- points, then the answer
pub step_told : (i : ℕ) (b : Result (Float × Order) Decline) → points_before i (answers b) ≡ integrated_of (record { answer = b; points = i })
unfolding points_before answers integrated_of
step_told i b = λ k. record { answer = b; items = append-nil (replicate i a_point) k }
