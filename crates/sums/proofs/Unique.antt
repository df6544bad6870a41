-- One answer, where the work slices hold a mode: what the steps and the groups answer is decided by their contracts. Assumes nothing.
use Rattle.base.specs.Number.{zero_f}
use Rattle.quadrature.specs.declared.orders.Decline.{Decline}
use Rattle.std.specs.Prelude.{Result, Ok, Err}
use mathlib.Core.Path.{◌≡◌, sym, ap, ◌∙◌}
use mathlib.Core.List.{List, append-nil}
use Prim.Native.Nat.{ℕ}
use native.Mathlib.Omega.{arith}
use lib.ListN.{length, replicate, length-replicate}
use lib.Ieee.{Float}
use Rattle.base.proofs.Unique.{one_value}
use Rattle.model.specs.Items.{a_point}
use Rattle.quadrature.specs.declared.orders.Order.{Order}
use Rattle.quadrature.specs.declared.orders.Order.TheVariants.{Three}
use Rattle.rule.specs.Given.{Given}
use Rattle.rule.specs.Stop.{Mode}
use Rattle.agq_rule.specs.Steps.{Integrated, answers, points_before}
use Rattle.sums.specs.Stands.{Stands}
use Rattle.sums.specs.Summed.{carry, tells_then, integrated_of, SumLeft, GroupLeft, StepLeft}
use Rattle.sums.specs.declared.answers.GroupSum.{GroupSum}
use Rattle.sums.specs.declared.answers.Quadrature.{Quadrature}

points_many : (n : ℕ) → length (replicate n a_point) ≡ n
points_many n = length-replicate n a_point

-- an answer with so many points is known by what the rule tells of it
pub same_integrated : (a b : Quadrature) → integrated_of a ≡ integrated_of b → a ≡ b
unfolding integrated_of
same_integrated a b e =
    let answer : a.answer ≡ b.answer = ap (λ (z : Integrated). z.answer) e in
    let points : a.points ≡ b.points = sym (points_many a.points) ∙ ap (λ (z : Integrated). length z.items) e ∙ points_many b.points in
    λ i. record { answer = answer i; points = points i }

-- `product_step`, `joint_step`
pub step_unique : (G : List Float → Given) (rule : Given → Mode → Integrated) (n p q : ℕ) (fit : Float) (r r1 r2 m m1 m2 t t1 t2 : List Float) (a b : Quadrature) (x : List Float) (M : Mode) → Stands (G x) M r m → M.fit ≡ fit
    → StepLeft G rule n p q fit r r1 m m1 t t1 a → StepLeft G rule n p q fit r r2 m m2 t t2 b → a ≡ b
step_unique G rule n p q fit r r1 r2 m m1 m2 t t1 t2 a b x M s f u v = same_integrated a b (sym (u.told x M s f) ∙ v.told x M s f)

-- `one_sums`, `several_sums`, `joint_sums`
pub sum_unique : (G : List Float → Given) (term : Given → Mode → ℕ → Float) (n p q count : ℕ) (r r1 r2 m m1 m2 t t1 t2 : List Float) (a b : GroupSum) (x : List Float) (M : Mode) → Stands (G x) M r m
    → SumLeft G term n p q count r r1 m m1 t t1 a → SumLeft G term n p q count r r2 m m2 t t2 b → a ≡ b
sum_unique G term n p q count r r1 r2 m m1 m2 t t1 t2 a b x M s u v = one_value (u.told x M s) (v.told x M s)

-- ---- a group, with a rest that shows the log sum

shown : Float → Integrated
shown s = answers (Ok (s, Three))

abbrev sum_in : Result (Float × Order) Decline → Float
sum_in (Ok (s, o)) = s
sum_in (Err d) = zero_f

same_sum : (s v : Result Float Decline) → (carry s shown).answer ≡ (carry v shown).answer → s ≡ v
unfolding carry shown answers
same_sum (Ok s) (Ok v) e = let z : s ≡ v = ap sum_in e in ap Ok z
same_sum (Ok s) (Err d) e = let z : ◌≡◌ {A = ℕ} 0 1 = cc in absurd (omega arith)
same_sum (Err d) (Ok s) e = let z : ◌≡◌ {A = ℕ} 0 1 = cc in absurd (omega arith)
same_sum (Err d) (Err f) e = let z : d ≡ f = cc in ap Err z

shown_points : (n : ℕ) (s : Result Float Decline) → length (points_before n (carry s shown)).items ≡ n
unfolding points_before carry shown answers
shown_points n (Ok s) = ap length (append-nil (replicate n a_point)) ∙ points_many n
shown_points n (Err d) = ap length (append-nil (replicate n a_point)) ∙ points_many n

same_told : (a b : GroupSum) → tells_then a shown ≡ tells_then b shown → (a.sum ≡ b.sum) × (a.points ≡ b.points)
unfolding points_before
same_told a b e = (
  same_sum a.sum b.sum (ap (λ (z : Integrated). z.answer) e),
  sym (shown_points a.points a.sum) ∙ ap (λ (z : Integrated). length z.items) e ∙ shown_points b.points b.sum,
)

-- `one_group`, `several_group`, `group`
pub group_unique : (G : List Float → Given) (rule : Given → Mode → (Float → Integrated) → Integrated) (n p q most : ℕ) (r r1 r2 m m1 m2 t t1 t2 : List Float) (a b : GroupSum) (x : List Float) (M : Mode) → Stands (G x) M r m
    → GroupLeft G rule n p q most r r1 m m1 t t1 a → GroupLeft G rule n p q most r r2 m m2 t t2 b → (a.sum ≡ b.sum) × (a.points ≡ b.points)
group_unique G rule n p q most r r1 r2 m m1 m2 t t1 t2 a b x M s u v = same_told a b (sym (u.told x M s shown) ∙ v.told x M s shown)
