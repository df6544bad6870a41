-- The two quadrature steps: the product rule for one block, the joint rule for several. Document 01, "The inner fit", from the sentence on n_agq to the causes of declining. Assumes nothing.
use Rattle.quadrature.specs.declared.orders.Decline.{Decline}
use Rattle.std.specs.Prelude.{List, [], ◌++◌, Bool, true, false, ℕ, zero, suc, ◌+◌, ◌*◌, ◌^◌, eqb, length, replicate, Float, Result, Ok, Err}
use Rattle.std.specs.Float.Ieee.{neg}
use Rattle.base.specs.Number.{◌⊕◌, ◌⊗◌, two_f, zero_f, finite}
use Rattle.base.specs.Sum.{◌!!◌}
use Rattle.base.specs.List.{build, at}
use Rattle.model.specs.Items.{Item, a_point}
use Rattle.quadrature.specs.Orders.{size_of, product_order, joint_order}
use Rattle.quadrature.specs.LogSum.{log_sum_exp}
use Rattle.quadrature.specs.declared.orders.Order.{Order}
use Rattle.quadrature.specs.declared.orders.Decline.TheVariants.{Diagonal, Sum}
use Rattle.rule.specs.Given.{Given, q_of}
use Rattle.rule.specs.Stop.{Mode}
use Rattle.agq_rule.specs.Scale.{sigma_of, bad_diagonal, Scale, scaled, unscaled, block_scale, section_of}
use Rattle.agq_rule.specs.Term.{one_term, group_term, joint_term}

-- what a step answers, and its points
pub record Integrated : Type 0 where
  pub answer : Result (Float × Order) Decline
  pub items : List Item

-- it ends here with this answer
unfoldable pub answers : Result (Float × Order) Decline → Integrated
answers a = record { answer = a; items = [] }

-- n points before what follows them
unfoldable pub points_before : ℕ → Integrated → Integrated
points_before n r = record { answer = r.answer; items = replicate n a_point ++ r.items }

-- by the test of a log sum s
unfoldable pub after_sum : Bool → Float → (Float → Integrated) → Integrated
after_sum false s rest = answers (Err Sum)
after_sum true s rest = rest s

-- a log sum s, then the rest
unfoldable pub sum_then : Float → (Float → Integrated) → Integrated
sum_then s rest = after_sum (finite s) s rest

-- log terms, which are points whatever becomes of them; then their log sum
unfoldable pub terms_then : List Float → (Float → Integrated) → Integrated
terms_then terms rest = points_before (length terms) (sum_then (log_sum_exp terms) rest)

-- ---- one block: a sum for each group

-- by the test of the diagonal entry a: one effect a group
unfoldable pub after_diagonal : Bool → Given → Mode → Float → Order → ℕ → Float → (Float → Integrated) → Integrated
after_diagonal true G M phi o g a rest = answers (Err Diagonal)
after_diagonal false G M phi o g a rest = terms_then (build (one_term G M phi o g (sigma_of a)) (size_of o)) rest

-- group g, its diagonal entry being a
unfoldable pub one_group : Given → Mode → Float → Order → ℕ → Float → (Float → Integrated) → Integrated
one_group G M phi o g a rest = after_diagonal (bad_diagonal a) G M phi o g a rest

-- by the scale of the group whose k effects begin at s
unfoldable pub after_scale : Scale → Given → Mode → Float → Order → ℕ → ℕ → (Float → Integrated) → Integrated
after_scale (unscaled d) G M phi o s k rest = answers (Err d)
after_scale (scaled L) G M phi o s k rest = terms_then (build (group_term G M phi o s k L) (size_of o ^ k)) rest

-- that group
unfoldable pub several_group : Given → Mode → Float → Order → ℕ → ℕ → (Float → Integrated) → Integrated
several_group G M phi o s k rest = after_scale (block_scale k (section_of (q_of G.design) M.system s k)) G M phi o s k rest

-- group g, by whether a group has one effect
unfoldable pub group_by : Bool → Given → Mode → Float → Order → ℕ → ℕ → (Float → Integrated) → Integrated
group_by true G M phi o k g rest = one_group G M phi o g (at (q_of G.design) M.system g g) rest
group_by false G M phi o k g rest = several_group G M phi o (g * k) k rest

-- the total with -2·log sum added
unfoldable pub with_sum : Float → Float → Float
with_sum total s = total ⊕ (neg two_f ⊗ s)

-- the groups from g on, `left` of them: fit term + total after the last
unfoldable pub groups_from : Given → Mode → Float → Order → ℕ → ℕ → ℕ → Float → Integrated
groups_from G M phi o k zero g total = answers (Ok ((M.fit ⊕ total), o))
groups_from G M phi o k (suc left) g total =
    group_by (eqb k 1) G M phi o k g (λ s. groups_from G M phi o k left (g + 1) (with_sum total s))

-- by the order for m groups of k effects
unfoldable pub product_with : Result Order Decline → Given → Mode → Float → ℕ → ℕ → Integrated
product_with (Err d) G M phi m k = answers (Err d)
product_with (Ok o) G M phi m k = groups_from G M phi o k m 0 zero_f

-- the product rule
unfoldable pub product_step : Given → ℕ → Mode → Float → ℕ → ℕ → Integrated
product_step G wish M phi m k = product_with (product_order wish k) G M phi m k

-- ---- several blocks: one sum over all effects

-- fit term + total, which is -2·log sum
unfoldable pub joint_total : Mode → Order → Float → Integrated
joint_total M o s = answers (Ok ((M.fit ⊕ (neg two_f ⊗ s)), o))

-- by the scale of all effects
unfoldable pub after_joint : Scale → Given → Mode → Float → Order → Integrated
after_joint (unscaled d) G M phi o = answers (Err d)
after_joint (scaled L) G M phi o = terms_then (build (joint_term G M phi o L) (size_of o ^ q_of G.design)) (joint_total M o)

-- by the order
unfoldable pub joint_with : Result Order Decline → Given → Mode → Float → Integrated
joint_with (Err d) G M phi = answers (Err d)
joint_with (Ok o) G M phi = after_joint (block_scale (q_of G.design) M.system) G M phi o

-- the joint rule
unfoldable pub joint_step : Given → ℕ → Mode → Float → Integrated
joint_step G wish M phi = joint_with (joint_order wish (q_of G.design)) G M phi

-- ---- either

-- by whether there is one block
unfoldable pub step_by : Bool → Given → ℕ → Mode → Float → Integrated
step_by true G wish M phi = product_step G wish M phi (G.design.shape.m !! 0) (G.design.shape.k !! 0)
step_by false G wish M phi = joint_step G wish M phi

-- the quadrature at a mode
unfoldable pub quadrature_of : Given → ℕ → Mode → Float → Integrated
quadrature_of G wish M phi = step_by (eqb G.design.shape.count 1) G wish M phi
