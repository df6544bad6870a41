-- What the joint rule follows, as what is given and a mode make it, and its answer from the log sum. Assumes nothing.
use Rattle.quadrature.specs.declared.orders.Decline.{Decline}
use Rattle.std.specs.Prelude.{Result, Ok, Err}
use Rattle.std.specs.Prelude.{List, ℕ, Float}
use Rattle.std.specs.Float.Ieee.{neg}
use Rattle.base.specs.Number.{◌⊕◌, ◌⊗◌, two_f}
use Rattle.quadrature.specs.declared.orders.Order.{Order}
use Rattle.rule.specs.Given.{Given, q_of}
use Rattle.rule.specs.Stop.{Mode}
use Rattle.agq_rule.specs.Scale.{block_scale}
use Rattle.agq_rule.specs.Term.{joint_term}
use Rattle.agq_rule.specs.Steps.{Integrated, after_joint}
use Rattle.sums.specs.declared.answers.GroupSum.{GroupSum}
use Rattle.sums.specs.declared.answers.Quadrature.{Quadrature}

-- the log terms of all effects at once
abbrev pub joint_terms : Float → Order → List Float → Given → Mode → ℕ → Float
joint_terms phi o L G M = joint_term G M phi o L

-- all effects at once
abbrev pub joint_rule : Float → Order → Given → Mode → Integrated
joint_rule phi o G M = after_joint (block_scale (q_of G.design) M.system) G M phi o

-- by the log sum over all effects: fit term + total
unfoldable pub joint_by : Result Float Decline → Order → Float → Result (Float × Order) Decline
joint_by (Err d) o fit = Err d
joint_by (Ok s) o fit = Ok ((fit ⊕ (neg two_f ⊗ s)), o)

-- what the joint rule answers, from that sum
unfoldable pub joint_answer : GroupSum → Order → Float → Quadrature
joint_answer a o fit = record { answer = joint_by a.sum o fit; points = a.points }
