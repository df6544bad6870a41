-- Of the inner fit with its quadrature too: a higher limit changes nothing that did not end with 13, and no count shrinks; the start is a variable. Assumes nothing.
use mathlib.Core.Path.{◌≡◌, refl, sym, ap, ◌∙◌}
use mathlib.Core.Bool.{Bool}
use mathlib.Core.List.{List}
use Prim.Native.Nat.{ℕ, ◌≤◌}
use native.Mathlib.Omega.{arith}
use lib.Ieee.{Float}
use Rattle.base.proofs.Doubles.{ff}
use Rattle.model.specs.Items.{Item, count_of}
use Rattle.model.specs.declared.ends.End.TheVariants.{NoStop}
use Rattle.model.proofs.Tallies.{count_append}
use Rattle.rule.specs.Given.{Given}
use Rattle.rule.specs.Run.{Ending, stopped, failed, Outcome, run_of}
use Rattle.rule.proofs.Stopping.{is_stopped}
use Rattle.rule.proofs.Limits.{Ended, limit_same, limit_grows}
use Rattle.agq_rule.specs.Steps.{quadrature_of}
use Rattle.agq_rule.specs.Inner.{without_mode, Inner, with_points, after_run, inner_with, inner_of}

-- the inner fit did not end for want of iterations
abbrev pub InnerEnded : Inner → Type 0
InnerEnded i = i.ending ≡ without_mode NoStop → ⊥

-- then its run did not
run_ended : (o : Outcome) (G : Given) (wish : ℕ) (phi : Float) → InnerEnded (inner_with o G wish phi) → Ended o
unfolding inner_with after_run
run_ended o G wish phi h e = h (ap (λ (x : Ending). (after_run x G wish phi o.items).ending) e)

pub inner_same : (G : Given) (wish : ℕ) (phi : Float) (mu : List Float) (L M : ℕ) → L ≤ M → InnerEnded (inner_of G wish phi L mu) → inner_of G wish phi M mu ≡ inner_of G wish phi L mu
unfolding inner_of
inner_same G wish phi mu L M l h =
    ap (λ (o : Outcome). inner_with o G wish phi) (limit_same G phi mu L M l (run_ended (run_of G phi L mu) G wish phi h))

-- ---- counts
-- the quadrature adds to what the run has done
adds : (t : Item → Bool) (x : Ending) (G : Given) (wish : ℕ) (phi : Float) (is : List Item) → count_of t is ≤ count_of t (after_run x G wish phi is).items
unfolding after_run with_points
adds t (failed e) G wish phi is = omega arith
adds t (stopped M) G wish phi is = omega (arith, count_append t is (quadrature_of G wish M phi).items)

module _ (G : Given) (wish : ℕ) (phi : Float) (mu : List Float) (t : Item → Bool) (L M : ℕ) (l : L ≤ M) where
  by_ending : (x : Ending) → (run_of G phi L mu).ending ≡ x → count_of t (after_run x G wish phi (run_of G phi L mu).items).items ≤ count_of t (inner_of G wish phi M mu).items
  unfolding inner_of inner_with after_run
  by_ending (failed e) q =
      omega (arith, limit_grows G phi mu t L M l, adds t (run_of G phi M mu).ending G wish phi (run_of G phi M mu).items)
  by_ending (stopped m) q =
      let same : run_of G phi M mu ≡ run_of G phi L mu = limit_same G phi mu L M l (λ e. ff (sym (ap is_stopped e) ∙ ap is_stopped q)) in
      rw (same, q) (omega arith)

  pub inner_grows : count_of t (inner_of G wish phi L mu).items ≤ count_of t (inner_of G wish phi M mu).items
  unfolding inner_of inner_with
  inner_grows = by_ending (run_of G phi L mu).ending refl
