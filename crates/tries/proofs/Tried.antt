-- A try by its three tests: what the passes wrote and answered is the rule's try. Assumes nothing.
use Rattle.std.specs.Prelude.{Ok, Err}
use Rattle.tries.specs.declared.search.TryRefusal.TheVariants.{Eta}
use Rattle.tries.specs.declared.search.TryRefusal.TheVariants.{Mean}
use Rattle.tries.specs.declared.search.TryRefusal.TheVariants.{Pwrss}
use mathlib.Core.Path.{◌≡◌, sym, ◌∙◌}
use mathlib.Core.List.{List}
use mathlib.Core.Logic.{inl, inr, ⊎_elim}
use mathlib.Core.Bool.{Bool, true, false}
use Prim.Native.Nat.{ℕ, ◌+◌, ◌-◌, ◌≤◌}
use native.Mathlib.Omega.{arith}
use lib.ListN.{length, take, drop}
use lib.Ieee.{Float}
use Rattle.base.specs.Number.{finite}
use Rattle.base.specs.Sum.{all_to, finite_at, dot_of}
use Rattle.base.specs.List.{build}
use Rattle.base.specs.Rows.{row, Apart, Wrote}
use Rattle.base.proofs.Rows.{only_row, part_row}
use Rattle.rule.specs.Try.{Trial, candidate_at, candidate_of, fine_eta_at, mean_at, means_of, square_at, add_to, pwrss_of, after_pwrss, try_pwrss, after_means, try_means, after_eta, try_eta, try_of}
use Rattle.tries.specs.Told.{TryDone}
use Rattle.base.proofs.TwoRows.{two_first, two_of}

module _ (T : Trial) (next mu : ℕ) (step : Float) (v w : List Float) (apart : Apart next T.n mu T.n) (next_in : next + T.n ≤ length v) (mu_in : mu + T.n ≤ length v) (formed : Wrote next T.n (build (candidate_at T.prev T.raw step) T.n) v w) where
  held : row next T.n w ≡ candidate_of T step
  unfolding candidate_of
  held = formed.row'

  -- the first test
  fine : (r t : Bool) → r ≡ all_to T.n (fine_eta_at T.link (row next T.n w)) → r ≡ t → all_to T.n (fine_eta_at T.link (candidate_of T step)) ≡ t
  fine r t e h = rw held at (sym e ∙ h)

  -- refused by the first test
  pub eta_refused_lem : (r : Bool) → r ≡ all_to T.n (fine_eta_at T.link (row next T.n w)) → r ≡ false → TryDone T next mu step v w (Err Eta)
  unfolding try_of try_eta after_eta
  eta_refused_lem r e h =
      record {
        says = rw (fine r false e h);
        candidate = held;
        means = rw (fine r false e h) (only_row mu T.n next T.n (⊎_elim (λ x. inr x) (λ x. inl x) apart) mu_in formed.only);
        only = two_first next T.n mu T.n formed.only;
      }

  module _ (x : List Float) (f : Bool) (told : f ≡ all_to T.n (fine_eta_at T.link (row next T.n w))) (passed : f ≡ true) (meant : Wrote mu T.n (build (mean_at T.link (row next T.n w)) T.n) w x) where
    held' : row next T.n x ≡ candidate_of T step
    held' = only_row next T.n mu T.n apart (omega (arith, formed.only.len)) meant.only ∙ held

    means' : row mu T.n x ≡ means_of T (candidate_of T step)
    unfolding means_of
    means' = rw held at meant.row'

    -- the second test
    finites : (r t : Bool) → r ≡ all_to T.n (finite_at (row mu T.n x)) → r ≡ t → all_to T.n (finite_at (means_of T (candidate_of T step))) ≡ t
    finites r t e h = rw means' at (sym e ∙ h)

    -- refused by the second test
    pub mean_refused_lem : (r : Bool) → r ≡ all_to T.n (finite_at (row mu T.n x)) → r ≡ false → TryDone T next mu step v x (Err Mean)
    unfolding try_of try_eta after_eta try_means after_means
    mean_refused_lem r e h =
        record {
          says = rw (fine f true told passed, finites r false e h);
          candidate = held';
          means = rw (fine f true told passed) means';
          only = two_of next T.n mu T.n formed.only meant.only;
        }

    module _ (g : Bool) (told' : g ≡ all_to T.n (finite_at (row mu T.n x))) (passed' : g ≡ true) (p : Float) (summed : p ≡ add_to T.n (dot_of T.q T.u T.u) (square_at T.w T.z (take (next + T.n - next) (drop next x)))) where
      -- the sum over the part that was lent is the candidate's PWRSS
      sum : p ≡ pwrss_of T (candidate_of T step)
      unfolding pwrss_of
      sum = rw (part_row next T.n x, held') at summed

      -- refused by the third test
      pub pwrss_refused_lem : (r : Bool) → r ≡ finite p → r ≡ false → TryDone T next mu step v x (Err Pwrss)
      unfolding try_of try_eta after_eta try_means after_means try_pwrss after_pwrss
      pwrss_refused_lem r e h =
          record {
            says = rw (fine f true told passed, finites g true told' passed', ← sum, ← e, h);
            candidate = held';
            means = rw (fine f true told passed) means';
            only = two_of next T.n mu T.n formed.only meant.only;
          }

      -- accepted
      pub try_accepted : (r : Bool) → r ≡ finite p → r ≡ true → TryDone T next mu step v x (Ok p)
      unfolding try_of try_eta after_eta try_means after_means try_pwrss after_pwrss
      try_accepted r e h =
          record {
            says = rw (held', means', fine f true told passed, finites g true told' passed', ← sum, ← e, h);
            candidate = held';
            means = rw (fine f true told passed) means';
            only = two_of next T.n mu T.n formed.only meant.only;
          }
