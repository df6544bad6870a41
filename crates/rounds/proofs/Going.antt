-- The rounds of the dispersion loop in code: what is left of the loop comes to what the whole does, and what was counted is what was done. Assumes nothing.
use Rattle.std.specs.Prelude.{Option, Some, None}
use mathlib.Core.Path.{◌≡◌, refl, sym, ap, ◌∙◌}
use mathlib.Core.List.{List}
use mathlib.Core.Bool.{Bool, true, false}
use Prim.Native.Nat.{ℕ, suc, ◌+◌, ◌-◌, ◌≤◌, ◌<◌}
use native.Mathlib.Omega.{arith}
use lib.Ieee.{Float}
use Rattle.base.specs.Number.{one_f}
use Rattle.base.specs.Rows.{Only}
use Rattle.base.proofs.Doubles.{ff}
use Rattle.base.proofs.Rows.{only_none, only_trans}
use Rattle.layout.specs.WorkRows.{rows_length}
use Rattle.layout.specs.WorkMatrices.{matrices_length}
use Rattle.layout.specs.WorkTerms.{terms_length}
use Rattle.model.specs.Account.{no_counts, ◌⊞◌, times, AtMost, inner_cap, SumFits}
use Rattle.model.specs.Items.{tally}
use Rattle.model.specs.Shape.{good_shape}
use Rattle.model.specs.declared.counts.Account.{Account}
use Rattle.model.proofs.Accounts.{plus_assoc, none_plus, caps_trans, inner_more, inner_capped, capped_fit}
use Rattle.model.proofs.Tallies.{tally_append}
use Rattle.rule.specs.Given.{Given, n_of, q_of}
use Rattle.agq_rule.specs.Inner.{InnerEnd, with_mode, without_mode, inner_of}
use Rattle.dispersion.specs.Phi.{round_of}
use Rattle.dispersion.specs.Rounds.{result, no_result, Total, Dispersed, total_before, with_flag, last_fit, dispersion_from, dispersion_of}
use Rattle.dispersion.proofs.Turns.{round_unfitted, round_settled, round_next}
use Rattle.call.specs.Fit.{Fitted, sum_of, result_by, total_of, inner_at}
use Rattle.call.proofs.Capped.{one_fit_lem, inner_at_capped}
use Rattle.inner.specs.Answered.{AnswerTold, AnswerLeft}
use Rattle.rounds.specs.Totals.{round_after, fit_from}
use Rattle.rounds.specs.Fitted.{FitLeft}
use Rattle.inner.specs.declared.answers.InnerAnswer.{InnerAnswer}
use Rattle.rounds.specs.declared.totals.Fit.{Fit}
use Rattle.rounds.proofs.Ends.{ended}

-- nothing follows
abbrev is_settled : Option Float → Bool
is_settled None = true
is_settled (Some phi) = false

module _ (G : Given) (mu : List Float) (wish L : ℕ) (effective : Float) where
  abbrev inner : Float → Total Fitted
  inner = inner_at G mu wish L

  abbrev whole : Total (Dispersed Fitted)
  whole = dispersion_of effective sum_of inner

  -- what is left after k rounds
  abbrev rest_at : ℕ → Float → Total (Dispersed Fitted)
  rest_at k phi = dispersion_from effective sum_of inner (240 - k) phi

  -- after k rounds
  pub record Going (r₀ r m₀ m t₀ t : List Float) (phi : Float) (account : Account) (k : ℕ) : Type 0 where
    pub within : k ≤ 240
    pub few : AtMost (times k inner_cap) account
    pub outcome : whole.outcome ≡ (rest_at k phi).outcome
    pub items : tally whole.items ≡ account ⊞ tally (rest_at k phi).items
    pub rows_only : Only 0 (rows_length (n_of G)) r₀ r
    pub matrices_only : Only 0 (matrices_length G.design.p (q_of G.design)) m₀ m
    pub terms_only : Only 0 terms_length t₀ t

  pub begun : (r m t : List Float) (b : Account) → b ≡ no_counts → Going r r m m t t one_f b 0
  unfolding dispersion_of
  begun r m t b e =
      rw e
      (record {
        within = omega arith;
        few = record { fits = omega arith; solves = omega arith; tries = omega arith; points = omega arith; eta = omega arith; mean = omega arith; pwrss = omega arith; ok = omega arith };
        outcome = refl;
        items = sym (none_plus (tally whole.items));
        rows_only = only_none 0 (rows_length (n_of G)) r;
        matrices_only = only_none 0 (matrices_length G.design.p (q_of G.design)) m;
        terms_only = only_none 0 terms_length t;
      })

  -- ---- one round
  module _ (r₀ r r' m₀ m m' t₀ t t' : List Float) (phi : Float) (account : Account) (k : ℕ) (g : Going r₀ r m₀ m t₀ t phi account k) (a : InnerAnswer)
      (i : AnswerLeft G wish phi L mu r r' m m' t t' a) where
    pub sums_fit : good_shape G.design.shape ≡ true → L ≤ 1000 → SumFits account a.account
    unfolding inner_at total_of
    sums_fit good few =
        let one : AtMost inner_cap a.account = rw i.counted (inner_at_capped G mu wish L good few phi) in
        capped_fit (inner_capped k (omega (arith, g.within)) g.few) (caps_trans one_fit_lem one)

    -- the last round of all
    pub end_spent : (b : Account) (f : Fit) → 240 ≤ k → b ≡ account ⊞ a.account → f ≡ fit_from a.outcome phi false b → FitLeft G whole r₀ r' m₀ m' t₀ t' f
    unfolding dispersion_from last_fit inner_at total_of
    end_spent b f h eb ef =
        let z : 240 - k ≡ 0 = omega arith in
        let o : whole.outcome ≡ with_flag false phi (inner phi).outcome = g.outcome ∙ rw z refl in
        let s : tally whole.items ≡ b = g.items ∙ (rw (z, eb, i.counted) refl) in
        ended G mu wish L phi false whole o r₀ r r' m₀ m m' t₀ t t' g.rows_only g.matrices_only g.terms_only a i b f s ef

    module _ (less : k < 240) where
      left_turn : 240 - k ≡ suc (240 - (k + 1))
      left_turn = omega arith

      -- the loop settles where nothing is to follow
      settled_rest : (x : InnerEnd) → (inner_of G wish phi L mu).ending ≡ x → AnswerTold x G r' m' a → round_after a.outcome effective phi ≡ None
          → rest_at k phi ≡ last_fit true phi (inner phi)
      unfolding inner_at total_of result_by round_after last_fit with_flag
      settled_rest (without_mode e) q h s =
          let o : (inner phi).outcome ≡ no_result e = ap result_by q in
          rw left_turn (round_unfitted effective sum_of inner (240 - (k + 1)) phi e o ∙ rw q refl)
      settled_rest (with_mode M n) q h s =
          let o : (inner phi).outcome ≡ result (record { mode = M; integral = n }) = ap result_by q in
          let s' : round_of effective phi M.dev_sum ≡ None = rw (h.1, h.2.sum) at s in
          rw left_turn (round_settled effective sum_of inner (240 - (k + 1)) phi (record { mode = M; integral = n }) o s' ∙ rw q refl)

      pub end_settled : (b : Account) (f : Fit) → round_after a.outcome effective phi ≡ None → b ≡ account ⊞ a.account → f ≡ fit_from a.outcome phi true b
          → FitLeft G whole r₀ r' m₀ m' t₀ t' f
      unfolding last_fit inner_at total_of
      end_settled b f s eb ef =
          let rest : rest_at k phi ≡ last_fit true phi (inner phi) = settled_rest (inner_of G wish phi L mu).ending refl i.told s in
          let o : whole.outcome ≡ with_flag true phi (inner phi).outcome = g.outcome ∙ rw rest refl in
          let c : tally whole.items ≡ b = g.items ∙ (rw (rest, eb, i.counted) refl) in
          ended G mu wish L phi true whole o r₀ r r' m₀ m m' t₀ t t' g.rows_only g.matrices_only g.terms_only a i b f c ef

      -- it goes on at the next phi
      next_rest : (next : Float) (x : InnerEnd) → (inner_of G wish phi L mu).ending ≡ x → AnswerTold x G r' m' a → round_after a.outcome effective phi ≡ Some next
          → rest_at k phi ≡ total_before (inner phi).items (rest_at (k + 1) next)
      unfolding inner_at total_of result_by round_after
      next_rest next (without_mode e) q h s =
          let s' : None ≡ Some next = rw h at s in
          absurd (ff (sym (ap is_settled s')))
      next_rest next (with_mode M n) q h s =
          let o : (inner phi).outcome ≡ result (record { mode = M; integral = n }) = ap result_by q in
          let s' : round_of effective phi M.dev_sum ≡ Some next = rw (h.1, h.2.sum) at s in
          rw left_turn (round_next effective sum_of inner (240 - (k + 1)) phi (record { mode = M; integral = n }) next o s')

      pub turn_on : (b : Account) (next : Float) → good_shape G.design.shape ≡ true → L ≤ 1000 → round_after a.outcome effective phi ≡ Some next → b ≡ account ⊞ a.account
          → Going r₀ r' m₀ m' t₀ t' next b (k + 1)
      unfolding total_before inner_at total_of
      turn_on b next good few s eb =
          let rest : rest_at k phi ≡ total_before (inner phi).items (rest_at (k + 1) next) = next_rest next (inner_of G wish phi L mu).ending refl i.told s in
          let one : AtMost inner_cap a.account = rw i.counted (inner_at_capped G mu wish L good few phi) in
          let c : tally whole.items ≡ account ⊞ (tally (inner phi).items ⊞ tally (rest_at (k + 1) next).items) =
          g.items ∙ (rw rest (ap (λ (x : Account). account ⊞ x) (tally_append (inner phi).items (rest_at (k + 1) next).items))) in
          rw eb
          (record {
            within = omega arith;
            few = inner_more k g.few one;
            outcome = g.outcome ∙ rw rest refl;
            items = c ∙ (rw i.counted (sym (plus_assoc account (tally (inner phi).items) (tally (rest_at (k + 1) next).items))));
            rows_only = only_trans g.rows_only i.rows_only;
            matrices_only = only_trans g.matrices_only i.matrices_only;
            terms_only = only_trans g.terms_only i.terms_only;
          })
