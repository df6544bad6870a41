-- A number other than 0 leaves the results as they were lent, and a refusal's number every slice. Assumes nothing.
use Rattle.model.specs.declared.ends.Refusal.{Refusal}
use Rattle.std.specs.Prelude.{Ok, Err, Result}
use mathlib.Core.Path.{◌≡◌, refl, sym}
use mathlib.Core.Bool.{false}
use mathlib.Core.List.{List}
use Rattle.base.proofs.Doubles.{ff}
use Rattle.model.specs.Answer.{is_end}
use Rattle.model.proofs.Answers.{end_is_end}
use Rattle.model.specs.declared.sizes.Shape.{Shape}
use Rattle.model.specs.declared.sizes.Settings.{Settings}
use Rattle.family.specs.declared.carried.CarriedFamily.{CarriedFamily}
use Rattle.family.specs.declared.carried.CarriedLink.{CarriedLink}
use Rattle.model.specs.Inputs.{Inputs}
use Rattle.table.specs.Table.{table_of}
use Rattle.dispersion.specs.Rounds.{Result as FitResult, result, no_result, Dispersed}
use Rattle.call.specs.Fit.{Fitted}
use Rattle.call.specs.Call.{Lent, lengths_of, call_of}
use Rattle.call.proofs.Leaves.{refused_left, asked_fit, unfitted_results, unfitted_answer_lem, fitted_number}
use Rattle.blocks.specs.Blocks.{shape_of}
use Rattle.blocks.specs.declared.Block.{Block}
use Rattle.blocks_coded.specs.Coded.{settings_of}
use Rattle.blocks_coded.specs.Plain.{plain_of, shown_by, fit_blocks_of}
use Rattle.blocks_coded.specs.declared.CodedSettings.{CodedSettings}

module _ (t : Settings) (s : Shape) (I : Inputs) (L : Lent) where
  module _ (h : (call_of t s I L).answer.number ≡ 0 → ⊥) where
    -- ends 10 to 13
    unfitted : (f : CarriedFamily) (l : CarriedLink) → table_of 1 t s I (lengths_of L) ≡ Ok (f, l) → (x : FitResult (Dispersed Fitted)) → (asked_fit f l t s I).outcome ≡ x → (call_of t s I L).lent.results ≡ L.results
    unfitted f l e (no_result end) q = unfitted_results t s I L f l e end q
    unfitted f l e (result d) q = absurd (h (fitted_number t s I L f l e d q))

    by_verdict : (x : Result (CarriedFamily × CarriedLink) Refusal) → table_of 1 t s I (lengths_of L) ≡ x → (call_of t s I L).lent.results ≡ L.results
    by_verdict (Err r) e = rw (refused_left t s I L r e) refl
    by_verdict (Ok (f, l)) e = unfitted f l e (asked_fit f l t s I).outcome refl

    -- no accepted call has a refusal's number
    not_accepted : is_end (call_of t s I L).answer.number ≡ false → (f : CarriedFamily) (l : CarriedLink) → table_of 1 t s I (lengths_of L) ≡ Ok (f, l) → (x : FitResult (Dispersed Fitted)) → (asked_fit f l t s I).outcome ≡ x → ⊥
    not_accepted z f l e (no_result end) q = ff (sym (rw (unfitted_answer_lem t s I L f l e end q, end_is_end end) at z))
    not_accepted z f l e (result d) q = h (fitted_number t s I L f l e d q)

    by_refusal : is_end (call_of t s I L).answer.number ≡ false → (x : Result (CarriedFamily × CarriedLink) Refusal) → table_of 1 t s I (lengths_of L) ≡ x → (call_of t s I L).lent ≡ L
    by_refusal z (Err r) e = rw (refused_left t s I L r e) refl
    by_refusal z (Ok (f, l)) e = absurd (not_accepted z f l e (asked_fit f l t s I).outcome refl)

-- `fit_coded`
module _ (c : CodedSettings) (bs : List Block) (I : Inputs) (L : Lent) (h : (fit_blocks_of c bs I L).returned.number ≡ 0 → ⊥) where
  pub fit_blocks_results_kept : (fit_blocks_of c bs I L).lent.results ≡ L.results
  unfolding fit_blocks_of shown_by plain_of
  fit_blocks_results_kept = by_verdict (settings_of c) (shape_of bs) I L h (table_of 1 (settings_of c) (shape_of bs) I (lengths_of L)) refl

  pub fit_blocks_kept : is_end (fit_blocks_of c bs I L).returned.number ≡ false → (fit_blocks_of c bs I L).lent ≡ L
  unfolding fit_blocks_of shown_by plain_of
  fit_blocks_kept z = by_refusal (settings_of c) (shape_of bs) I L h z (table_of 1 (settings_of c) (shape_of bs) I (lengths_of L)) refl
