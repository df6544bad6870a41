-- "refused 5" is printed of no job: neither the reader nor the table has that number. Document 02, P8. Assumes nothing.
use Prim.{tt}
use Rattle.std.specs.Prelude.{Ok, Err, Result}
use mathlib.Core.Path.{◌≡◌, refl, sym, ap, ◌∙◌}
use mathlib.Core.List.{List}
use Prim.Native.Nat.{ℕ}
use native.Mathlib.Omega.{arith}
use Rattle.base.specs.Sum.{◌!!◌}
use Rattle.model.specs.Answer.{refusal_number}
use Rattle.model.specs.declared.ends.Answer.{Answer}
use Rattle.model.specs.declared.ends.Refusal.{Refusal}
use Rattle.model.specs.declared.ends.Refusal.TheVariants.{OutOfRange, Responses, Lengths, Work, SparseRows, NotFinite, LinkForFamily, ResponseRange, StartFit}
use Rattle.family.specs.declared.carried.CarriedFamily.{CarriedFamily}
use Rattle.family.specs.declared.carried.CarriedLink.{CarriedLink}
use Rattle.results.specs.Nine.{Results}
use Rattle.dispersion.specs.Rounds.{Result as FitResult, result, no_result, Dispersed}
use Rattle.job.specs.Faults.{Checked, fault_of}
use Rattle.job.proofs.FaultNumbers.{Numbered, fault_numbers}
use Rattle.lines.specs.Decimals.{decimals, trimmed, decimal_of}
use Rattle.lines.specs.Lines.{pair_text, pairs_text, line_of, end_pairs, end_line, refused_line}
use Rattle.call.specs.Fit.{Fitted}
use Rattle.report.specs.Report.{fitted_text}
use Rattle.output.specs.Output.{output_of}
use Rattle.printed.specs.Asked.{verdict_on, fit_for}
use Rattle.printed.proofs.Printed.{job_refused, table_refused, unfitted_printed, fitted_printed}

-- ---- a line is told by its first byte, and a refusal's by the first digit of its number
-- no line of refusal 5 is one of refusal r
abbrev Other : ℕ → Type 0
Other r = (b c : ℕ) → refused_line r b ≡ refused_line 5 c → ⊥

five_digit : (b : ℕ) → refused_line 5 b !! 8 ≡ 53
unfolding refused_line line_of pair_text pairs_text decimal_of decimals trimmed
five_digit b = refl

other : (r d : ℕ) → ((b : ℕ) → refused_line r b !! 8 ≡ d) → (d ≡ 53 → ⊥) → Other r
other r d digit differs b c e = differs (sym (digit b) ∙ ap (λ l. l !! 8) e ∙ five_digit c)

refusal_other : (r : Refusal) → Other (refusal_number r)
unfolding refused_line line_of pair_text pairs_text decimal_of decimals trimmed
refusal_other OutOfRange = other 1 49 (λ b. refl) (λ z. omega arith)
refusal_other Responses = other 8 56 (λ b. refl) (λ z. omega arith)
refusal_other Lengths = other 2 50 (λ b. refl) (λ z. omega arith)
refusal_other Work = other 7 55 (λ b. refl) (λ z. omega arith)
refusal_other SparseRows = other 6 54 (λ b. refl) (λ z. omega arith)
refusal_other NotFinite = other 3 51 (λ b. refl) (λ z. omega arith)
refusal_other LinkForFamily = other 4 52 (λ b. refl) (λ z. omega arith)
refusal_other ResponseRange = other 9 57 (λ b. refl) (λ z. omega arith)
refusal_other StartFit = other 27 50 (λ b. refl) (λ z. omega arith)

fault_other : (s : List ℕ) → Numbered Other (fault_of s)
unfolding refused_line line_of pair_text pairs_text decimal_of decimals trimmed
fault_other s =
    fault_numbers Other (other 20 50 (λ b. refl) (λ z. omega arith)) (other 22 50 (λ b. refl) (λ z. omega arith)) (other 23 50 (λ b. refl) (λ z. omega arith))
    (other 1 49 (λ b. refl) (λ z. omega arith)) (other 21 50 (λ b. refl) (λ z. omega arith)) (other 24 50 (λ b. refl) (λ z. omega arith))
    (other 25 50 (λ b. refl) (λ z. omega arith)) s

five_first : (b : ℕ) → refused_line 5 b !! 0 ≡ 114
unfolding refused_line line_of pair_text
five_first b = refl

end_first : (a : Answer) → end_line a !! 0 ≡ 101
unfolding end_line end_pairs line_of pair_text
end_first a = refl

fitted_first : (a : Answer) (R : Results) → fitted_text a R !! 0 ≡ 101
unfolding fitted_text end_line end_pairs line_of pair_text
fitted_first a R = refl

-- what begins with an "e" is no line of a refusal
no_end : (text : List ℕ) (b : ℕ) → text !! 0 ≡ 101 → text ≡ refused_line 5 b → ⊥
no_end text b first e = let same = sym first ∙ ap (λ l. l !! 0) e ∙ five_first b in omega (arith, same)

-- ---- every job, by the reader, the table and the fit
module _ (s : List ℕ) (b : ℕ) (printed : output_of s ≡ refused_line 5 b) where
  by_fit : (f : CarriedFamily) (l : CarriedLink) → fault_of s ≡ Ok tt → verdict_on s ≡ Ok (f, l) → (x : FitResult (Dispersed Fitted)) → (fit_for f l s).outcome ≡ x → ⊥
  by_fit f l e v (no_result end) h = let told = unfitted_printed s f l e v end h in no_end _ b (end_first _) (sym told ∙ printed)
  by_fit f l e v (result d) h = let told = fitted_printed s f l e v d h in no_end _ b (fitted_first _ _) (sym told ∙ printed)

  by_verdict : fault_of s ≡ Ok tt → (v : Result (CarriedFamily × CarriedLink) Refusal) → verdict_on s ≡ v → ⊥
  by_verdict e (Err r) v = refusal_other r 0 b (sym (table_refused s r e v) ∙ printed)
  by_verdict e (Ok (f, l)) v = by_fit f l e v (fit_for f l s).outcome refl

  by_fault : (x : Checked) → fault_of s ≡ x → ⊥
  by_fault (Ok t) e = by_verdict e (verdict_on s) refl
  by_fault (Err x) e = (rw e at (fault_other s)) x.byte b (sym (job_refused s x.number x.byte e) ∙ printed)

-- whatever byte would stand behind it
pub five_never_printed : (s : List ℕ) (b : ℕ) → output_of s ≡ refused_line 5 b → ⊥
five_never_printed s b printed = by_fault s b printed (fault_of s) refl
