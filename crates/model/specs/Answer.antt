-- How a call can end, and the record that it answers. Document 01, "Numbers of an answer"; document 02, P1, P5, P6, P8 and P10. Assumes nothing.
use Rattle.std.specs.Prelude.{◌≡◌, Bool, true, false, ℕ, Float}
use Rattle.base.specs.Number.{zero_f}
use Rattle.model.specs.Account.{no_counts}
use Rattle.model.specs.Shape.{within}
use Rattle.model.specs.declared.counts.Account.{Account}
use Rattle.model.specs.declared.ends.Answer.{Answer}
use Rattle.model.specs.declared.ends.End.{End}
use Rattle.model.specs.declared.ends.End.TheVariants.{SystemPivot, NormalPivot, NoStep, NoStop}
use Rattle.model.specs.declared.ends.Refusal.{Refusal}
use Rattle.model.specs.declared.ends.Refusal.TheVariants.{OutOfRange, Responses, Lengths, Work, SparseRows, NotFinite, LinkForFamily, ResponseRange, StartFit}

-- the number under which each end without a result is told
abbrev pub end_number : End → ℕ
end_number SystemPivot = 10
end_number NormalPivot = 11
end_number NoStep = 12
end_number NoStop = 13

-- the number under which each refusal is told; the lines stand in the order in which they are tested. 5 was told of a link that was not carried: since document 02, P8, there is none, and the number stays free
abbrev pub refusal_number : Refusal → ℕ
refusal_number OutOfRange = 1
refusal_number Responses = 8
refusal_number Lengths = 2
refusal_number Work = 7
refusal_number SparseRows = 6
refusal_number NotFinite = 3
refusal_number LinkForFamily = 4
refusal_number ResponseRange = 9
refusal_number StartFit = 27

-- the numbers 10 to 13 tell that an accepted call has no result; every number but these and 0 is a refusal's
abbrev pub is_end : ℕ → Bool
is_end k = within 10 13 k

-- an answer without a result tells its number and its account, and is zero everywhere else
abbrev pub blank_answer : ℕ → Account → Answer
blank_answer k a = record { number = k; deviance = zero_f; phi = zero_f; order = 0; why = 0; converged = false; iterations = 0; account = a }

-- a refusal did no work
unfoldable pub refused_answer : Refusal → Answer
refused_answer r = blank_answer (refusal_number r) no_counts

-- a call that was accepted and then failed tells what it did
unfoldable pub unfitted_answer : End → Account → Answer
unfitted_answer e a = blank_answer (end_number e) a

-- a fit is told under number 0, with everything: the order is the one used and why there is none above 1, the iterations are those of the last inner fit
unfoldable pub fitted_answer : Float → Float → ℕ → ℕ → Bool → ℕ → Account → Answer
fitted_answer d phi order why converged iterations a =
    record { number = 0; deviance = d; phi = phi; order = order; why = why; converged = converged; iterations = iterations; account = a }

-- the answers that a call can give
pub data Possible : Answer → Type 0 where
  refused : (r : Refusal) → Possible (refused_answer r)
  unfitted : (e : End) (a : Account) → Possible (unfitted_answer e a)
  fitted : (d phi : Float) (order why : ℕ) (converged : Bool) (iterations : ℕ) (a : Account) → Possible (fitted_answer d phi order why converged iterations a)

-- a possible answer is one of a fit
abbrev pub is_fitted : {a : Answer} → Possible a → Bool
is_fitted (refused r) = false
is_fitted (unfitted e a) = false
is_fitted (fitted d phi order why converged iterations a) = true

-- all but number and account is zero
pub record Blank (a : Answer) : Type 0 where
  pub deviance : a.deviance ≡ zero_f
  pub phi : a.phi ≡ zero_f
  pub order : a.order ≡ 0
  pub why : a.why ≡ 0
  pub converged : a.converged ≡ false
  pub iterations : a.iterations ≡ 0
