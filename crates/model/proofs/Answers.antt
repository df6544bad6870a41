-- An answer's number is 0 exactly for a fit, and every other answer is blank but for its number and account. Assumes nothing.
use mathlib.Core.Path.{◌≡◌, refl}
use mathlib.Core.Bool.{true, false}
use mathlib.Core.Logic.{◌⊎◌, inl, inr}
use Prim.Native.Nat.{◌≤◌}
use native.Mathlib.Omega.{arith}
use Rattle.base.proofs.Doubles.{ff}
use Rattle.model.specs.Answer.{end_number, refusal_number, is_end, refused_answer, unfitted_answer, fitted_answer, Possible, refused, unfitted, fitted, is_fitted, Blank}
use Rattle.model.specs.declared.ends.Answer.{Answer}
use Rattle.model.specs.declared.ends.End.{End}
use Rattle.model.specs.declared.ends.End.TheVariants.{SystemPivot, NormalPivot, NoStep, NoStop}
use Rattle.model.specs.declared.ends.Refusal.{Refusal}
use Rattle.model.specs.declared.ends.Refusal.TheVariants.{OutOfRange, Responses, Lengths, Work, SparseRows, NotFinite, LinkForFamily, ResponseRange, StartFit}

-- refusals are 1 to 9, but 5, and 27
pub refusal_range : (r : Refusal) → (1 ≤ refusal_number r) × ((refusal_number r ≤ 9) ⊎ (refusal_number r ≡ 27))
refusal_range OutOfRange = (omega arith, inl (omega arith))
refusal_range Responses = (omega arith, inl (omega arith))
refusal_range Lengths = (omega arith, inl (omega arith))
refusal_range Work = (omega arith, inl (omega arith))
refusal_range SparseRows = (omega arith, inl (omega arith))
refusal_range NotFinite = (omega arith, inl (omega arith))
refusal_range LinkForFamily = (omega arith, inl (omega arith))
refusal_range ResponseRange = (omega arith, inl (omega arith))
refusal_range StartFit = (omega arith, inr refl)

-- 5 is no refusal's (document 02, P8)
pub no_five : (r : Refusal) → refusal_number r ≡ 5 → ⊥
no_five OutOfRange e = omega arith
no_five Responses e = omega arith
no_five Lengths e = omega arith
no_five Work e = omega arith
no_five SparseRows e = omega arith
no_five NotFinite e = omega arith
no_five LinkForFamily e = omega arith
no_five ResponseRange e = omega arith
no_five StartFit e = omega arith

-- ends without a result are 10 to 13
pub end_range : (e : End) → (10 ≤ end_number e) × (end_number e ≤ 13)
end_range SystemPivot = (omega arith, omega arith)
end_range NormalPivot = (omega arith, omega arith)
end_range NoStep = (omega arith, omega arith)
end_range NoStop = (omega arith, omega arith)

-- the tests that tell ends from refusals: no refusal is an end, and every end is one
pub refusal_no_end : (r : Refusal) → is_end (refusal_number r) ≡ false
refusal_no_end OutOfRange = refl
refusal_no_end Responses = refl
refusal_no_end Lengths = refl
refusal_no_end Work = refl
refusal_no_end SparseRows = refl
refusal_no_end NotFinite = refl
refusal_no_end LinkForFamily = refl
refusal_no_end ResponseRange = refl
refusal_no_end StartFit = refl

pub end_is_end : (e : End) → is_end (end_number e) ≡ true
end_is_end SystemPivot = refl
end_is_end NormalPivot = refl
end_is_end NoStep = refl
end_is_end NoStop = refl

-- the number of a fit is 0
pub fitted_zero : {a : Answer} (g : Possible a) → is_fitted g ≡ true → a.number ≡ 0
unfolding refused_answer unfitted_answer fitted_answer
fitted_zero (refused r) e = absurd (ff e)
fitted_zero (unfitted e a) h = absurd (ff h)
fitted_zero (fitted d phi order why converged iterations a) e = refl

-- and only a fit's
pub zero_fitted : {a : Answer} (g : Possible a) → a.number ≡ 0 → is_fitted g ≡ true
unfolding refused_answer unfitted_answer fitted_answer
zero_fitted (refused r) e = absurd (omega (arith, (refusal_range r).0))
zero_fitted (unfitted e a) h = absurd (omega (arith, end_range e))
zero_fitted (fitted d phi order why converged iterations a) e = refl

-- an answer with another number tells nothing else but its account
pub blank_unless_zero : {a : Answer} → Possible a → (a.number ≡ 0 → ⊥) → Blank a
unfolding refused_answer unfitted_answer fitted_answer
blank_unless_zero (refused r) h = record { deviance = refl; phi = refl; order = refl; why = refl; converged = refl; iterations = refl }
blank_unless_zero (unfitted e a) h = record { deviance = refl; phi = refl; order = refl; why = refl; converged = refl; iterations = refl }
blank_unless_zero (fitted d phi order why converged iterations a) h = absurd (h refl)
