-- Numbers that are stored one after another from the front on make one list laid over the front. Assumes nothing.
use mathlib.Core.Path.{◌≡◌, refl, ◌∙◌}
use mathlib.Core.List.{List, [], ◌∷◌, ◌++◌, append_assoc, append-nil}
use Prim.Native.Nat.{ℕ, ◌+◌, ◌≤◌}
use native.Mathlib.Omega.{arith}
use lib.ListN.{length, set, length-append}
use Rattle.job.specs.Lists.{laid}
use Rattle.job.proofs.ListLaws.{laid_none}
use Rattle.jobfit.proofs.Behind.{next}

module _ {A : Type 0} where
  -- b with the entries of xs stored from place i on
  unfoldable pub stored_at : ℕ → List A → List A → List A
  stored_at i [] b = b
  stored_at i (x ∷ xs) b = stored_at (i + 1) xs (set b i x)

  -- behind the entries of ps, which stand already
  stored_behind : (xs ps b w : List A) (i : ℕ) → length ps ≡ i → i + length xs ≤ length b → w ≡ laid ps b → stored_at i xs w ≡ laid (ps ++ xs) b
  unfolding stored_at
  stored_behind [] ps b w i l h e = rw (append-nil ps) e
  stored_behind (x ∷ xs) ps b w i l h e =
      let more : length (ps ++ (x ∷ [])) ≡ i + 1 = length-append ps (x ∷ []) ∙ omega (arith, l) in
      stored_behind xs (ps ++ (x ∷ [])) b (set w i x) (i + 1) more (omega arith) (next ps b w i x l (omega arith) e) ∙ rw (append_assoc ps (x ∷ []) xs) refl

  pub stored_laid : (xs b : List A) → length xs ≤ length b → stored_at 0 xs b ≡ laid xs b
  stored_laid xs b h = stored_behind xs [] b b 0 refl (omega arith) (laid_none b)
