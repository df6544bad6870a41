-- Laws of lists that are laid over the front of another while they are read. Assumes nothing.
use mathlib.Core.Path.{◌≡◌, refl, ap, ◌∙◌}
use mathlib.Core.List.{List, [], ◌∷◌, ◌++◌, append_assoc}
use Prim.Native.Nat.{ℕ, zero, suc, ◌+◌, ◌≤◌, ◌<◌}
use native.Mathlib.Numerals.{add-one}
use native.Mathlib.Omega.{arith}
use lib.Ieee.{Float}
use lib.ListN.{length, set, take, length-append}
use lib.Seq.{length-take-le}
use Rattle.base.specs.List.{build}
use Rattle.base.proofs.Fills.{build_length}
use Rattle.job.specs.Lists.{counts, laid}
use Rattle.job.proofs.ListLaws.{laid_none, laid_more, counts_length_lem, counts_more}

-- one more
build_more : (f : ℕ → Float) (n : ℕ) → build f (suc n) ≡ build f n ++ (f n ∷ [])
unfolding build
build_more f zero = refl
build_more f (suc n) = ap (λ (l : List Float). f 0 ∷ l) (build_more (λ i. f (suc i)) n)

-- ---- a loop that stores doubles from the front on
pub build_none : (f : ℕ → Float) (b : List Float) → b ≡ laid (build f 0) b
unfolding build
build_none f b = laid_none b

pub build_step : (f : ℕ → Float) (b w : List Float) (i : ℕ) (x : Float) → x ≡ f i → i < length b → w ≡ laid (build f i) b → set w i x ≡ laid (build f (i + 1)) b
build_step f b w i x h l e = rw (e, h, add-one, build_more f i) (laid_more (build f i) b i (f i) (build_length f i) l)

pub build_end : (f : ℕ → Float) (b w : List Float) (i n : ℕ) → w ≡ laid (build f i) b → i ≤ n → n ≤ i → w ≡ laid (build f n) b
build_end f b w i n e l m = let q : i ≡ n = omega arith in rw (← q) e

-- ---- behind the first e
module _ (e : ℕ) where
  pub counts_behind : (f : ℕ → ℕ) (b w : List ℕ) (j x : ℕ) → x ≡ f j → e + j < length b → w ≡ laid (take e b ++ counts f j) b → set w (e + j) x ≡ laid (take e b ++ counts f (j + 1)) b
  counts_behind f b w j x h l q =
      let long : length (take e b ++ counts f j) ≡ e + j = length-append (take e b) (counts f j) ∙ rw (length-take-le e b (omega arith), counts_length_lem f j) refl in
      let more : (take e b ++ counts f j) ++ (f j ∷ []) ≡ take e b ++ counts f (j + 1) = append_assoc (take e b) (counts f j) (f j ∷ []) ∙ rw (add-one, counts_more f j) refl in
      rw (q, h, laid_more (take e b ++ counts f j) b (e + j) (f j) long l, more)

  pub build_behind : (f : ℕ → Float) (b w : List Float) (j : ℕ) (x : Float) → x ≡ f j → e + j < length b → w ≡ laid (take e b ++ build f j) b → set w (e + j) x ≡ laid (take e b ++ build f (j + 1)) b
  build_behind f b w j x h l q =
      let long : length (take e b ++ build f j) ≡ e + j = length-append (take e b) (build f j) ∙ rw (length-take-le e b (omega arith), build_length f j) refl in
      let more : (take e b ++ build f j) ++ (f j ∷ []) ≡ take e b ++ build f (j + 1) = append_assoc (take e b) (build f j) (f j ∷ []) ∙ rw (add-one, build_more f j) refl in
      rw (q, h, laid_more (take e b ++ build f j) b (e + j) (f j) long l, more)
