-- Numbers that are stored from the front on, and lists that are copied behind one another, make one list laid over the front. Assumes nothing.
use mathlib.Core.Path.{◌≡◌, refl, sym, ◌∙◌}
use mathlib.Core.List.{List, [], ◌∷◌, ◌++◌, append_assoc}
use Prim.Native.Nat.{ℕ, ◌+◌, ◌≤◌, ◌<◌}
use native.Mathlib.Numerals.{add-one}
use native.Mathlib.Omega.{arith}
use lib.Ieee.{Float, nan}
use lib.ListN.{length, set, take, length-append, length-set}
use lib.Seq.{length-take-le, take-suc, take-length}
use Rattle.base.specs.Sum.{◌!◌}
use Rattle.model.specs.declared.ends.Answer.{Answer}
use Rattle.job.specs.Lists.{laid}
use Rattle.job.proofs.ListLaws.{laid_none, laid_more, laid_on}
use Rattle.results.specs.Nine.{Results}
use Rattle.jobfit.specs.Done.{numbers_of}
use Rattle.jobfit.specs.Room.{Copied, numbers_length}

-- ---- one number behind another, from the front on
module _ {A : Type 0} where
  pub next : (xs b w : List A) (i : ℕ) (x : A) → length xs ≡ i → i < length b → w ≡ laid xs b → set w i x ≡ laid (xs ++ (x ∷ [])) b
  next xs b w i x l h e = rw e (laid_more xs b i x l h)

  pub two_set : (b : List A) (x y : A) → 2 ≤ length b → set (set b 0 x) 1 y ≡ laid (x ∷ y ∷ []) b
  two_set b x y h = next (x ∷ []) b (set b 0 x) 1 y refl (omega arith) (next [] b b 0 x refl (omega arith) (laid_none b))

-- ---- a list behind the first `at` numbers
-- one more number
pub number_on : (xs b w : List Float) (at i : ℕ) (x : Float) → x ≡ xs ! i → i < length xs → at + i < length b → w ≡ laid (take at b ++ take i xs) b → set w (at + i) x ≡ laid (take at b ++ take (i + 1) xs) b
number_on xs b w at i x h l m e =
    let long : length (take at b ++ take i xs) ≡ at + i = length-append (take at b) (take i xs) ∙ rw (length-take-le at b (omega arith), length-take-le i xs (omega arith)) refl in
    let more : (take at b ++ take i xs) ++ ((xs ! i) ∷ []) ≡ take at b ++ take (i + 1) xs = append_assoc (take at b) (take i xs) ((xs ! i) ∷ []) ∙ rw (add-one, take-suc xs i nan l) refl in
    rw (e, h, laid_more (take at b ++ take i xs) b (at + i) (xs ! i) long m, more)

-- all of them
pub numbers_done : (xs b w : List Float) (at i n r : ℕ) → n ≡ length xs → i ≡ n → r ≡ at + n → w ≡ laid (take at b ++ take i xs) b → Copied xs at b r w
numbers_done xs b w at i n r h q k e =
    let whole : take (length xs) xs ≡ xs = take-length xs in
    let g : w ≡ laid (take at b ++ take (length xs) xs) b = rw (← h, ← q) e in
    record { ends = rw (← h) k; list = rw whole at g }

-- ---- two lists
pub copied_both : {p q : List Float} {at m r : ℕ} {b w v : List Float} → Copied p at b m w → Copied q m w r v → at + length p ≤ length b → Copied (p ++ q) at b r v
copied_both {p} {q} {at} {m} {r} {b} {w} {v} x y l =
    let long : length (take at b ++ p) ≡ m = length-append (take at b) p ∙ rw (length-take-le at b (omega arith)) (sym x.ends) in
    record {
      ends = y.ends ∙ rw (x.ends, length-append p q) (omega arith);
      list = y.list ∙ laid_on (take at b ++ p) q b w m long x.list ∙ rw (append_assoc (take at b) p q) refl;
    }

-- ---- the numbers of a fitted call: two, then four groups of lists, each of which leaves room for the next
pub two_length : {A : Type 0} (b : List A) (x y : A) → length (set (set b 0 x) 1 y) ≡ length b
two_length b x y = length-set (set b 0 x) 1 y ∙ length-set b 0 x

lists_two : (p q : List Float) → length (p ++ q) ≡ length p + length q
lists_two p q = length-append p q

lists_three : (p q r : List Float) → length (p ++ (q ++ r)) ≡ length p + (length q + length r)
lists_three p q r = length-append p (q ++ r) ∙ rw (length-append q r) refl

module _ (a : Answer) (R : Results) (b : List Float) (fit : numbers_length R ≤ length b) where
  abbrev begun : List Float
  begun = set (set b 0 a.deviance) 1 a.phi

  pub fixed_room : 2 + (length R.beta + (length R.se + length R.z)) ≤ length begun
  fixed_room = rw (two_length b a.deviance a.phi) (omega arith)

  module _ (k : ℕ) (w : List Float) (c₁ : Copied (R.beta ++ (R.se ++ R.z)) 2 begun k w) (e₁ : length w ≡ length begun) where
    k_is : k ≡ 2 + (length R.beta + (length R.se + length R.z))
    k_is = c₁.ends ∙ rw (lists_three R.beta R.se R.z) refl

    w_long : length w ≡ length b
    w_long = e₁ ∙ two_length b a.deviance a.phi

    pub effects_room : k + (length R.u + length R.b) ≤ length w
    effects_room = rw (w_long, k_is) (omega arith)

    module _ (l : ℕ) (x : List Float) (c₂ : Copied (R.u ++ R.b) k w l x) (e₂ : length x ≡ length w) where
      l_is : l ≡ k + (length R.u + length R.b)
      l_is = c₂.ends ∙ rw (lists_two R.u R.b) refl

      pub rows_room : l + (length R.mu + (length R.eta + length R.residual)) ≤ length x
      rows_room = rw (e₂, w_long, l_is, k_is) (omega arith)

      module _ (m : ℕ) (y : List Float) (c₃ : Copied (R.mu ++ (R.eta ++ R.residual)) l x m y) (e₃ : length y ≡ length x) where
        m_is : m ≡ l + (length R.mu + (length R.eta + length R.residual))
        m_is = c₃.ends ∙ rw (lists_three R.mu R.eta R.residual) refl

        pub v_room : m + length R.v ≤ length y
        v_room = rw (e₃, e₂, w_long, m_is, l_is, k_is) (omega arith)

        pub numbers_laid : (r : ℕ) (z : List Float) → Copied R.v m y r z → z ≡ laid (numbers_of a R) b
        unfolding numbers_of
        numbers_laid r z c₄ =
            let last = copied_both c₃ c₄ (rw (lists_three R.mu R.eta R.residual) rows_room) in
            let behind = copied_both c₂ last (rw (lists_two R.u R.b) effects_room) in
            let all = copied_both c₁ behind (rw (lists_three R.beta R.se R.z) fixed_room) in
            let front : Copied (a.deviance ∷ a.phi ∷ []) 0 b 2 begun = record { ends = refl; list = two_set b a.deviance a.phi (omega arith) } in
            (copied_both front all (omega arith)).list
