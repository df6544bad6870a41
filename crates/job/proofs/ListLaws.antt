-- Laws of lists of counts, of lists laid over the front of another, and of lists joined. Assumes nothing.
use mathlib.Core.Path.{◌≡◌, refl, sym, ap, ◌∙◌}
use mathlib.Core.List.{List, [], ◌∷◌, ◌++◌, append-nil}
use mathlib.Core.Logic.{⊎_elim}
use Prim.Native.Nat.{ℕ, zero, suc, ◌+◌, ◌<◌, ◌≤◌}
use native.Mathlib.Nat.{not-suc-le-zero, le_of_suc-le-suc}
use native.Mathlib.Numerals.{add-one}
use native.Mathlib.Omega.{arith}
use lib.ListN.{length, set, take, drop, get_or, length-append, length-drop, take-append-drop, get_or-append}
use lib.Seq.{drop-cons, drop-drop, set-append_seam, append_snoc, get_or-append-add, length-take-le, take_at, drop_at}
use Rattle.base.specs.Sum.{◌!!◌}
use Rattle.base.proofs.Sums.{last_or_before}
use Rattle.job.specs.Lists.{counts, join_to, laid}

-- ---- lists of counts
pub counts_length_lem : (f : ℕ → ℕ) (n : ℕ) → length (counts f n) ≡ n
unfolding counts
counts_length_lem f zero = refl
counts_length_lem f (suc n) = ap suc (counts_length_lem (λ i. f (suc i)) n)

pub counts_at : (f : ℕ → ℕ) (n i : ℕ) → i < n → counts f n !! i ≡ f i
unfolding counts
counts_at f zero i h = absurd (not-suc-le-zero h)
counts_at f (suc n) zero h = refl
counts_at f (suc n) (suc i) h = counts_at (λ i. f (suc i)) n i (le_of_suc-le-suc h)

-- one more
pub counts_more : (f : ℕ → ℕ) (n : ℕ) → counts f (suc n) ≡ counts f n ++ (f n ∷ [])
unfolding counts
counts_more f zero = refl
counts_more f (suc n) = ap (λ (l : List ℕ). f 0 ∷ l) (counts_more (λ i. f (suc i)) n)

-- ---- a list over the front of another
module _ {A : Type 0} where
  pub laid_none : (b : List A) → b ≡ laid [] b
  unfolding laid
  laid_none b = refl

  pub laid_length : (xs b : List A) → length xs ≤ length b → length (laid xs b) ≡ length b
  unfolding laid
  laid_length xs b h = length-append xs (drop (length xs) b) ∙ rw length-drop (omega arith)

  pub laid_at : (xs b : List A) (i : ℕ) (d : A) → i < length xs → get_or (laid xs b) i d ≡ get_or xs i d
  unfolding laid
  laid_at xs b i d h = get_or-append xs (drop (length xs) b) d i h

  -- one more entry is stored behind the front
  pub laid_more : (xs b : List A) (i : ℕ) (x : A) → length xs ≡ i → i < length b → set (laid xs b) i x ≡ laid (xs ++ (x ∷ [])) b
  unfolding laid
  laid_more xs b i x e h =
      let rest : drop (length xs) b ≡ get_or b (length xs) x ∷ drop (suc (length xs)) b = drop-cons b (length xs) x (rw e h) in
      let long : length (xs ++ (x ∷ [])) ≡ suc (length xs) = length-append xs (x ∷ []) ∙ omega arith in
      rw (← e, rest, long) (set-append_seam xs (get_or b (length xs) x) (drop (suc (length xs)) b) x ∙ sym (append_snoc xs x (drop (suc (length xs)) b)))

-- ---- what is laid behind the first e
module _ {A : Type 0} where
  laid_front : (e : ℕ) (b : List A) → e ≤ length b → laid (take e b) b ≡ b
  unfolding laid
  laid_front e b l = rw (length-take-le e b l) (take-append-drop e b)

  pub behind_none : (e : ℕ) (b : List A) → e ≤ length b → b ≡ laid (take e b ++ []) b
  behind_none e b l = rw (append-nil (take e b)) (sym (laid_front e b l))

  pub behind_length : (e n : ℕ) (ys b : List A) → length ys ≡ n → e + n ≤ length b → length (laid (take e b ++ ys) b) ≡ length b
  behind_length e n ys b l h =
      laid_length (take e b ++ ys) b (omega (arith, length-append (take e b) ys, length-take-le e b (omega arith)))

  -- a list laid behind the front of what was laid before
  pub laid_on : (xs ys b w : List A) (e : ℕ) → length xs ≡ e → w ≡ laid xs b → laid (take e w ++ ys) w ≡ laid (xs ++ ys) b
  unfolding laid
  laid_on xs ys b w e l h =
      let front : take e w ≡ xs = rw h (take_at xs (drop (length xs) b) e l) in
      let back : drop (length (xs ++ ys)) w ≡ drop (length (xs ++ ys)) b =
      rw (h, length-append xs ys)
      (sym (drop-drop (length ys) (length xs) (xs ++ drop (length xs) b)) ∙ ap (drop (length ys)) (drop_at xs (drop (length xs) b) (length xs) refl) ∙ drop-drop (length ys) (length xs) b) in
      rw (front, back)

-- one turn of a loop that stores the counts from the front on
pub counts_step : (f : ℕ → ℕ) (b w : List ℕ) (i x : ℕ) → x ≡ f i → i < length b → w ≡ laid (counts f i) b → set w i x ≡ laid (counts f (i + 1)) b
counts_step f b w i x h l e = rw (e, h, add-one, counts_more f i) (laid_more (counts f i) b i (f i) (counts_length_lem f i) l)

pub counts_end : (f : ℕ → ℕ) (b w : List ℕ) (i n : ℕ) → w ≡ laid (counts f i) b → i ≡ n → w ≡ laid (counts f n) b
counts_end f b w i n e q = rw (← q) e

pub counts_none : (f : ℕ → ℕ) (b : List ℕ) → b ≡ laid (counts f 0) b
unfolding counts
counts_none f b = laid_none b

-- ---- lists joined
module _ {A : Type 0} (f : ℕ → List A) where
  -- list r lies behind those before it
  join_long : (n r : ℕ) → r < n → length (join_to r f) + length (f r) ≤ length (join_to n f)
  unfolding join_to
  join_long zero r l = absurd (not-suc-le-zero l)
  join_long (suc n) r l =
      let e : length (join_to n f ++ f n) ≡ length (join_to n f) + length (f n) = length-append (join_to n f) (f n) in
      ⊎_elim (λ (q : r ≡ n). rw q (omega arith)) (λ (m : r < n). let h = join_long n r m in omega arith) (last_or_before l)

  -- entry j of list r
  pub join_at : (n r j : ℕ) (d : A) → r < n → j < length (f r) → get_or (join_to n f) (length (join_to r f) + j) d ≡ get_or (f r) j d
  unfolding join_to
  join_at zero r j d l h = absurd (not-suc-le-zero l)
  join_at (suc n) r j d l h =
      ⊎_elim
      (λ (q : r ≡ n). rw q (get_or-append-add (join_to n f) (f n) j d))
      (λ (m : r < n). get_or-append (join_to n f) (f n) d (length (join_to r f) + j) (omega (arith, join_long n r m)) ∙ join_at n r j d m h)
      (last_or_before l)
