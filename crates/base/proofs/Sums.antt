-- Laws of sums and tests over ascending index: none, one more, the end, and equal rules. Assumes nothing.
use mathlib.Core.Path.{◌≡◌, refl, sym, ap, ◌∙◌}
use mathlib.Core.Logic.{⊎_elim, ◌⊎◌, inl, inr}
use mathlib.Core.Bool.{Bool, true, false, ◌&&◌, ◌||◌}
use Prim.Native.Nat.{ℕ, zero, suc, ◌+◌, ◌-◌, ◌<◌, ◌≤◌}
use native.Mathlib.Nat.{sub_self, not-suc-le-zero, eq-or-lt_of_le, le_of_suc-le-suc}
use native.Mathlib.Numerals.{add-one}
use native.Mathlib.Omega.{arith}
use borrow.Author.Tests.{ltb-true, ltb-false}
use lib.Dec.{ltb}
use lib.Ieee.{Float}
use Rattle.base.specs.Number.{◌⊕◌, zero_f}
use Rattle.base.specs.Sum.{sum_to, sum_from, add_where, sum_where, all_to, any_to}
use Rattle.base.proofs.Doubles.{ff}

-- ---- of two whole numbers, one of two orders
by_order : (s n : ℕ) (t : Bool) → ltb s n ≡ t → (s < n) ⊎ (n ≤ s)
by_order s n true e = inl (ltb-true s n e)
by_order s n false e = inr (ltb-false s n e)

pub lt_or_ge : (s n : ℕ) → (s < n) ⊎ (n ≤ s)
lt_or_ge s n = by_order s n (ltb s n) refl

-- an index below n + 1 is n or below n
pub last_or_before : {k n : ℕ} → k < suc n → (k ≡ n) ⊎ (k < n)
last_or_before h = eq-or-lt_of_le (le_of_suc-le-suc h)

-- ---- sums to n
pub sum_none : (f : ℕ → Float) → zero_f ≡ sum_to 0 f
unfolding sum_to
sum_none f = refl

pub sum_step : (f : ℕ → Float) (k : ℕ) (s : Float) → s ≡ sum_to k f → s ⊕ f k ≡ sum_to (k + 1) f
unfolding sum_to
sum_step f k s e = rw (e, add-one) refl

pub sum_end : (f : ℕ → Float) (k n : ℕ) (s : Float) → s ≡ sum_to k f → k ≤ n → n ≤ k → s ≡ sum_to n f
sum_end f k n s e l m = let q : k ≡ n = omega arith in rw (← q) e

-- rules that agree below n have one sum
pub sum_cong : (n : ℕ) (f g : ℕ → Float) → ((k : ℕ) → k < n → f k ≡ g k) → sum_to n f ≡ sum_to n g
unfolding sum_to
sum_cong zero f g h = refl
sum_cong (suc n) f g h = rw (sum_cong n f g (λ k l. h k (omega arith)), h n (omega arith)) refl

-- ---- sums from a to e
pub from_none : (a : ℕ) (f : ℕ → Float) → zero_f ≡ sum_from a a f
unfolding sum_to sum_from
from_none a f = rw sub_self refl

pub from_step : (a : ℕ) (f : ℕ → Float) (k : ℕ) (s : Float) → a ≤ k → s ≡ sum_from a k f → s ⊕ f k ≡ sum_from a (k + 1) f
unfolding sum_from
from_step a f k s l e =
    let q : k + 1 - a ≡ (k - a) + 1 = omega arith in
    let r : a + (k - a) ≡ k = omega arith in
    rw q (ap (λ (j : ℕ). s ⊕ f j) (sym r) ∙ sum_step (λ j. f (a + j)) (k - a) s e)

pub from_end : (a : ℕ) (f : ℕ → Float) (k n : ℕ) (s : Float) → s ≡ sum_from a k f → k ≤ n → n ≤ k → s ≡ sum_from a n f
from_end a f k n s e l m = let q : k ≡ n = omega arith in rw (← q) e

pub from_cong : (a e : ℕ) (f g : ℕ → Float) → ((k : ℕ) → a ≤ k → k < e → f k ≡ g k) → sum_from a e f ≡ sum_from a e g
unfolding sum_from
from_cong a e f g h = sum_cong (e - a) _ _ (λ k l. h (a + k) (omega arith) (omega arith))

-- ---- sums over the indices that a test picks
pub where_none : (t : ℕ → Bool) (f : ℕ → Float) → zero_f ≡ sum_where 0 t f
unfolding sum_where
where_none t f = refl

pub where_take : (t : ℕ → Bool) (f : ℕ → Float) (k : ℕ) (s : Float) → t k ≡ true → s ≡ sum_where k t f → s ⊕ f k ≡ sum_where (k + 1) t f
unfolding sum_where add_where
where_take t f k s h e = rw (e, add-one, h) refl

pub where_skip : (t : ℕ → Bool) (f : ℕ → Float) (k : ℕ) (s : Float) → t k ≡ false → s ≡ sum_where k t f → s ≡ sum_where (k + 1) t f
unfolding sum_where add_where
where_skip t f k s h e = rw (e, add-one, h) refl

-- what the test leaves out is added as nothing
pub where_step : (t : ℕ → Bool) (f : ℕ → Float) (k : ℕ) (s : Float) → s ≡ sum_where k t f → add_where (t k) s (f k) ≡ sum_where (k + 1) t f
unfolding sum_where
where_step t f k s e = rw (e, add-one)

pub where_end : (t : ℕ → Bool) (f : ℕ → Float) (k n : ℕ) (s : Float) → s ≡ sum_where k t f → k ≤ n → n ≤ k → s ≡ sum_where n t f
where_end t f k n s e l m = let q : k ≡ n = omega arith in rw (← q) e

-- a stretch where the test holds nowhere adds nothing
pub where_gap : (t : ℕ → Bool) (f : ℕ → Float) (a b : ℕ) → a ≤ b → ((k : ℕ) → a ≤ k → k < b → t k ≡ false) → sum_where a t f ≡ sum_where b t f
unfolding sum_where add_where
where_gap t f a b l h = ⊎_elim (λ (e : a ≡ b). rw e refl) (λ (m : a < b). go b m h) (eq-or-lt_of_le l)
  where
    go : (b : ℕ) → a < b → ((k : ℕ) → a ≤ k → k < b → t k ≡ false) → sum_where a t f ≡ sum_where b t f
    go zero m h = absurd (not-suc-le-zero m)
    go (suc b) m h =
        rw (h b (omega arith) (omega arith))
        (⊎_elim (λ (e : a ≡ b). rw e refl) (λ (m' : a < b). go b m' (λ k p q. h k p (omega arith))) (last_or_before m))

-- a test that picks the c indices from a on, and no other
pub where_stretch : (t : ℕ → Bool) (f : ℕ → Float) (n a c : ℕ) → a + c ≤ n → ((k : ℕ) → k < a → t k ≡ false) → ((k : ℕ) → k < c → t (a + k) ≡ true) → ((k : ℕ) → a + c ≤ k → k < n → t k ≡ false) → sum_where n t f ≡ sum_to c (λ k. f (a + k))
where_stretch t f n a c l low mid high = sym (where_gap t f (a + c) n l high) ∙ go c mid
  where
    go : (c : ℕ) → ((k : ℕ) → k < c → t (a + k) ≡ true) → sum_where (a + c) t f ≡ sum_to c (λ k. f (a + k))
    go zero h =
        let q : a + 0 ≡ a = omega arith in
        rw q (sym (where_gap t f 0 a (omega arith) (λ k _ m. low k m)) ∙ sym (where_none t f) ∙ sum_none (λ k. f (a + k)))
    go (suc c) h =
        let q : a + c + 1 ≡ a + suc c = omega arith in
        let q' : c + 1 ≡ suc c = omega arith in
        let here : sum_where (a + c) t f ≡ sum_to c (λ k. f (a + k)) = go c (λ k m. h k (omega arith)) in
        rw (← q, ← q') (sym (where_take t f (a + c) (sum_where (a + c) t f) (h c (omega arith)) refl) ∙ sum_step (λ k. f (a + k)) c (sum_where (a + c) t f) here)

-- tests and rules that agree below n have one sum
pub where_cong : (n : ℕ) (t u : ℕ → Bool) (f g : ℕ → Float) → ((k : ℕ) → k < n → t k ≡ u k) → ((k : ℕ) → k < n → t k ≡ true → f k ≡ g k) → sum_where n t f ≡ sum_where n u g
unfolding sum_where add_where
where_cong zero t u f g h i = refl
where_cong (suc n) t u f g h i =
    rw (← h n (omega arith), where_cong n t u f g (λ k l. h k (omega arith)) (λ k l. i k (omega arith))) (picked (t n) refl)
  where
    picked : (b : Bool) → t n ≡ b → add_where b (sum_where n u g) (f n) ≡ add_where b (sum_where n u g) (g n)
    picked true e = rw (i n (omega arith) e) refl
    picked false e = refl

-- ---- a test of every index
pub all_none : (t : ℕ → Bool) → true ≡ all_to 0 t
unfolding all_to
all_none t = refl

pub all_step : (t : ℕ → Bool) (k : ℕ) → true ≡ all_to k t → t k ≡ true → true ≡ all_to (k + 1) t
unfolding all_to
all_step t k e h = rw (add-one, ← e, h) refl

pub all_end : (t : ℕ → Bool) (k n : ℕ) → true ≡ all_to k t → k ≤ n → n ≤ k → true ≡ all_to n t
all_end t k n e l m = let q : k ≡ n = omega arith in rw (← q) e

-- tests that agree below n
pub all_cong : (n : ℕ) (t u : ℕ → Bool) → ((k : ℕ) → k < n → t k ≡ u k) → all_to n t ≡ all_to n u
unfolding all_to
all_cong zero t u h = refl
all_cong (suc n) t u h = rw (all_cong n t u (λ k l. h k (omega arith)), h n (omega arith)) refl

and_false : (b : Bool) → false ≡ b && false
and_false true = refl
and_false false = refl

-- one index that fails
pub all_fails : (t : ℕ → Bool) (n k : ℕ) → k < n → t k ≡ false → false ≡ all_to n t
unfolding all_to
all_fails t zero k l h = absurd (not-suc-le-zero l)
all_fails t (suc n) k l h =
    ⊎_elim
    (λ e. let h' : t n ≡ false = rw e at h in rw h' (and_false (all_to n t)))
    (λ m. rw (← all_fails t n k m h) refl)
    (last_or_before l)

pub and_true : (a b : Bool) → true ≡ a && b → (true ≡ a) × (true ≡ b)
and_true true b e = (refl, e)
and_true false b e = absurd (ff (sym e))

-- what holds of all holds of each
pub all_at : (t : ℕ → Bool) (n : ℕ) → true ≡ all_to n t → (k : ℕ) → k < n → t k ≡ true
unfolding all_to
all_at t zero e k l = absurd (not-suc-le-zero l)
all_at t (suc n) e k l =
    let p : (true ≡ all_to n t) × (true ≡ t n) = and_true (all_to n t) (t n) e in
    ⊎_elim (λ q. rw q (sym p.1)) (λ m. all_at t n p.0 k m) (last_or_before l)

-- and what holds of each holds of all
pub all_of : (t : ℕ → Bool) (n : ℕ) → ((k : ℕ) → k < n → t k ≡ true) → true ≡ all_to n t
unfolding all_to
all_of t zero h = refl
all_of t (suc n) h = rw (← all_of t n (λ k l. h k (omega arith)), h n (omega arith)) refl

-- ---- a test of some index
-- one index that passes
pub any_at : (t : ℕ → Bool) (n k : ℕ) → k < n → t k ≡ true → any_to n t ≡ true
unfolding any_to
any_at t zero k l h = absurd (not-suc-le-zero l)
any_at t (suc n) k l h =
    ⊎_elim
    (λ e. let h' : t n ≡ true = rw e at h in rw h' (or_true (any_to n t)))
    (λ m. rw (any_at t n k m h) refl)
    (last_or_before l)
  where
    or_true : (b : Bool) → b || true ≡ true
    or_true true = refl
    or_true false = refl

-- no index that passes
pub any_none : (t : ℕ → Bool) (n : ℕ) → ((k : ℕ) → k < n → t k ≡ false) → any_to n t ≡ false
unfolding any_to
any_none t zero h = refl
any_none t (suc n) h = rw (any_none t n (λ k l. h k (omega arith)), h n (omega arith)) refl
