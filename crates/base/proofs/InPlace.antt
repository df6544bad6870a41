-- Laws of lists written in place by a rule, upwards and downwards: as functions (`fill_by`, `fill_down`) and as equations (`Follows`, `FollowsDown`). Assumes nothing.
use mathlib.Core.Path.{◌≡◌, refl, sym, ap, ◌∙◌}
use mathlib.Core.List.{List}
use mathlib.Core.Logic.{⊎_elim}
use Prim.Native.Nat.{ℕ, zero, suc, ◌+◌, ◌-◌, ◌<◌, ◌≤◌}
use native.Mathlib.Nat.{not-suc-le-zero, eq-or-lt_of_le, not-le_of_lt}
use native.Mathlib.Numerals.{add-one}
use native.Mathlib.Omega.{arith}
use lib.ListN.{length, set, length-set}
use lib.Seq.{set-get_or, get_or-set_same, get_or-set_other, ext_get_or}
use lib.Ieee.{Float, nan}
use Rattle.base.specs.Sum.{◌!◌}
use Rattle.base.specs.InPlace.{Rule, ruled, fill_by, fill_down, Causal, CausalDown, Follows, FollowsDown}
use Rattle.base.proofs.Sums.{lt_or_ge, last_or_before}

-- ---- upwards, as a loop uses them: neither a bound nor causality is asked
pub by_none : (g : Rule) (b : List Float) → b ≡ fill_by g 0 b
unfolding fill_by
by_none g b = refl

pub by_step : (g : Rule) (i : ℕ) (b X : List Float) → X ≡ fill_by g i b → set X i (g i (λ k. X ! k) (X ! i)) ≡ fill_by g (i + 1) b
unfolding fill_by ruled
by_step g i b X e = rw (e, add-one) refl

pub by_end : (g : Rule) (k n : ℕ) (b X : List Float) → X ≡ fill_by g k b → k ≤ n → n ≤ k → X ≡ fill_by g n b
by_end g k n b X e l m = let q : k ≡ n = omega arith in rw (← q) e

-- an entry that the rule keeps is passed over
pub by_skip : (g : Rule) (i : ℕ) (b : List Float) → ((x : ℕ → Float) (o : Float) → g i x o ≡ o) → fill_by g (i + 1) b ≡ fill_by g i b
unfolding fill_by ruled
by_skip g i b h = rw (add-one, h (λ k. fill_by g i b ! k) (fill_by g i b ! i)) (set-get_or (fill_by g i b) i nan)

length_ruled : (g : Rule) (t : ℕ) (X : List Float) → length (ruled g t X) ≡ length X
unfolding ruled
length_ruled g t X = length-set X t _

pub length_by : (g : Rule) (n : ℕ) (b : List Float) → length (fill_by g n b) ≡ length b
unfolding fill_by
length_by g zero b = refl
length_by g (suc n) b = length_ruled g n (fill_by g n b) ∙ length_by g n b

-- ---- downwards
pub down_none : (g : Rule) (n : ℕ) (b : List Float) → b ≡ fill_down g n (n - n) b
unfolding fill_down
down_none g n b = let z : n - n ≡ 0 = omega arith in rw z refl

pub down_step : (g : Rule) (n i : ℕ) (b X : List Float) → i < n → X ≡ fill_down g n (n - (i + 1)) b → set X i (g i (λ k. X ! k) (X ! i)) ≡ fill_down g n (n - i) b
unfolding fill_down ruled
down_step g n i b X l e =
    let c : n - i ≡ suc (n - (i + 1)) = omega arith in
    let t : n - suc (n - (i + 1)) ≡ i = omega arith in
    rw (e, c, t) refl

pub down_end : (g : Rule) (n i : ℕ) (b X : List Float) → i ≡ 0 → X ≡ fill_down g n (n - i) b → X ≡ fill_down g n n b
down_end g n i b X z e = let q : n - i ≡ n = omega arith in e ∙ ap (λ (c : ℕ). fill_down g n c b) q

pub length_down : (g : Rule) (n c : ℕ) (b : List Float) → length (fill_down g n c b) ≡ length b
unfolding fill_down
length_down g n zero b = refl
length_down g n (suc c) b = length_ruled g (n - suc c) (fill_down g n c b) ∙ length_down g n c b

-- ---- the equations, upwards
pub follows_none : (g : Rule) (b : List Float) → Follows g 0 b b
follows_none g b = record { len = refl; done = λ s l. absurd (not-suc-le-zero l); rest = λ s l. refl }

pub follows_step : (g : Rule) (i : ℕ) (b X : List Float) (v : Float) → Causal g → Follows g i b X → i < length X → v ≡ g i (λ k. X ! k) (X ! i) → Follows g (suc i) b (set X i v)
follows_step g i b X v ca f l e =
    record {
      len = length-set X i v ∙ f.len;
      done = λ s m. ⊎_elim
          (λ (q : s ≡ i). rw q (get_or-set_same X i v nan l ∙ e ∙ ap (λ (o : Float). g i (λ k. X ! k) o) (f.rest i (omega arith)) ∙ ca i (λ k. X ! k) (λ k. set X i v ! k) (b ! i) (λ k h. sym (below k h))))
          (λ (h : s < i). below s h ∙ f.done s h ∙ ca s (λ k. X ! k) (λ k. set X i v ! k) (b ! s) (λ k h'. sym (below k (omega arith))))
          (last_or_before m);
      rest = λ s m. get_or-set_other X i s v nan (λ q. omega arith) ∙ f.rest s (omega arith);
    }
  where
    below : (k : ℕ) → k < i → set X i v ! k ≡ X ! k
    below k h = get_or-set_other X i k v nan (λ q. omega arith)

-- what a causal rule fills satisfies its equations
pub by_follows : (g : Rule) (n : ℕ) (b : List Float) → Causal g → n ≤ length b → Follows g n b (fill_by g n b)
unfolding fill_by ruled
by_follows g zero b ca l = follows_none g b
by_follows g (suc n) b ca l =
    follows_step g n b (fill_by g n b) (g n (λ k. fill_by g n b ! k) (fill_by g n b ! n)) ca (by_follows g n b ca (omega arith)) (omega (arith, length_by g n b)) refl

-- two lists that satisfy the equations agree as far as both do
pub follows_agree : (g : Rule) (m n : ℕ) (b X Y : List Float) → Causal g → Follows g m b X → Follows g n b Y → (s : ℕ) → s < m → s < n → X ! s ≡ Y ! s
follows_agree g m n b X Y ca f h s p q = go (suc s) s (omega arith) p q
  where
    go : (j s : ℕ) → s < j → s < m → s < n → X ! s ≡ Y ! s
    go zero s l p q = absurd (not-suc-le-zero l)
    go (suc j) s l p q = f.done s p ∙ ca s (λ k. X ! k) (λ k. Y ! k) (b ! s) (λ k r. go j k (omega arith) (omega arith) (omega arith)) ∙ sym (h.done s q)

-- so at most one list does
pub follows_unique : (g : Rule) (n : ℕ) (b X Y : List Float) → Causal g → Follows g n b X → Follows g n b Y → X ≡ Y
follows_unique g n b X Y ca f h =
    ext_get_or nan X Y (f.len ∙ sym h.len)
    (λ i l. ⊎_elim (λ (a : i < n). follows_agree g n n b X Y ca f h i a a) (λ (a : n ≤ i). f.rest i a ∙ sym (h.rest i a)) (lt_or_ge i n))

-- ---- the equations, downwards
pub follows_down_none : (g : Rule) (n : ℕ) (b : List Float) → FollowsDown g n n b b
follows_down_none g n b = record { len = refl; done = λ s l m. absurd (not-le_of_lt m l); before = λ s l. refl; after = λ s l. refl }

pub follows_down_step : (g : Rule) (n i : ℕ) (b X : List Float) (v : Float) → CausalDown n g → FollowsDown g n (suc i) b X → i < n → i < length X → v ≡ g i (λ k. X ! k) (X ! i) → FollowsDown g n i b (set X i v)
follows_down_step g n i b X v ca f ln l e =
    record {
      len = length-set X i v ∙ f.len;
      done = λ s a m. ⊎_elim
          (λ (q : i ≡ s). rw (← q) (get_or-set_same X i v nan l ∙ e ∙ ap (λ (o : Float). g i (λ k. X ! k) o) (f.before i (omega arith)) ∙ ca i (λ k. X ! k) (λ k. set X i v ! k) (b ! i) (λ k h h'. sym (other k h))))
          (λ (h : i < s). other s h ∙ f.done s (omega arith) m ∙ ca s (λ k. X ! k) (λ k. set X i v ! k) (b ! s) (λ k p p'. sym (other k (omega arith))))
          (eq-or-lt_of_le a);
      before = λ s m. get_or-set_other X i s v nan (λ q. omega arith) ∙ f.before s (omega arith);
      after = λ s m. get_or-set_other X i s v nan (λ q. omega arith) ∙ f.after s m;
    }
  where
    other : (k : ℕ) → i < k → set X i v ! k ≡ X ! k
    other k h = get_or-set_other X i k v nan (λ q. omega arith)

-- what a rule that looks upwards fills satisfies its equations
pub down_follows : (g : Rule) (n c : ℕ) (b : List Float) → CausalDown n g → c ≤ n → n ≤ length b → FollowsDown g n (n - c) b (fill_down g n c b)
unfolding fill_down ruled
down_follows g n zero b ca l m = let z : n - 0 ≡ n = omega arith in rw z (follows_down_none g n b)
down_follows g n (suc c) b ca l m =
    let X = fill_down g n c b in
    let i = n - suc c in
    let q : n - c ≡ suc (n - suc c) = omega arith in
    let f : FollowsDown g n (suc (n - suc c)) b (fill_down g n c b) = rw q at (down_follows g n c b ca (omega arith) m) in
    follows_down_step g n i b X (g i (λ k. X ! k) (X ! i)) ca f (omega arith) (omega (arith, length_down g n c b)) refl

-- at most one list does
pub follows_down_unique : (g : Rule) (n : ℕ) (b X Y : List Float) → CausalDown n g → FollowsDown g n 0 b X → FollowsDown g n 0 b Y → X ≡ Y
follows_down_unique g n b X Y ca f h =
    ext_get_or nan X Y (f.len ∙ sym h.len)
    (λ i l. ⊎_elim (λ (a : i < n). go (n - i) i a (omega arith)) (λ (a : n ≤ i). f.after i a ∙ sym (h.after i a)) (lt_or_ge i n))
  where
    go : (j s : ℕ) → s < n → n - s ≤ j → X ! s ≡ Y ! s
    go zero s p l = absurd (omega arith)
    go (suc j) s p l =
        f.done s (omega arith) p ∙ ca s (λ k. X ! k) (λ k. Y ! k) (b ! s) (λ k r r'. go j k r' (omega arith)) ∙ sym (h.done s (omega arith) p)
