-- One step of reading, by the tests that decide it. Assumes nothing.
use Rattle.std.specs.Prelude.{Ok, Err, unsigned_abs}
use mathlib.Core.Path.{◌≡◌, refl}
use mathlib.Core.Bool.{Bool, true, false, cond}
use Prim.Native.Nat.{ℕ, zero, suc, ◌+◌, ◌≤◌, ◌<◌}
use native.Mathlib.Omega.{arith}
use borrow.Author.Tests.{eq-eqb, ne_eqb, le-leb, lt-leb, leb-true, eqb-false}
use lib.Dec.{eqb, leb}
use lib.IntN.{ℤ, pos, negsuc}
use mir.Syntax.{w64}
use mir.Val.{SFits}
use Rattle.std.specs.Int.{FitsUnsignedBits}
use Rattle.std.specs.declared.ops.ControlFlow.TheVariants.{Continue, Break}
use Rattle.intake.specs.declared.InputError.TheVariants.{TooLong, Failed}
use Rattle.intake.specs.Intake.{Step, after_bytes, after_read}

module _ (room held n : ℕ) where
  pub end_step : n ≡ 0 → ◌≡◌ {A = Step} (Break (Ok held)) (after_bytes room held n)
  unfolding after_bytes
  end_step e = rw (eq-eqb n 0 e)

  pub over_step : (n ≡ 0 → ⊥) → room < held + n → ◌≡◌ {A = Step} (Break (Err TooLong)) (after_bytes room held n)
  unfolding after_bytes
  over_step e l = rw (ne_eqb n 0 e, lt-leb (held + n) room l)

  pub more_step : (n ≡ 0 → ⊥) → held + n ≤ room → ◌≡◌ {A = Step} (Continue (held + n)) (after_bytes room held n)
  unfolding after_bytes
  more_step e l = rw (ne_eqb n 0 e, le-leb (held + n) room l)

-- ---- by the count, which the machine reads back from its bits as z: what is not negative is a number of bytes
module _ (room held : ℕ) (got z : ℤ) (back : z ≡ got) where
  negative : (k : ℤ) → SFits w64 k → (FitsUnsignedBits 64 k → ⊥) → ◌≡◌ {A = Step} (Break (Err Failed)) (after_read room held k)
  unfolding after_read
  negative (negsuc k) l f = refl
  negative (pos k) l f = absurd (f (omega (arith, l.sfits)))

  pub failed_step : SFits w64 got → (FitsUnsignedBits 64 z → ⊥) → ◌≡◌ {A = Step} (Break (Err Failed)) (after_read room held got)
  failed_step l f = negative got l (rw back at f)

  counted : (k : ℤ) (n : ℕ) (s : Step) → FitsUnsignedBits 64 k → n ≡ unsigned_abs k → s ≡ after_bytes room held n → s ≡ after_read room held k
  unfolding after_read
  counted (negsuc k) n s f e d = absurd f
  counted (pos k) n s f e d = rw (← e) d

  pub read_step : (n : ℕ) (s : Step) → FitsUnsignedBits 64 z → n ≡ unsigned_abs z → s ≡ after_bytes room held n → s ≡ after_read room held got
  read_step n s f e d = counted got n s (rw back at f) (rw back at e) d

-- ---- what is told of a step
module _ (room held n : ℕ) where
  by_more : (k : ℕ) (e l : Bool) → eqb k 0 ≡ e → leb (held + k) room ≡ l → ◌≡◌ {A = Step} (cond e (Break (Ok held)) (cond l (Continue (held + k)) (Break (Err TooLong)))) (Continue n) → (held < n) × (n ≤ room)
  by_more k true l p q t = let z : ◌≡◌ {A = ℕ} 0 1 = cc in absurd (omega arith)
  by_more k false false p q t = let z : ◌≡◌ {A = ℕ} 0 1 = cc in absurd (omega arith)
  by_more k false true p q t =
      let same : held + k ≡ n = cc in
      let within : held + k ≤ room = leb-true (held + k) room q in
      (above k (eqb-false k 0 p) same, omega arith)
    where
      above : (k : ℕ) → (k ≡ 0 → ⊥) → held + k ≡ n → held < n
      above zero e s = absurd (e refl)
      above (suc k) e s = omega arith

  -- bytes that move on are more than there were, and within the space
  pub more_within : (got : ℤ) → after_read room held got ≡ Continue n → (held < n) × (n ≤ room)
  unfolding after_read after_bytes
  more_within (negsuc k) e = let z : ◌≡◌ {A = ℕ} 0 1 = cc in absurd (omega arith)
  more_within (pos k) e = by_more k (eqb k 0) (leb (held + k) room) refl refl e

  by_held : (k : ℕ) (e l : Bool) → ◌≡◌ {A = Step} (cond e (Break (Ok held)) (cond l (Continue (held + k)) (Break (Err TooLong)))) (Break (Ok n)) → n ≡ held
  by_held k true l t = cc
  by_held k false true t = let z : ◌≡◌ {A = ℕ} 0 1 = cc in absurd (omega arith)
  by_held k false false t = let z : ◌≡◌ {A = ℕ} 0 1 = cc in absurd (omega arith)

  -- an input ends behind the bytes that there were
  pub held_is : (got : ℤ) → after_read room held got ≡ Break (Ok n) → n ≡ held
  unfolding after_read after_bytes
  held_is (negsuc k) e = let z : ◌≡◌ {A = ℕ} 0 1 = cc in absurd (omega arith)
  held_is (pos k) e = by_held k (eqb k 0) (leb (held + k) room) e
