-- A `match` on a number with the arms 0, 1, .. n - 1 and one for the rest: what is below n + 1 and misses them all is n. Assumes nothing.
use mathlib.Core.Path.{◌≡◌, sym}
use mathlib.Core.Logic.{⊎_elim}
use Prim.Native.Nat.{ℕ, zero, suc, ◌+◌, ◌<◌, ◌≤◌}
use native.Mathlib.Nat.{eq-or-lt_of_le}
use native.Mathlib.Omega.{arith}

-- i is none of 0, 1, .. n - 1, as the arms tell it
abbrev Missed : ℕ → ℕ → Type 0
Missed zero i = Unit {0}
Missed (suc n) i = Missed n i × (i ≡ n → ⊥)

missed_past : (n i : ℕ) → Missed n i → n ≤ i
missed_past zero i m = omega arith
missed_past (suc n) i m =
    ⊎_elim (λ (e : n ≡ i). absurd (m.1 (sym e))) (λ (l : n < i). omega arith) (eq-or-lt_of_le (missed_past n i m.0))

pub last_arm : (n i : ℕ) → Missed n i → i < n + 1 → i ≡ n
last_arm n i m l = let k : n ≤ i = missed_past n i m in omega arith
