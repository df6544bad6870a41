-- Sums of accounts and their caps, for the run of an inner fit, the dispersion loop, and totals over many calls. Assumes nothing.
use mathlib.Core.Path.{◌≡◌, refl}
use Prim.Native.Nat.{ℕ, ◌+◌, ◌≤◌}
use native.Mathlib.Omega.{arith}
use Rattle.model.specs.Account.{no_counts, ◌⊞◌, times, AtMost, inner_cap, call_cap, Capped, SumFits}
use Rattle.model.specs.declared.counts.Account.{Account}

-- accounts with the same counts are the same
pub same_counts : {a b : Account} → a.fits ≡ b.fits → a.solves ≡ b.solves → a.tries ≡ b.tries → a.points ≡ b.points → a.eta ≡ b.eta → a.mean ≡ b.mean → a.pwrss ≡ b.pwrss → a.ok ≡ b.ok → a ≡ b
same_counts f s t p e m w o =
    λ i. record { fits = f i; solves = s i; tries = t i; points = p i; eta = e i; mean = m i; pwrss = w i; ok = o i }

-- ---- an account that grows item by item begins with no counts, and is at the end the sum of all
pub plus_assoc : (a b c : Account) → a ⊞ b ⊞ c ≡ a ⊞ (b ⊞ c)
unfolding ◌⊞◌
plus_assoc a b c = same_counts (omega arith) (omega arith) (omega arith) (omega arith) (omega arith) (omega arith) (omega arith) (omega arith)

pub none_plus : (a : Account) → no_counts ⊞ a ≡ a
unfolding ◌⊞◌
none_plus a = same_counts (omega arith) (omega arith) (omega arith) (omega arith) (omega arith) (omega arith) (omega arith) (omega arith)

pub plus_none : (a : Account) → a ⊞ no_counts ≡ a
unfolding ◌⊞◌
plus_none a = same_counts (omega arith) (omega arith) (omega arith) (omega arith) (omega arith) (omega arith) (omega arith) (omega arith)

-- ---- what keeps to a cap keeps to any cap above it
pub caps_trans : {c d a : Account} → AtMost c d → AtMost d a → AtMost c a
caps_trans p q =
    record {
      fits = omega arith;
      solves = omega arith;
      tries = omega arith;
      points = omega arith;
      eta = omega arith;
      mean = omega arith;
      pwrss = omega arith;
      ok = omega arith;
    }

-- ---- the dispersion loop: k inner fits and one more, and up to 241 of them keep to the caps of a call
pub inner_more : {a b : Account} (k : ℕ) → AtMost (times k inner_cap) a → AtMost inner_cap b → AtMost (times (k + 1) inner_cap) (a ⊞ b)
unfolding ◌⊞◌
inner_more k p q =
    record {
      fits = omega arith;
      solves = omega arith;
      tries = omega arith;
      points = omega arith;
      eta = omega arith;
      mean = omega arith;
      pwrss = omega arith;
      ok = omega arith;
    }

pub inner_capped : {a : Account} (k : ℕ) → k ≤ 241 → AtMost (times k inner_cap) a → Capped a
inner_capped k l p =
    record {
      fits = omega arith;
      solves = omega arith;
      tries = omega arith;
      points = omega arith;
      eta = omega arith;
      mean = omega arith;
      pwrss = omega arith;
      ok = omega arith;
    }

-- the caps of a call are those of 241 inner fits, no more
pub call_caps : times 241 inner_cap ≡ call_cap
call_caps = refl

-- ---- sums that fit into 64 bits
-- the counts of k calls, of which there are at most a million, and of one more
pub calls_fit : {a b : Account} (k : ℕ) → k ≤ 1000000 → AtMost (times k call_cap) a → Capped b → SumFits a b
calls_fit k l p q =
    record {
      fits = omega arith;
      solves = omega arith;
      tries = omega arith;
      points = omega arith;
      eta = omega arith;
      mean = omega arith;
      pwrss = omega arith;
      ok = omega arith;
    }

-- those of two accounts within the caps of a call
pub capped_fit : {a b : Account} → Capped a → Capped b → SumFits a b
capped_fit p q = calls_fit 1 (omega arith) p q
