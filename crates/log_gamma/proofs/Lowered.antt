-- The steps of `below_eight`: with k of five taken, one more, the end at a v below 3, and the end after the fifth. Assumes nothing.
use Rattle.std.proofs.Common.{◌≡◌, ℕ, suc, ◌+◌, ◌-◌, ◌<◌, ◌≤◌, true, false, arith}
use lib.Ieee.{Float, lt}
use Rattle.base.specs.Number.{◌⊖◌, ◌⊗◌, bits, one_f}
use Rattle.log_gamma.specs.LogGamma.{product_of, lowered_of}

turn : (k : ℕ) → k < 5 → 5 - k ≡ suc (5 - (k + 1))
turn k l = omega arith

pub lowered_on : (v z : Float) (k : ℕ) → k < 5 → lt v (bits 0x4008_0000_0000_0000) ≡ false → lowered_of (5 - k) v z ≡ lowered_of (5 - (k + 1)) (v ⊖ one_f) (z ⊗ (v ⊖ one_f))
unfolding lowered_of
lowered_on v z k l h = rw (turn k l, h)

pub lowered_off : (v z : Float) (k : ℕ) → k < 5 → lt v (bits 0x4008_0000_0000_0000) ≡ true → lowered_of (5 - k) v z ≡ product_of v z
unfolding lowered_of
lowered_off v z k l h = rw (turn k l, h)

pub lowered_end : (v z : Float) (k : ℕ) → 5 ≤ k → lowered_of (5 - k) v z ≡ product_of v z
unfolding lowered_of
lowered_end v z k l = let e : 5 - k ≡ 0 = omega arith in rw e
