-- One returned number, and one content of every lent buffer: each contract is an equation with one definition. Assumes nothing.
use mathlib.Core.Path.{◌≡◌}
use mathlib.Core.List.{List}
use Prim.Native.Nat.{ℕ}
use lib.Ieee.{Float}
use Rattle.jobcall.specs.Told.{Buffers, told}
use Rattle.jobcall.proofs.Unique.{told_unique}
use Rattle.many.specs.Many.{fit_many_of}

-- `fit_many`; `fit_fronts_many` with many_of in its place
pub many_unique : (s : List ℕ) (ys : List Float) (count : ℕ) (L : Buffers) (r q : ℕ) (A B : Buffers) → told r A ≡ fit_many_of s ys count L → told q B ≡ fit_many_of s ys count L → (r ≡ q) × (A ≡ B)
many_unique s ys count L r q A B d e = told_unique (fit_many_of s ys count L) r q A B d e
