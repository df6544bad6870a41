-- A length that is asked for, by whether the sizes are in range. Assumes nothing.
use mathlib.Core.Path.{◌≡◌, refl, sym, ◌∙◌}
use mathlib.Core.Bool.{Bool, true, false}
use Prim.Native.Nat.{ℕ, ◌≤◌}
use borrow.Author.Tests.{leb-true}
use lib.Dec.{leb}
use Rattle.model.specs.Shape.{within}
use Rattle.model.proofs.Tests.{both}
use Rattle.lengths.specs.Asked.{when_in}

-- by what was found of k
module _ (most k : ℕ) (b : Bool) (e : b ≡ within 1 most k) where
  pub at_most : b ≡ true → k ≤ most
  at_most h =
      let t : (leb 1 k ≡ true) × (leb k most ≡ true) = both (sym e ∙ h) in
      leb-true k most t.1

  pub when_in_lem : (x y : ℕ) → b ≡ true → y ≡ x → y ≡ when_in most k x
  unfolding when_in
  when_in_lem x y h q = rw (sym e ∙ h) q

  pub when_out : (x : ℕ) → b ≡ false → 0 ≡ when_in most k x
  unfolding when_in
  when_out x h = rw (sym e ∙ h) refl
