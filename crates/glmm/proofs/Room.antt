-- The work slices keep their lengths: what the writing and the wiping ask of them after a fit. Assumes nothing.
use mathlib.Core.Path.{◌≡◌}
use mathlib.Core.List.{List}
use Prim.Native.Nat.{ℕ, ◌≤◌}
use lib.ListN.{length}
use lib.Ieee.{Float}
use Rattle.layout.specs.WorkRows.{rows_length}
use Rattle.layout.specs.WorkMatrices.{matrices_length}
use Rattle.layout.specs.WorkTerms.{terms_length}
use Rattle.model.specs.declared.sizes.Shape.{Shape}
use Rattle.iteration.specs.Iterated.{Asked}
use Rattle.glmm.specs.Standing.{Standing}

module _ {n p q : ℕ} {shape : Shape} {theta : List Float} {starts columns : List ℕ} {values offset x y r m t : List Float} (a : Asked n p q shape theta starts columns values offset x y r m t) where
  pub stands : (r' m' : List Float) → length r' ≡ length r → length m' ≡ length m → Standing shape n p q theta y r' m'
  stands r' m' er em =
      record {
        good = a.ready.good;
        effects = a.ready.effects;
        numbers = a.ready.numbers;
        y_long = a.y_long;
        sizes = a.lent.sizes;
        rows_long = rw er a.lent.rows_long;
        matrices_long = rw em a.lent.matrices_long;
      }

  pub to_wipe : {i j k : ℕ} → i ≡ length r → j ≡ length m → k ≡ length t → ((n ≤ 512) × (p ≤ 16) × (q ≤ 32)) × ((rows_length n ≤ i) × (matrices_length p q ≤ j) × (terms_length ≤ k))
  to_wipe er em et = ((a.lent.sizes.n_few, a.lent.sizes.p_few, a.lent.sizes.q_few), (rw er a.lent.rows_long, rw em a.lent.matrices_long, rw et a.lent.terms_long))
