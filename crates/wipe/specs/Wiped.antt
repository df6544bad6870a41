-- The work slices after an accepted call. Document 01, "Numbers of an answer": +0.0 in the named lengths, the rest untouched. Assumes nothing.
use Rattle.std.specs.Prelude.{◌≡◌, List, ℕ, Float}
use Rattle.base.specs.List.{zero_at, fill_to}
use Rattle.layout.specs.WorkRows.{rows_length}
use Rattle.layout.specs.WorkMatrices.{matrices_length}
use Rattle.layout.specs.WorkTerms.{terms_length}

-- each work slice is what it was, with +0.0 in its named length
pub record Wiped (n p q : ℕ) (r r' m m' t t' : List Float) : Type 0 where
  pub rows : r' ≡ fill_to (rows_length n) zero_at r
  pub matrices : m' ≡ fill_to (matrices_length p q) zero_at m
  pub terms : t' ≡ fill_to terms_length zero_at t
