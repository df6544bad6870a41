-- Z' as it is lent. Document 01, "What the port carries". Assumes nothing.
use Rattle.std.specs.Prelude.{ℕ}
use Rattle.base.specs.Sparse.{Sparse, Rows}
use Rattle.stored.specs.Stored.{sparse}
use Rattle.stored.specs.declared.lent.Sparse.{Sparse as LentSparse}

-- the matrix that is lent
abbrev pub sparse_in : LentSparse → Sparse
sparse_in z = sparse z.starts.now z.columns.now z.values.now

-- its rows are in order and fit
abbrev pub RowsIn : LentSparse → (rows n : ℕ) → Type 0
RowsIn z rows n = Rows z.starts.now z.columns.now z.values.now rows n
