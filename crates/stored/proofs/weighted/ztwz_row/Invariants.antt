-- `stored::ztwz_row` meets its contract: before turn b the first b entries of row a and of column a are written, and Z'WZ is symmetric.
use Rattle.stored.specs.Stored.{ztwz_at}
use Rattle.stored.specs.Lent.{sparse_in}
use Rattle.stored.specs.Symmetric.{Bordered}
use Rattle.stored.proofs.weighted.ztwz_row.Given as goal

abbrev pub invariant-loop-b : goal.invariant-loop-b
invariant-loop-b l = Bordered l.rows l.a l.b (ztwz_at (sparse_in l.zt) l.n l.w) l.initial.out l.out
