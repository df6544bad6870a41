-- `stored::ztwz` meets its contract: before row a the leading a by a square is written, and no observation of the rows before it has a mark above theirs.
use Rattle.stored.specs.Stored.{ztwz_at}
use Rattle.stored.specs.Lent.{sparse_in}
use Rattle.stored.proofs.Symmetry.{Leading}
use Rattle.stored.proofs.Apart.{Marked, itself, others}
use Rattle.stored.proofs.weighted.ztwz.Given as goal

abbrev pub invariant-loop-a : goal.invariant-loop-a
invariant-loop-a l = (Leading l.rows l.a (ztwz_at (sparse_in l.zt) l.n l.w) l.initial.out l.out) × (Marked (sparse_in l.zt) itself l.a l.first) × (Marked (sparse_in l.zt) (others l.rows) l.a l.last)
