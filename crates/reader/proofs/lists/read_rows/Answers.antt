-- `reader::read_rows` meets its contract: before each row the place, the entries so far and the three lists are the definition's. Assumes nothing.
use mathlib.Core.Path.{◌≡◌, refl}
use mathlib.Core.List.{List}
use Prim.Native.Nat.{ℕ, ◌+◌, ◌*◌, ◌≤◌, ◌<◌}
use native.Mathlib.Omega.{arith}
use lib.Ieee.{Float}
use lib.ListN.{length, set}
use borrow.Author.Rules.{rules}
use Rattle.job.specs.Lists.{counts, join_to, laid}
use Rattle.job.specs.Format.{short, row_at, start_of}
use Rattle.job.specs.Job.{columns_of, values_of}
use Rattle.job.proofs.ListLaws.{counts_none, counts_step}
use Rattle.reader.proofs.RowReads.{row_fits, at_step, e_step, columns_step, values_step, join_none}
use Rattle.reader.proofs.lists.read_rows.Goals.{In-loop-r}
use Rattle.reader.proofs.lists.read_rows.Goals as goal

-- when every row is passed
ended :
    (s : List ℕ) (r q e : ℕ) (b w bc wc : List ℕ) (bv wv : List Float) → r ≡ q → q < length b → e ≡ start_of s r → w ≡ laid (counts (start_of s) r) b
    → wc ≡ laid (join_to r (columns_of s)) bc → wv ≡ laid (join_to r (values_of s)) bv
    → (e ≡ start_of s q) × (set w q e ≡ laid (counts (start_of s) (q + 1)) b) × (wc ≡ laid (join_to q (columns_of s)) bc) × (wv ≡ laid (join_to q (values_of s)) bv)
ended s r q e b w bc wc bv wv g m h i j k =
    (rw (← g) h, counts_step (start_of s) b w q e (rw (← g) h) m (rw (← g) i), rw (← g) j, rw (← g) k)

room : (c : In-loop-r) → (c.loop-r.at + 2 + 10 * short c.args.s.now c.loop-r.at ≤ length c.args.s.now)
    × (c.loop-r.e + short c.args.s.now c.loop-r.at ≤ 6553)
room c = let l = c.loop-r.invariant in row_fits c.args.s.now _ _ _ _ c.requires.s_len_bound.0 c.requires.s_len_bound.2 c.loop-r-test.true l.0 l.1

pub loop-r-init : goal.loop-r-init
unfolding row_at start_of
loop-r-init c = (c.requires.s_len_bound.1, refl, counts_none _ _, join_none _ _, join_none _ _)

pub overflow_mul-at : goal.overflow_mul-at
overflow_mul-at c = omega (arith, (room c).0)

pub field_at-n-requires : goal.field_at-n-requires
field_at-n-requires c = omega (arith, (room c).0)

pub read_row-requires : goal.read_row-requires
read_row-requires c =
    let n = c.field_at-n.ensures.0 in
    let r = room (goal.at.read_row-requires c).In-loop-r in
    (search rules, omega (arith, r.0, n), omega (arith, r.1, n), omega (arith, r.1, n))

pub overflow_add-e : goal.overflow_add-e
overflow_add-e c = omega (arith, (room (goal.at.overflow_add-e c).In-loop-r).1, c.field_at-n.ensures.0)

pub overflow_add-at-in-loop-r : goal.overflow_add-at-in-loop-r
overflow_add-at-in-loop-r c = omega (arith, (room (goal.at.overflow_add-at-in-loop-r c).In-loop-r).0, c.field_at-n.ensures.0)

pub loop-r-preserved : goal.loop-r-preserved
loop-r-preserved c =
    let s = c.args.s.now in
    let l = c.loop-r.invariant in
    let n = c.field_at-n.ensures.0 in
    let w = c.read_row.ensures in (
      at_step s _ _ _ l.0 n,
      e_step s _ _ _ _ l.0 n l.1,
      counts_step (start_of s) _ _ _ _ l.1 (omega arith) l.2,
      columns_step s _ _ _ _ _ _ _ l.0 n l.1 l.3 w.0,
      values_step s _ _ _ _ _ _ _ l.0 n l.1 l.4 w.1,
    )

pub returns : goal.returns
returns c =
    let l = c.loop-r.invariant in
    ended c.args.s.now _ _ _ _ _ _ _ _ _ (omega arith) (omega arith) l.1 l.2 l.3 l.4
