-- `stored::both_rows` meets its contract: the sum is over the columns that both rows store below a cut, which parts what the cursors have passed from the rest.
use mathlib.Core.Logic.{inl, inr}
use mathlib.Core.Path.{◌≡◌}
use Rattle.base.specs.Sum.{◌!!◌}
use Rattle.stored.specs.Stored.{ztwz_at}
use Rattle.stored.specs.Lent.{sparse_in}
use Rattle.stored.proofs.Merge.{merge_none, merge_first, merge_second, merge_both, merge_end, weighted_entry}
use native.Mathlib.Omega.{arith}
use Rattle.stored.proofs.weighted.both_rows.Goals as goal

pub loop-i-init : goal.loop-i-init
loop-i-init c =
    let first = c.requires.rows.each c.args.a c.requires.a_lt_rows.0 in
    let second = c.requires.rows.each c.args.b c.requires.a_lt_rows.1 in
    (first, second, c.requires.rows.paired, merge_none (sparse_in c.args.zt.now) c.args.n c.args.a c.args.b _ first second)

pub loop-i-preserved-then-ci-cj : goal.loop-i-preserved-then-ci-cj
loop-i-preserved-then-ci-cj c =
    let inv = c.loop-i.invariant in
    (inv.0, inv.1, inv.2, merge_first (sparse_in c.args.zt.now) _ _ _ _ inv.0 inv.1 inv.3 c.loop-i-test.true c.if-j-j_end.true c.if-ci-cj.true)

pub loop-i-preserved-then-cj-ci : goal.loop-i-preserved-then-cj-ci
loop-i-preserved-then-cj-ci c =
    let inv = c.loop-i.invariant in
    (inv.0, inv.1, inv.2, merge_second (sparse_in c.args.zt.now) _ _ _ _ inv.0 inv.1 inv.3 c.loop-i-test.true c.if-j-j_end.true c.if-cj-ci.true)

pub loop-i-preserved : goal.loop-i-preserved
loop-i-preserved c =
    let inv = c.loop-i.invariant in
    let same : c.args.zt.now.columns.now !! c.loop-i.i ≡ c.args.zt.now.columns.now !! c.loop-i.j = omega arith in
    (inv.0, inv.1, inv.2, rw (← weighted_entry (sparse_in c.args.zt.now) c.args.rows c.args.n c.args.w.now c.args.a c.args.b c.loop-i.i c.loop-i.j c.requires.rows c.requires.a_lt_rows.0 c.requires.a_lt_rows.1 inv.3.first.start c.loop-i-test.true inv.3.second.start c.if-j-j_end.true same) (merge_both (sparse_in c.args.zt.now) _ _ _ _ inv.0 inv.1 inv.3 c.loop-i-test.true c.if-j-j_end.true same))

pub returns-else-j-j_end : goal.returns-else-j-j_end
unfolding ztwz_at
returns-else-j-j_end c =
    let inv = c.loop-i.invariant in
    merge_end (sparse_in c.args.zt.now) _ _ _ _ inv.0 inv.1 inv.3 (inr c.if-j-j_end.false)

pub returns-after-loop-i : goal.returns-after-loop-i
unfolding ztwz_at
returns-after-loop-i c =
    let inv = c.loop-i.invariant in
    merge_end (sparse_in c.args.zt.now) _ _ _ _ inv.0 inv.1 inv.3 (inl c.loop-i-test.false)
