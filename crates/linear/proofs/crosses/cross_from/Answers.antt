-- `linear::cross_from` meets its contract: whatever the width, the columns begin at b or before it and end behind it, within the row.
use mathlib.Core.Path.{refl}
use Prim.Native.Nat.{◌+◌}
use native.Mathlib.Nat.{le_refl}
use Rattle.base.proofs.Rows.{filled_part}
use Rattle.linear.specs.Product.{cross_at}
use Rattle.linear.proofs.CrossSums.{begin_within, row_on}
use native.Mathlib.Omega.{arith}
use Rattle.linear.proofs.crosses.cross_from.Goals as goal

pub returns-then-p-lt2 : goal.returns-then-p-lt2
returns-then-p-lt2 c =
    let one = c.some_columns in
    let entry = cross_at c.args.x.now c.args.p c.args.n c.args.w.now c.args.a in
    let wrote = filled_part c.args.b 1 _ (λ k. entry (c.args.b + k)) c.args.out.now one.new.out refl (omega arith) one.auto.out one.ensures in
    row_on c.args.p entry c.args.b c.args.b 1 c.args.out.now _ (le_refl _) (omega arith) (omega arith) c.requires.4 wrote

pub returns-then-p-lt6 : goal.returns-then-p-lt6
returns-then-p-lt6 c =
    let two = c.some_columns-then-p-lt6 in
    let begin = c.begin_at-o in
    let entry = cross_at c.args.x.now c.args.p c.args.n c.args.w.now c.args.a in
    let within = begin_within c.args.b c.args.p 2 begin.result (omega arith) (omega arith) (omega arith) begin.ensures in
    let wrote = filled_part begin.result 2 _ (λ k. entry (begin.result + k)) c.args.out.now two.new.out refl (omega (arith, within.2)) two.auto.out two.ensures in
    row_on c.args.p entry c.args.b begin.result 2 c.args.out.now _ within.0 within.1 within.2 c.requires.4 wrote

pub returns-then-b-p : goal.returns-then-b-p
returns-then-b-p c =
    let twelve = c.some_columns-then-b-p in
    let entry = cross_at c.args.x.now c.args.p c.args.n c.args.w.now c.args.a in
    let wrote = filled_part c.args.b 12 _ (λ k. entry (c.args.b + k)) c.args.out.now twelve.new.out refl (omega arith) twelve.auto.out twelve.ensures in
    row_on c.args.p entry c.args.b c.args.b 12 c.args.out.now _ (le_refl _) (omega arith) (omega arith) c.requires.4 wrote

pub returns : goal.returns
returns c =
    let six = c.some_columns-2 in
    let begin = c.begin_at-o-2 in
    let entry = cross_at c.args.x.now c.args.p c.args.n c.args.w.now c.args.a in
    let within = begin_within c.args.b c.args.p 6 begin.result (omega arith) (omega arith) (omega arith) begin.ensures in
    let wrote = filled_part begin.result 6 _ (λ k. entry (begin.result + k)) c.args.out.now six.new.out refl (omega (arith, within.2)) six.auto.out six.ensures in
    row_on c.args.p entry c.args.b begin.result 6 c.args.out.now _ within.0 within.1 within.2 c.requires.4 wrote
