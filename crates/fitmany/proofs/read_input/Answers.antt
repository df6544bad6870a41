-- `fitmany::read_input` is safe and ends: each turn reads one byte at least, and what is held is within the space. Assumes nothing.
use native.Mathlib.Omega.{arith}
use Rattle.fitmany.proofs.Reading.{ended_within, more_of}
use borrow.Author.Rules.{rules}
use Rattle.fitmany.proofs.read_input.Goals as goal

pub loop-at-smaller : goal.loop-at-smaller
loop-at-smaller g c =
    let more = more_of _ _ _ _ _ c.after_read.ensures c.in-Continue.is in
    omega (arith, more.0, more.1)

pub loop-at-preserved : goal.loop-at-preserved
loop-at-preserved g c =
    let more = more_of _ _ _ _ _ c.after_read.ensures c.in-Continue.is in
    search (rules, more.1)

pub returns-in-Break : goal.returns-in-Break
returns-in-Break g c =
    let inv = c.loop-at.invariant in
    let within = ended_within _ _ _ _ _ c.after_read.ensures c.in-Break.is inv.0 in
    omega (arith, within, inv.2)
