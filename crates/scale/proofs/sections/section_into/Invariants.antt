-- `scale::section_into` meets its contract: before turn i the first i rows of the block are copied, and A lies before them.
use mathlib.Core.Path.{◌≡◌}
use Prim.Native.Nat.{◌*◌}
use lib.ListN.{length}
use Rattle.base.specs.List.{fill_at}
use Rattle.base.specs.Rows.{row}
use Rattle.scale.proofs.SectionCopied.{place_at}
use Rattle.scale.proofs.sections.section_into.Given as goal

abbrev pub invariant-loop-i : goal.invariant-loop-i
invariant-loop-i l = (length l.m ≡ length l.initial.m) × (l.m ≡ fill_at l.place (l.i * l.k) (place_at l.q (row 0 (l.q * l.q) l.initial.m) l.s l.k) l.initial.m)
