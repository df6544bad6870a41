-- `bits::word_at` meets its contract: eight bytes are the number of their 64 bits. Assumes nothing.
use mathlib.Core.Path.{◌≡◌, ◌∙◌}
use Prim.Native.Nat.{ℕ, ◌+◌, ◌-◌, ◌<◌}
use native.Mathlib.Omega.{arith}
use borrow.Author.Rules.{rules}
use lib.ListN.{length, take, drop}
use Rattle.std.proofs.lemmas.List.{get_or-take, get_or-drop}
use Rattle.base.specs.Sum.{◌!!◌}
use Rattle.bits.proofs.ByteLaws.{word_is}
use Rattle.bits.proofs.word_at.Goals as goal

pub returns : goal.returns
returns c =
    let s = c.args.s.now in
    let p = c.args.p in
    let chunk = rw c.unwrap.ensures at c.first_chunk.ensures.cases in
    let same : (i : ℕ) → i < 8 → (c.unwrap.result.now !! i) ≡ (s !! (p + i)) = λ i l.
    rw chunk.same
    (get_or-take 8 (take (length s - p) (drop p s)) i 0 l ∙ get_or-take (length s - p) (drop p s) i 0 (omega (arith, c.requires)) ∙ get_or-drop p s i 0) in
    c.from_be_bytes.ensures ∙ word_is s c.unwrap.result.now p same (λ i. search rules)
