-- The text of a response stands behind its line, and the parts of the buffers that it is made of are there. Assumes nothing.
use mathlib.Core.Path.{◌≡◌, refl}
use mathlib.Core.List.{List, [], ◌∷◌, ◌++◌}
use Prim.Native.Nat.{ℕ, ◌+◌, ◌-◌, ◌*◌, ◌≤◌, ◌<◌}
use native.Mathlib.Nat.{mul-le-mul}
use native.Mathlib.Omega.{arith}
use borrow.Rule.Slice.PartMut.{put_mid, mid_of}
use lib.Ieee.{Float}
use lib.ListN.{length, take, drop, length-append, length-take, length-drop}
use Rattle.model.specs.declared.sizes.Settings.{Settings}
use Rattle.job.specs.Lists.{laid}
use Rattle.lines.specs.Lines.{pair_text, pairs_text, line_of, refused_line, response_line, Written}
use Rattle.lines.proofs.Pieces.{pair_few}
use Rattle.report.proofs.Growing.{rest_grown, grown_front}
use Rattle.jobfit.specs.Room.{SizesFew}
use Rattle.jobfit.proofs.Lent.{cells_few}
use Rattle.jobcall.specs.Told.{counts_length}
use Rattle.many.specs.Many.{part_of, block_length}
use Rattle.manytext.specs.declared.pieces.Pieces.{Pieces}
use Rattle.manytext.specs.declared.pieces.Pieces.TheVariants.{Refusal, Responses}
use Rattle.manytext.specs.Text.{response_text}
use Rattle.manytext.specs.Pieces.{part_text, piece_text, pieces_of, PartsFit, PiecesFit}

-- ---- the line is short
pub line_few : (i : ℕ) → length (response_line i) ≤ 30
unfolding response_line line_of pairs_text
line_few i =
    let w : List ℕ = 114 ∷ 101 ∷ 115 ∷ 112 ∷ 111 ∷ 110 ∷ 115 ∷ 101 ∷ [] in
    omega (arith, length-append (pair_text w i) (10 ∷ []), pair_few w i)

-- ---- what was written into a part is no longer than the part
pub text_few : (text m v : List ℕ) → v ≡ laid text m → length v ≡ length m → length text ≤ length m
unfolding laid
text_few text m v e k = let whole : length (text ++ drop (length text) m) ≡ length m = rw e at k in omega (arith, whole, length-append text (drop (length text) m))

part_length : (b : List ℕ) (at : ℕ) → length (mid_of at (length b - at) b) ≡ length b - at
part_length b at = simp (length-take, length-drop) (omega arith)

-- ---- the line, and the text behind it
pub response_written : (i : ℕ) (text out mid v w : List ℕ) (at n r : ℕ) → 256 ≤ length out → Written (response_line i) out at mid → length mid ≡ length out
    → Written text (mid_of at (length mid - at) mid) n v → length v ≡ length (mid_of at (length mid - at) mid) → w ≡ put_mid at (length mid - at) mid v → r ≡ at + n
    → Written (response_line i ++ text) out r w
response_written i text out mid v w at n r room line same x kept e q =
    let few : length text ≤ length mid - at = rw (part_length mid at) at (text_few text _ v x.1 kept) in
    let short = line_few i in
    grown_front (response_line i) out line (rest_grown text mid v w at n r (length mid - at) x e q few (omega (arith, line.0, same))) (omega (arith, short, room))

-- ---- the blocks of all responses are few
pub block_few : (t : Settings) → SizesFew t → block_length t ≤ 1906
block_few t f = omega (arith, f.n, f.p, f.q, cells_few t.p f.p)

pub blocks_few : (r block : ℕ) (t : Settings) → block ≡ block_length t → r ≤ 64 → SizesFew t → r * block ≤ 121984
blocks_few r block t e h f = let m : r * block ≤ 64 * 1906 = mul-le-mul {n₂ = 64} {m₂ = 1906} h (rw e (block_few t f)) in omega arith

pub blocks_there : (r block m : ℕ) (t : Settings) → block ≡ block_length t → r * block_length t ≤ m → r * block ≤ m
blocks_there r block m t e h = rw e h

-- ---- the parts of one response
pub part_written : (i block first end at past : ℕ) (t : Settings) (counts out w : List ℕ) (results : List Float) (r : ℕ) → block ≡ block_length t → first ≡ i * block → end ≡ first + block → at ≡ i * counts_length → past ≡ at + counts_length
    → Written (response_text i t (take (past - at) (drop at counts)) (take (end - first) (drop first results))) out r w → Written (part_text i t counts results) out r w
unfolding part_text part_of
part_written i block first end at past t counts out w results r eb ef ee ea ep h =
    let k₁ : past - at ≡ counts_length = omega arith in
    let k₂ : end - first ≡ block_length t = omega arith in
    let f : first ≡ i * block_length t = rw (← eb) ef in
    rw (k₁, k₂, f, ea) at h

-- ---- by the pieces
module _ (p : Pieces) (r : ℕ) (t : Settings) (e : p ≡ Responses r t) where
  pub responses_count : r ≡ pieces_of p
  responses_count = rw e refl

  pub responses_fit : (i : ℕ) (counts : List ℕ) (results : List Float) → i < pieces_of p → PiecesFit p counts results → (i < r) × PartsFit r t counts results
  responses_fit i counts results l f = (rw e at l, rw e at f)

  pub responses_text : (i n : ℕ) (counts : List ℕ) (results : List Float) (out w : List ℕ) → Written (part_text i t counts results) out n w → Written (piece_text p counts results i) out n w
  unfolding piece_text
  responses_text i n counts results out w h = rw e h

pub refusal_text : (p : Pieces) (k b : ℕ) → p ≡ Refusal k b → (i n : ℕ) (counts : List ℕ) (results : List Float) (out w : List ℕ) → Written (refused_line k b) out n w → Written (piece_text p counts results i) out n w
unfolding piece_text
refusal_text p k b e i n counts results out w h = rw e h
