-- Pieces of bounded length, one behind another. Assumes nothing.
use mathlib.Core.Path.{◌≡◌, refl, sym, ap, ◌∙◌}
use mathlib.Core.List.{List, [], ◌++◌, append-nil, append_assoc}
use Prim.Native.Nat.{ℕ, ◌+◌, ◌*◌, ◌-◌, ◌≤◌}
use native.Mathlib.Numerals.{add-one}
use native.Mathlib.Omega.{arith}
use borrow.Rule.Slice.PartMut.{put_mid, mid_of}
use lib.Ieee.{Float}
use lib.ListN.{length, take, drop, length-append, length-drop}
use lib.Seq.{length-take-le, take_all, drop-drop, drop-length}
use Rattle.job.specs.Lists.{join_to, laid}
use Rattle.job.proofs.ListLaws.{behind_none, behind_length}
use Rattle.lines.specs.Lines.{Written}
use Rattle.lines.proofs.Pieces.{appended_both, from_front}
use Rattle.report.specs.Report.{line_at, value_lines, Grown}

-- what is laid over the front of the buffer's rest stands behind what is before it
rest_laid : (piece b : List ℕ) (at : ℕ) → at + length piece ≤ length b → put_mid at (length b - at) b (laid piece (mid_of at (length b - at) b)) ≡ laid (take at b ++ piece) b
unfolding laid
rest_laid piece b at h =
    let long : length (drop at b) ≡ length b - at = length-drop at b in
    let whole : take (length b - at) (drop at b) ≡ drop at b = take_all (length b - at) (drop at b) (omega arith) in
    let none : drop (length b - at) (drop at b) ≡ [] = rw (← long) (drop-length (drop at b)) in
    let front : length (take at b ++ piece) ≡ at + length piece = length-append (take at b) piece ∙ rw (length-take-le at b (omega arith)) refl in
    rw (whole, none, append-nil, drop-drop (length piece) at b, front) (sym (append_assoc (take at b) piece (drop (at + length piece) b)))

-- a line that was written into the buffer's rest
pub rest_grown : (piece b v w : List ℕ) (at n r most : ℕ) → Written piece (mid_of at (length b - at) b) n v → w ≡ put_mid at (length b - at) b v → r ≡ at + n
    → length piece ≤ most → at + most ≤ length b → Grown piece most at b r w
rest_grown piece b v w at n r most x e q few room =
    let ends : r ≡ at + length piece = rw q (ap (λ (k : ℕ). at + k) x.0) in
    record { put = record { ends = ends; text = e ∙ rw x.1 (rest_laid piece b at (omega arith)) }; few = omega arith }

-- two pieces
pub grown_both : {p q : List ℕ} {c d at m r : ℕ} {b w v : List ℕ} → Grown p c at b m w → Grown q d m w r v → at + c ≤ length b → Grown (p ++ q) (c + d) at b r v
grown_both {p} x y l = record { put = appended_both x.put y.put (omega (arith, x.put.ends, x.few)); few = omega (arith, x.few, y.few) }

-- the buffer is as long as before
pub grown_length : {p : List ℕ} {c at r : ℕ} {b w : List ℕ} → Grown p c at b r w → at + c ≤ length b → length w ≡ length b
grown_length {p} {c} {at} {r} {b} x l = ap length x.put.text ∙ behind_length at (length p) p b refl (omega (arith, x.put.ends, x.few))

-- three pieces
pub grown_three : {p q s : List ℕ} {c d e at m n r : ℕ} {b w v t : List ℕ} → Grown p c at b m w → Grown q d m w n v → Grown s e n v r t → at + (c + d) ≤ length b → Grown (p ++ (q ++ s)) (c + (d + e)) at b r t
grown_three x y z l = grown_both x (grown_both y z (omega (arith, grown_length x (omega arith), x.few))) (omega arith)

-- a larger bound
pub grown_within : {p : List ℕ} {c d at r : ℕ} {b w : List ℕ} → Grown p c at b r w → c ≤ d → Grown p d at b r w
grown_within x l = record { put = x.put; few = omega (arith, x.few) }

-- ---- the lines of a list
pub lines_none : (name : List ℕ) (xs : List Float) (at : ℕ) (b : List ℕ) → at ≤ length b → Grown (join_to 0 (line_at name xs)) (64 * 0) at b at b
unfolding join_to
lines_none name xs at b l = record { put = record { ends = omega arith; text = behind_none at b l }; few = omega arith }

pub lines_more : (name : List ℕ) (xs : List Float) (i at m r : ℕ) (b w v : List ℕ) → Grown (join_to i (line_at name xs)) (64 * i) at b m w → Grown (line_at name xs i) 64 m w r v
    → at + 64 * i ≤ length b → Grown (join_to (i + 1) (line_at name xs)) (64 * (i + 1)) at b r v
unfolding join_to
lines_more name xs i at m r b w v x y l = rw add-one (grown_within (grown_both x y l) (omega arith))

pub lines_done : (name : List ℕ) (xs : List Float) (i at r : ℕ) (b w : List ℕ) → Grown (join_to i (line_at name xs)) (64 * i) at b r w → i ≡ length xs
    → Grown (value_lines name xs) (64 * length xs) at b r w
unfolding value_lines
lines_done name xs i at r b w x e = rw (← e) x

-- ---- from the front on
pub grown_front : (p : List ℕ) {q : List ℕ} {d m r : ℕ} (b : List ℕ) {w v : List ℕ} → Written p b m w → Grown q d m w r v → length p ≤ length b → Written (p ++ q) b r v
grown_front p b x y l = from_front (appended_both {p = p} {b = b} (record { ends = x.0 ∙ omega arith; text = x.1 ∙ refl }) y.put (omega arith))
