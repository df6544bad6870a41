-- Pieces appended one behind another make one piece, and those from the front on make the line. Assumes nothing.
use mathlib.Core.Path.{◌≡◌, refl, sym, ◌∙◌}
use Rattle.std.specs.Prelude.{Bool, true, false}
use mir.Val.{bool_byte}
use mathlib.Core.List.{List, ◌∷◌, ◌++◌, append_assoc}
use Prim.Native.Nat.{ℕ, ◌+◌, ◌-◌, ◌≤◌}
use native.Mathlib.Omega.{arith}
use borrow.Rule.Slice.PartMut.{put_mid}
use lib.ListN.{length, take, drop, length-append}
use lib.Seq.{length-take-le, drop-drop}
use Rattle.job.specs.Lists.{laid}
use Rattle.job.proofs.ListLaws.{laid_on}
use Rattle.lines.specs.Decimals.{decimal_of}
use Rattle.lines.specs.Lines.{pair_text, flag_of, Appended, Paired, Written}
use Rattle.lines.proofs.DigitLaws.{decimal_few}

-- bytes copied into the place behind the first `at`
pub copied : (bytes b y : List ℕ) (at : ℕ) → at + length bytes ≤ length b → y ≡ bytes → Appended bytes at b (at + length bytes) (put_mid at (at + length bytes - at) b y)
unfolding laid
copied bytes b y at l e =
    let n : at + length bytes - at ≡ length bytes = omega arith in
    let long : length (take at b ++ bytes) ≡ at + length bytes = length-append (take at b) bytes ∙ rw (length-take-le at b (omega arith)) refl in
    record { ends = refl; text = rw (e, n, long, drop-drop (length bytes) at b) (sym (append_assoc (take at b) bytes (drop (at + length bytes) b))) }

-- ---- two pieces
pub appended_both : {p q : List ℕ} {at m r : ℕ} {b w v : List ℕ} → Appended p at b m w → Appended q m w r v → at + length p ≤ length b → Appended (p ++ q) at b r v
appended_both {p} {q} {at} {m} {r} {b} {w} {v} x y l =
    let long : length (take at b ++ p) ≡ m = length-append (take at b) p ∙ rw (length-take-le at b (omega arith)) (sym x.ends) in
    record {
      ends = y.ends ∙ rw (x.ends, length-append p q) (omega arith);
      text = y.text ∙ laid_on (take at b ++ p) q b w m long x.text ∙ rw (append_assoc (take at b) p q) refl;
    }

-- from the front on
pub from_front : {p : List ℕ} {r : ℕ} {b w : List ℕ} → Appended p 0 b r w → Written p b r w
from_front x = (x.ends ∙ omega arith, x.text)

-- a pair's text is at most 21 bytes longer than its name
pub pair_few : (w : List ℕ) (n : ℕ) → length (pair_text w n) ≤ length w + 21
unfolding pair_text
pair_few w n = omega (arith, length-append w (32 ∷ decimal_of n), decimal_few n)

pub paired : (w : List ℕ) (n at r : ℕ) (b v : List ℕ) → Appended (pair_text w n) at b r v → Paired w n at b r v
paired w n at r b v x = record { piece = x; few = omega (arith, x.ends, pair_few w n) }

-- a pair and what follows it
pub pair_and : {w q : List ℕ} {n at m r : ℕ} {b u v : List ℕ} → Paired w n at b m u → Appended q m u r v → at + length w + 21 ≤ length b → Appended (pair_text w n ++ q) at b r v
pair_and {w} {q} {n} x y l = appended_both x.piece y (omega (arith, pair_few w n))

-- a test as a number
pub told_flag : (t : Bool) (n : ℕ) → n ≡ bool_byte t → n ≡ flag_of t
unfolding flag_of
told_flag true n e = e
told_flag false n e = e
