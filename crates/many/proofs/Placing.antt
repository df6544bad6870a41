-- One response as the code lends it: its part of y, its block of the results and its counts; and one turn of the loop. Assumes nothing.
use mathlib.Core.Path.{◌≡◌, refl, ◌∙◌}
use mathlib.Core.List.{List}
use Prim.Native.Nat.{ℕ, ◌+◌, ◌-◌, ◌*◌, ◌≤◌}
use native.Mathlib.Nat.{mul-le-mul, le_refl}
use native.Mathlib.Numerals.{add-one}
use native.Mathlib.Omega.{arith}
use borrow.Rule.Slice.PartMut.{put_mid, mid_of}
use lib.Ieee.{Float}
use lib.ListN.{length, take, drop, length-drop}
use lib.Seq.{length-take-le, take-take}
use Rattle.model.specs.Inputs.{Inputs, inputs}
use Rattle.model.specs.declared.ends.Answer.{Answer}
use Rattle.model.specs.declared.sizes.Settings.{Settings}
use Rattle.model.specs.declared.sizes.Shape.{Shape}
use Rattle.reader.specs.declared.whole.Header.{Header}
use Rattle.job.specs.Lists.{laid}
use Rattle.jobfit.specs.Done.{done, done_for}
use Rattle.jobfit.specs.Room.{SizesFew, Fronts, fronts_of}
use Rattle.jobfit.proofs.Lent.{cells_few}
use Rattle.jobcall.specs.Told.{Buffers, buffers, counts_of, told_by}
use Rattle.many.specs.Many.{part_of, placed_in, response_at, with_y, block_length, lent_to, back_from, after_one, after_to}
use Rattle.many.specs.Room.{DesignFronts, many_fronts, Roomy}

-- ---- products of sizes in range are small
pub product_small : (r n c : ℕ) → r ≤ 64 → n ≤ c → r * n ≤ 64 * c
product_small r n c h l = mul-le-mul {n₂ = 64} {m₂ = c} h l

pub cells_small : (r p : ℕ) → r ≤ 64 → p ≤ 16 → r * p * p ≤ 16384
cells_small r p h l = let m : r * p * p ≤ 1024 * 16 = mul-le-mul {n₂ = 1024} {m₂ = 16} (product_small r p 16 h l) l in omega (arith, m)

block_few : (t : Settings) → SizesFew t → block_length t ≤ 1906
block_few t f = omega (arith, f.n, f.p, f.q, cells_few t.p f.p)

pub block_small : (t : Settings) (r len : ℕ) → SizesFew t → r ≤ 64 → len ≡ block_length t → r * len ≤ 121984
block_small t r len f h e = let m : r * len ≤ 64 * 1906 = product_small r len 1906 h (rw e (block_few t f)) in omega (arith, m)

pub rows_small : (r n : ℕ) → r ≤ 64 → n ≤ 512 → r * n ≤ 32768
rows_small r n h l = let m : r * n ≤ 64 * 512 = product_small r n 512 h l in omega (arith, m)

pub block_room : (t : Settings) (r len m : ℕ) → len ≡ block_length t → r * block_length t ≤ m → r * len ≤ m
block_room t r len m e h = rw e h

-- ---- response i
module _ (h : Header) (s : Shape) (theta y weights offset x : List Float) (starts columns : List ℕ) (values : List Float) where
  abbrev lists : Inputs
  lists = inputs theta y weights offset x starts columns values

  -- its lists are those of the single call
  one_fronts : (i : ℕ) → fronts_of h (inputs theta (take h.settings.n (drop (i * h.settings.n) y)) weights offset x starts columns values) ≡ with_y (response_at h.settings.n i y) (many_fronts h lists)
  unfolding fronts_of part_of
  one_fronts i = rw (take-take h.settings.n h.settings.n (drop (i * h.settings.n) y) (le_refl _)) refl

  module _ (i n from to : ℕ) (en : n ≡ h.settings.n) (ef : from ≡ i * n) (et : to ≡ from + n) where
    part_long : to ≤ length y → length (take (to - from) (drop from y)) ≡ n
    part_long l = length-take-le (to - from) (drop from y) (omega (arith, length-drop from y)) ∙ omega arith

    pub fronts_part : DesignFronts h lists → to ≤ length y → Fronts h (inputs theta (take (to - from) (drop from y)) weights offset x starts columns values)
    fronts_part f l =
        record {
          sizes = f.sizes;
          y = omega (arith, part_long l);
          weights = f.weights;
          offset = f.offset;
          x = f.x;
          starts = f.starts;
          columns = f.columns;
          values = f.values;
        }

    module _ (len first end at past : ℕ) (el : len ≡ block_length h.settings) (e1 : first ≡ i * len) (e2 : end ≡ first + len) (e3 : at ≡ i * 14) (e4 : past ≡ at + 14)
        (rows rows' matrices matrices' terms terms' results block : List Float) (counts told : List ℕ) (a : Answer) where
      pub response_done : done a rows' matrices' terms' block ≡ done_for h.settings s (fronts_of h (inputs theta (take (to - from) (drop from y)) weights offset x starts columns values)) rows matrices terms (mid_of first (end - first) results)
          → told ≡ laid (counts_of a 0) (mid_of at (past - at) counts)
          → buffers rows' matrices' terms' (put_mid first (end - first) results block) (put_mid at (past - at) counts told) ≡ after_one h.settings s (many_fronts h lists) i (buffers rows matrices terms results counts)
      unfolding after_one back_from told_by lent_to placed_in part_of
      response_done d q =
          let k1 : to - from ≡ h.settings.n = omega arith in
          let k2 : end - first ≡ block_length h.settings = omega arith in
          let k3 : past - at ≡ 14 = omega arith in
          let f1 : from ≡ i * h.settings.n = rw (← en) ef in
          let f2 : first ≡ i * block_length h.settings = rw (← el) e1 in
          let d' : done a rows' matrices' terms' block ≡ done_for h.settings s (with_y (response_at h.settings.n i y) (many_fronts h lists)) rows matrices terms (take (block_length h.settings) (drop (i * block_length h.settings) results)) = rw (k1, k2, f1, f2, one_fronts i) at d in
          rw (k2, k3, f2, e3, q, k3, e3, ← d') refl

-- ---- the loop
module _ (t : Settings) (s : Shape) (I : Inputs) where
  pub next_one : (i : ℕ) (A B C : Buffers) → B ≡ after_to t s I i A → C ≡ after_one t s I i B → C ≡ after_to t s I (i + 1) A
  unfolding after_to
  next_one i A B C e f = rw (f, e, add-one) refl

  pub none_yet : (A : Buffers) → A ≡ after_to t s I 0 A
  unfolding after_to
  none_yet A = refl

  pub all_done : (i r : ℕ) (A B : Buffers) → B ≡ after_to t s I i A → i ≤ r → r ≤ i → B ≡ after_to t s I r A
  all_done i r A B e l m = let q : i ≡ r = omega arith in rw (← q) e

pub room_kept : {r : ℕ} {h : Header} {I : Inputs} {results results' : List Float} {counts counts' : List ℕ} → Roomy r h I results counts → length results' ≡ length results
    → length counts' ≡ length counts
    → Roomy r h I results' counts'
room_kept a e f = record { few = a.few; fronts = a.fronts; y = a.y; results_long = rw e a.results_long; counts_long = rw f a.counts_long }
