-- When each part of a job has no fault. Assumes nothing.
use Prim.{tt}
use Rattle.std.specs.Prelude.{Option, Some, None, Ok}
use mathlib.Core.Path.{◌≡◌, refl}
use mathlib.Core.Bool.{true, false, ◌&&◌, ◌||◌}
use mathlib.Core.List.{List}
use Prim.Native.Nat.{ℕ, zero, suc, ◌+◌, ◌*◌, ◌-◌, ◌≤◌, ◌<◌}
use native.Mathlib.Nat.{add-zero}
use native.Mathlib.Omega.{arith}
use borrow.Author.Tests.{le-leb, leb-true, lt-ltb, le-ltb}
use lib.Dec.{ltb, eqb}
use lib.ListN.{length}
use Rattle.bits.specs.Bits.{bits_of}
use Rattle.model.specs.Settings.{good_limit}
use Rattle.job.specs.Format.{version, link_field, limit_field, is_second, short, row_at}
use Rattle.job.specs.Faults.{demand, first, common_fault, second_fault, head_fault, pair_fault, blocks_fault, entry_fault, entries_fault, row_fault, rows_fault}
use Rattle.job.specs.Write.{limit_code, Version, version1, version2, version_code, head_length}
use Rattle.job.proofs.FaultLaws.{reach_yes, spare_yes}

-- the header's 48 bits, by what is found of the limit
common_sound : (s : List ℕ) → 6 ≤ length s → eqb (version s) 1 || is_second s ≡ true → link_field s < 7 → ltb 1000 (limit_field s) && ltb (limit_field s) 1023 ≡ false → common_fault s ≡ Ok tt
unfolding common_fault demand first
common_sound s l v k m =
    rw (
      reach_yes s 4 (omega arith),
      v,
      reach_yes s 9 (omega arith),
      lt-ltb (link_field s) 7 k,
      reach_yes s 48 (omega arith),
      m,
    )

-- the header of either version
pub head_sound : (v : Version) (s : List ℕ) → head_length v ≤ length s → version s ≡ version_code v → (v ≡ version2 → bits_of s 49 7 ≡ 0) → link_field s < 7 → ltb 1000 (limit_field s) && ltb (limit_field s) 1023 ≡ false → head_fault s ≡ Ok tt
unfolding head_fault second_fault first
head_sound version1 s l e z k m = rw (common_sound s l (rw e) k m, e)
head_sound version2 s l e z k m =
    rw (common_sound s (omega arith) (rw e) k m, e, reach_yes s 56 (omega arith), spare_yes s 49 7 0 (rw (z refl)) refl)

-- a limit in range, and one that is not given
pub limit_in : (l : Option ℕ) (c : ℕ) → good_limit l ≡ true → c ≡ limit_code l → ltb 1000 c && ltb c 1023 ≡ false
unfolding good_limit limit_code
limit_in (Some k) c g e = rw (le-ltb 1000 c (omega (arith, leb-true k 1000 g)))
limit_in None c g e = rw e

-- two bytes, the last w bits of which are zero bits
pub pair_sound : (s : List ℕ) (p w : ℕ) → p + 2 ≤ length s → bits_of s (8 * p + (16 - w)) w ≡ 0 → pair_fault s p w ≡ Ok tt
unfolding pair_fault first
pair_sound s p w l e = rw (reach_yes s (8 * p + 16) (omega arith), spare_yes s (8 * p + (16 - w)) w 0 (rw e) refl)

pub blocks_sound : (s : List ℕ) (p n : ℕ) → ((i : ℕ) → i < n → pair_fault s (p + 2 * i) 5 ≡ Ok tt) → blocks_fault s p n ≡ Ok tt
unfolding blocks_fault first
blocks_sound s p zero h = refl
blocks_sound s p (suc n) h =
    let e : p + 2 * 0 ≡ p = omega arith in
    let here : pair_fault s p 5 ≡ Ok tt = rw e at (h 0 (omega arith)) in
    rw here (blocks_sound s (p + 2) n (λ i l. let k : p + 2 * suc i ≡ p + 2 + 2 * i = omega arith in rw k at (h (suc i) (omega arith))))

pub entries_sound : (s : List ℕ) (p n : ℕ) → ((i : ℕ) → i < n → entry_fault s (p + 10 * i) ≡ Ok tt) → entries_fault s p n ≡ Ok tt
unfolding entries_fault first
entries_sound s p zero h = refl
entries_sound s p (suc n) h =
    let e : p + 10 * 0 ≡ p = omega arith in
    let here : entry_fault s p ≡ Ok tt = rw e at (h 0 (omega arith)) in
    rw here (entries_sound s (p + 10) n (λ i l. let k : p + 10 * suc i ≡ p + 10 + 10 * i = omega arith in rw k at (h (suc i) (omega arith))))

pub entry_sound : (s : List ℕ) (p : ℕ) → p + 10 ≤ length s → bits_of s (8 * p + 13) 3 ≡ 0 → entry_fault s p ≡ Ok tt
unfolding entry_fault first
entry_sound s p l e = rw (pair_sound s p 3 (omega arith) e, reach_yes s (8 * p + 80) (omega arith))

pub row_sound : (s : List ℕ) (p c : ℕ) → p + 2 ≤ length s → bits_of s (8 * p + 13) 3 ≡ 0 → short s p ≡ c → ((i : ℕ) → i < c → entry_fault s (p + 2 + 10 * i) ≡ Ok tt) → row_fault s p ≡ Ok tt
unfolding row_fault first
row_sound s p c l e q h = rw (pair_sound s p 3 l e, q) (entries_sound s (p + 2) c h)

-- n rows from row r on, and the end of the job
pub rows_sound : (s : List ℕ) (r n : ℕ) → ((i : ℕ) → i < n → row_fault s (row_at s (r + i)) ≡ Ok tt) → length s ≤ row_at s (r + n) → rows_fault s (row_at s r) n ≡ Ok tt
unfolding rows_fault row_at demand first
rows_sound s r zero h l = rw (le-leb (length s) (row_at s r) (rw add-zero at l))
rows_sound s r (suc n) h l =
    let e : r + suc n ≡ suc r + n = omega arith in
    let here : row_fault s (row_at s r) ≡ Ok tt = rw add-zero at (h 0 (omega arith)) in
    rw here (rows_sound s (suc r) n (λ i m. let k : r + suc i ≡ suc r + i = omega arith in rw k at (h (suc i) (omega arith))) (rw e at l))
