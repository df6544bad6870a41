-- The laws of faults: what a demand that holds, or fails, makes of the rest; one turn of each loop; what a sound part reaches. Assumes nothing.
use Prim.{tt}
use Rattle.std.specs.Prelude.{Result, Ok, Err, ⊤}
use Rattle.std.specs.Result.{IsErrAnd}
use mathlib.Core.Path.{◌≡◌, refl}
use mathlib.Core.Bool.{Bool, true, false, not, ◌&&◌, ◌||◌}
use mathlib.Core.List.{List}
use Prim.Native.Nat.{ℕ, zero, suc, ◌+◌, ◌*◌, ◌-◌, ◌≤◌, ◌<◌, ◌/◌}
use native.Mathlib.Omega.{arith}
use lib.Dec.{ltb, eqb}
use lib.ListN.{length}
use borrow.Author.Tests.{le-leb, leb-true, eq-eqb, eqb-true, ltb-true}
use Rattle.bits.specs.Bits.{bits_of}
use Rattle.job.specs.declared.faults.Fault.{Fault}
use Rattle.job.specs.Format.{version, link_field, limit_field, is_second, short, after_row, blocks_at}
use Rattle.job.specs.Faults.{Checked, demand, ◌▹◌, first, is_sound, reaches, spare, pair_fault, blocks_fault, entry_fault, entries_fault, row_fault, rows_fault, common_fault, second_fault, head_fault}

-- ---- one demand
pub reach_yes : (s : List ℕ) (e : ℕ) → e ≤ length s * 8 → reaches s e ≡ Ok tt
unfolding reaches demand
reach_yes s e h = rw (le-leb e (length s * 8) h)

pub spare_yes : (s : List ℕ) (p w z : ℕ) → z ≡ bits_of s p w → z ≡ 0 → spare s p w ≡ Ok tt
unfolding spare demand
spare_yes s p w z e h = rw (← e, eq-eqb z 0 h)

-- a demand that finds no fault holds
pub allowed : (t : Bool) (r b : ℕ) (u : ⊤) → demand t r b ≡ Ok u → t ≡ true
unfolding demand
allowed true r b u h = refl
allowed false r b u h = cc

-- what `?` returns
pub refused : {A : Type 0} (r : Result A Fault) (e : Fault) → IsErrAnd r (λ x. x ≡ e) → r ≡ Err e
refused (Ok a) e h = absurd h
refused (Err x) e h = rw h

-- ---- the first of two
pub go : (f g : Checked) → is_sound f ≡ true → f ▹ g ≡ g
unfolding is_sound first
go (Ok t) g h = refl
go (Err e) g h = cc

pub stop : (f g : Checked) → is_sound f ≡ false → f ▹ g ≡ f
unfolding is_sound first
stop (Ok t) g h = cc
stop (Err e) g h = refl

pub regroup : (f g h : Checked) → (f ▹ g) ▹ h ≡ f ▹ (g ▹ h)
unfolding first
regroup (Ok t) g h = refl
regroup (Err e) g h = refl

pub nothing : (f : Checked) → f ▹ Ok tt ≡ f
unfolding first
nothing (Ok t) = refl
nothing (Err e) = refl

-- a sound whole has sound parts
pub both : (f g : Checked) → is_sound (f ▹ g) ≡ true → (is_sound f ≡ true) × (is_sound g ≡ true)
unfolding is_sound first
both (Ok t) g h = (refl, h)
both (Err e) g h = (cc, cc)

pub demanded : (t : Bool) (r b : ℕ) → is_sound (demand t r b) ≡ true → t ≡ true
unfolding demand is_sound
demanded true r b h = refl
demanded false r b h = cc

pub reached : (s : List ℕ) (e : ℕ) → is_sound (reaches s e) ≡ true → e ≤ length s * 8
unfolding reaches
reached s e h = leb-true e (length s * 8) (demanded _ _ _ h)

pub pair_reached : (s : List ℕ) (p w : ℕ) → is_sound (pair_fault s p w) ≡ true → 8 * p + 16 ≤ length s * 8
unfolding pair_fault
pair_reached s p w h = reached s (8 * p + 16) (both _ _ h).0

pub row_reached : (s : List ℕ) (p : ℕ) → is_sound (row_fault s p) ≡ true → 8 * p + 16 ≤ length s * 8
unfolding row_fault
row_reached s p h = pair_reached s p 3 (both _ _ h).0

-- ---- one turn of a loop that goes on while what it passed is sound
turn : (n k : ℕ) → k < n → n - k ≡ suc (n - (k + 1))
turn n k l = omega arith

pub blocks_on : (s : List ℕ) (p n k : ℕ) (t : ⊤) → k < n → pair_fault s (p + 2 * k) 5 ≡ Ok t → blocks_fault s (p + 2 * (k + 1)) (n - (k + 1)) ≡ blocks_fault s (p + 2 * k) (n - k)
unfolding blocks_fault first
blocks_on s p n k t l h =
    let e : p + 2 * (k + 1) ≡ p + 2 * k + 2 = omega arith in
    rw (turn n k l, h, e)

pub entries_on : (s : List ℕ) (p n k : ℕ) (t : ⊤) → k < n → entry_fault s (p + 10 * k) ≡ Ok t → entries_fault s (p + 10 * (k + 1)) (n - (k + 1)) ≡ entries_fault s (p + 10 * k) (n - k)
unfolding entries_fault first
entries_on s p n k t l h =
    let e : p + 10 * (k + 1) ≡ p + 10 * k + 10 = omega arith in
    rw (turn n k l, h, e)

pub rows_on : (s : List ℕ) (p n k c : ℕ) (t : ⊤) → k < n → row_fault s p ≡ Ok t → c ≡ short s p → rows_fault s (p + (2 + 10 * c)) (n - (k + 1)) ≡ rows_fault s p (n - k)
unfolding rows_fault first
rows_on s p n k c t l h e =
    let f : after_row s p ≡ p + (2 + 10 * short s p) = omega arith in
    rw (turn n k l, h, f, e)

-- ---- what a sound part shows
-- n sound blocks from p on are there
pub blocks_reached : (s : List ℕ) (p n : ℕ) → p ≤ length s → is_sound (blocks_fault s p n) ≡ true → p + 2 * n ≤ length s
unfolding blocks_fault
blocks_reached s p zero l h = omega arith
blocks_reached s p (suc n) l h =
    let b = both (pair_fault s p 5) (blocks_fault s (p + 2) n) h in
    let r : 8 * p + 16 ≤ length s * 8 = pair_reached s p 5 b.0 in
    let t : p + 2 + 2 * n ≤ length s = blocks_reached s (p + 2) n (omega arith) b.1 in
    omega arith

-- a sound header
pub record Headed (s : List ℕ) : Type 0 where
  pub known : eqb (version s) 1 || is_second s ≡ true
  pub carried : link_field s < 7
  pub long : 6 ≤ length s
  pub limited : not (ltb 1000 (limit_field s) && ltb (limit_field s) 1023) ≡ true
  pub second : is_sound (second_fault s) ≡ true

pub headed : (s : List ℕ) → is_sound (head_fault s) ≡ true → Headed s
unfolding head_fault common_fault
headed s h =
    let w = both (common_fault s) (second_fault s) h in
    let a = both (reaches s 4) _ w.0 in
    let b = both (demand (eqb (version s) 1 || is_second s) 21 0) _ a.1 in
    let d = both (reaches s 9) _ b.1 in
    let e = both (demand (ltb (link_field s) 7) 24 0) _ d.1 in
    let f = both (reaches s 48) _ e.1 in
    let r : 48 ≤ length s * 8 = reached s 48 f.0 in
    record {
      known = demanded _ 21 0 b.0;
      carried = ltb-true (link_field s) 7 (demanded _ 24 0 e.0);
      long = omega arith;
      limited = demanded _ 24 4 f.1;
      second = w.1;
    }

-- a version that is not 2 is 1
left_or : (a : Bool) → a || false ≡ true → a ≡ true
left_or true e = refl
left_or false e = e

pub version_one : (s : List ℕ) → Headed s → is_second s ≡ false → version s ≡ 1
version_one s h e = eqb-true (version s) 1 (left_or (eqb (version s) 1) (rw e at h.known))

-- in version 2 the header is a byte longer, and ends with seven zero bits
pub second_said : (s : List ℕ) → Headed s → is_second s ≡ true → (7 ≤ length s) × (bits_of s 49 7 ≡ 0)
unfolding second_fault spare
second_said s h e =
    let b = both (reaches s 56) (spare s 49 7) (rw e at h.second) in
    let r : 56 ≤ length s * 8 = reached s 56 b.0 in
    (omega arith, eqb-true (bits_of s 49 7) 0 (demanded _ 22 (49 / 8) b.1))

pub at_six : (s : List ℕ) → is_second s ≡ false → blocks_at s ≡ 6
unfolding blocks_at
at_six s e = rw e

pub at_seven : (s : List ℕ) → is_second s ≡ true → blocks_at s ≡ 7
unfolding blocks_at
at_seven s e = rw e

-- it is there
pub head_reached : (s : List ℕ) → is_sound (head_fault s) ≡ true → blocks_at s ≤ length s
head_reached s h = by (is_second s) refl
  where
    by : (b : Bool) → is_second s ≡ b → blocks_at s ≤ length s
    by true e = omega (arith, at_seven s e, (second_said s (headed s h) e).0)
    by false e = omega (arith, at_six s e, (headed s h).long)
