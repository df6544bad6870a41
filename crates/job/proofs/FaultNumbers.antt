-- The numbers of a job's refusals: 20 to 25, and 1 of its sizes. Document 01, "The job and the program". Assumes nothing.
use Rattle.std.specs.Prelude.{Ok, Err}
use mathlib.Core.Path.{◌≡◌, refl}
use mathlib.Core.Bool.{Bool, true, false}
use mathlib.Core.List.{List}
use Prim.Native.Nat.{ℕ, zero, suc, ◌+◌}
use Rattle.job.specs.Format.{is_second, after_row, blocks, blocks_at, z_at, rows_in, short}
use Rattle.job.specs.Faults.{Checked, demand, first, ◌▹◌, reaches, spare, pair_fault, blocks_fault, entry_fault, entries_fault, row_fault, rows_fault, common_fault, second_fault, head_fault, numbers_fault, body_fault, fault_of}

-- P holds of the fault's number, if there is a fault
abbrev pub Numbered : (ℕ → Type 0) → Checked → Type 0
Numbered P (Ok t) = Unit {0}
Numbered P (Err e) = P e.number

module _ (P : ℕ → Type 0) where
  either : (f g : Checked) → Numbered P f → Numbered P g → Numbered P (f ▹ g)
  unfolding first
  either (Ok t) g a b = b
  either (Err e) g a b = a

  demanded : (t : Bool) (r b : ℕ) → P r → Numbered P (demand t r b)
  unfolding demand
  demanded true r b h = tt
  demanded false r b h = h

  module _ (cut : P 20) (set : P 22) where
    reached : (s : List ℕ) (e : ℕ) → Numbered P (reaches s e)
    unfolding reaches
    reached s e = demanded _ 20 _ cut

    spared : (s : List ℕ) (p w : ℕ) → Numbered P (spare s p w)
    unfolding spare
    spared s p w = demanded _ 22 _ set

    paired : (s : List ℕ) (p w : ℕ) → Numbered P (pair_fault s p w)
    unfolding pair_fault
    paired s p w = either _ _ (reached s _) (spared s _ w)

    in_blocks : (s : List ℕ) (p n : ℕ) → Numbered P (blocks_fault s p n)
    unfolding blocks_fault
    in_blocks s p zero = tt
    in_blocks s p (suc n) = either _ _ (paired s p 5) (in_blocks s (p + 2) n)

    in_entries : (s : List ℕ) (p n : ℕ) → Numbered P (entries_fault s p n)
    unfolding entries_fault entry_fault
    in_entries s p zero = tt
    in_entries s p (suc n) = either _ _ (either _ _ (paired s p 3) (reached s _)) (in_entries s (p + 10) n)

    in_second : (s : List ℕ) (b : Bool) → is_second s ≡ b → Numbered P (second_fault s)
    unfolding second_fault
    in_second s true e = rw e (either _ _ (reached s 56) (spared s 49 7))
    in_second s false e = rw e tt

    module _ (behind : P 23) where
      in_rows : (s : List ℕ) (p n : ℕ) → Numbered P (rows_fault s p n)
      unfolding rows_fault row_fault
      in_rows s p zero = demanded _ 23 _ behind
      in_rows s p (suc n) = either _ _ (either _ _ (paired s p 3) (in_entries s (p + 2) (short s p))) (in_rows s (after_row s p) n)

      -- what holds of all seven holds of a fault's number
      pub fault_numbers : P 1 → P 21 → P 24 → P 25 → (s : List ℕ) → Numbered P (fault_of s)
      unfolding fault_of head_fault common_fault body_fault numbers_fault
      fault_numbers sizes version named long s =
          let common =
          either _ _ (reached s 4)
          (either _ _ (demanded _ 21 0 version)
          (either _ _ (reached s 9)
          (either _ _ (demanded _ 24 0 named)
          (either _ _ (reached s 48) (demanded _ 24 4 named))))) in
          let body =
          either _ _ (in_blocks s (blocks_at s) (blocks s))
          (either _ _ (demanded _ 1 0 sizes) (either _ _ (reached s _) (in_rows s (z_at s) (rows_in s)))) in
          either _ _ (demanded _ 25 65536 long) (either _ _ (either _ _ common (in_second s (is_second s) refl)) body)
