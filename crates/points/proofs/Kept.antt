-- A part of a slice that is lent while another row of the slice is filled: it holds what stood there before. Assumes nothing.
use mathlib.Core.Path.{◌≡◌, sym, ◌∙◌}
use mathlib.Core.List.{List}
use Prim.Native.Nat.{ℕ, ◌+◌, ◌-◌, ◌<◌, ◌≤◌}
use lib.ListN.{length, take, drop}
use lib.Ieee.{Float}
use Rattle.base.specs.Sum.{◌!◌}
use Rattle.base.specs.List.{fill_at}
use Rattle.base.specs.Rows.{row, Apart}
use Rattle.base.proofs.Rows.{part_is, only_row, fillat_only, fillat_read, row_at}

pub kept_part : (c n e b m i : ℕ) (f : ℕ → Float) (v w : List Float) → e ≡ c + n → Apart c n b m → c + n ≤ length v → i ≤ m → w ≡ fill_at b i f v → take (e - c) (drop c w) ≡ row c n v
kept_part c n e b m i f v w q a h l x = part_is c n e w q ∙ only_row c n b m a h (rw x (fillat_only b m i f v l))

-- and so does an entry that is read
pub kept_entry : (c n b m i j : ℕ) (f : ℕ → Float) (v w : List Float) → Apart c n b m → c + n ≤ length v → i ≤ m → j < n → w ≡ fill_at b i f v → w ! (c + j) ≡ row c n v ! j
kept_entry c n b m i j f v w a h l k x = fillat_read c n b m i j f v w a l k x ∙ sym (row_at c n v h j k)
