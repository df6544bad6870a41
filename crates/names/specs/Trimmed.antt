-- Where trimmed bytes begin and end, for the functions that look for these places. Assumes nothing.
use Rattle.std.specs.Prelude.{◌≡◌, List, ℕ, ◌≤◌, length, take, drop}
use Rattle.names.specs.Names.{trim_front, trim_end}

-- without the blanks at the front the bytes are those from place r on
pub record FrontAt (s : List ℕ) (r : ℕ) : Type 0 where
  pub within : r ≤ length s
  pub rest : drop r s ≡ trim_front s

-- without the blanks at the end they are the first r
pub record EndAt (s : List ℕ) (r : ℕ) : Type 0 where
  pub within : r ≤ length s
  pub rest : take r s ≡ trim_end s
