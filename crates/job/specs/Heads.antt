-- The header's fields and a block's, as records by value. Assumes nothing.
use Rattle.std.specs.Prelude.{List, ℕ, ◌+◌}
use Rattle.bits.specs.Bits.{bits_of}
use Rattle.job.specs.declared.head.Head.{Head}
use Rattle.job.specs.declared.head.Piece.{Piece}
use Rattle.job.specs.Format.{version, family_field, link_field, weighted, shifted, wish, obs, cols, blocks, limit_field}

-- the header
abbrev pub head_of : List ℕ → Head
head_of s =
    record {
      version = version s;
      family = family_field s;
      link = link_field s;
      weighted = weighted s;
      shifted = shifted s;
      n_agq = wish s;
      n = obs s;
      p = cols s;
      blocks = blocks s;
      limit = limit_field s;
    }

-- the block whose first bit is at: m, k and the five bits behind them
abbrev pub piece_of : List ℕ → ℕ → Piece
piece_of s at = record { m = bits_of s at 7; k = bits_of s (at + 7) 4; zeros = bits_of s (at + 7 + 4) 5 }
