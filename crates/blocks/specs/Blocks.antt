-- The shape of a list of blocks. Document 01, "What the port carries", its sizes. Assumes nothing.
use Rattle.std.specs.Prelude.{ℕ, zero, suc, List, [], ◌∷◌, length, get_or, set, replicate}
use Rattle.blocks.specs.declared.Block.{Block}
use Rattle.model.specs.declared.sizes.Shape.{Shape}

-- what stands past the end of the list
abbrev pub no_block : Block
no_block = record { m = 0; k = 0 }

-- a shape of n blocks, no number filled in
abbrev pub blank_shape : ℕ → Shape
blank_shape n = record { count = n; m = replicate 8 0; k = replicate 8 0 }

-- a shape with a block's numbers at place i
abbrev pub put_at : Shape → ℕ → Block → Shape
put_at s i b = record { count = s.count; m = set s.m i b.m; k = set s.k i b.k }

-- the first n places filled
unfoldable pub placed_to : List Block → ℕ → Shape
placed_to bs zero = blank_shape (length bs)
placed_to bs (suc n) = put_at (placed_to bs n) n (get_or bs n no_block)

-- m of block i
abbrev m_at : List Block → ℕ → ℕ
m_at bs i = (get_or bs i no_block).m

-- k of block i
abbrev k_at : List Block → ℕ → ℕ
k_at bs i = (get_or bs i no_block).k

-- how many blocks there are, and the numbers of the first eight, 0 past the end
abbrev pub shape_of : List Block → Shape
shape_of bs = record {
  count = length bs;
  m = m_at bs 0 ∷ m_at bs 1 ∷ m_at bs 2 ∷ m_at bs 3 ∷ m_at bs 4 ∷ m_at bs 5 ∷ m_at bs 6 ∷ m_at bs 7 ∷ [];
  k = k_at bs 0 ∷ k_at bs 1 ∷ k_at bs 2 ∷ k_at bs 3 ∷ k_at bs 4 ∷ k_at bs 5 ∷ k_at bs 6 ∷ k_at bs 7 ∷ [];
}
