-- Bounds of the products of sizes, of which places and lengths are made; from the ranges of document 01, "What the port carries", its sizes. Assumes nothing.
use Rattle.std.specs.Prelude.{◌≡◌, ℕ, ◌*◌, ◌≤◌}

-- every product that a place or a length has, in the one way it is written
pub record Products (n p q : ℕ) : Type 0 where
  pub qq : q * q ≤ 1024
  pub qp : q * p ≤ 512
  pub pp : p * p ≤ 256
  pub np : n * p ≤ 8192

-- r is x, and at most c
pub record Small (x c r : ℕ) : Type 0 where
  pub is : r ≡ x
  pub few : r ≤ c
