-- Means that belong to their predictor. Document 01, module 3, `link_inv`. Assumes nothing.
use Rattle.std.specs.Prelude.{◌≡◌, List, ℕ, ◌<◌, Float}
use Rattle.base.specs.Sum.{◌!◌}
use Rattle.family.specs.Link.{link_inv}
use Rattle.family.specs.declared.carried.CarriedLink.{CarriedLink}

-- each of the first n means is that of its predictor
pub record Met (link : CarriedLink) (n : ℕ) (eta mu : List Float) : Type 0 where
  pub mean : (i : ℕ) → i < n → mu ! i ≡ link_inv link (eta ! i)
