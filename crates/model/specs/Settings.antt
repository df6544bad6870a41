-- The sizes of a call and their ranges: when number 1 is given. Document 01, "What the port carries", its sizes, and "Numbers of an answer". Assumes nothing.
use Rattle.std.specs.Prelude.{Option, Some, None}
use Rattle.std.specs.Prelude.{◌≡◌, Bool, true, ◌&&◌, ℕ, ◌≤◌, leb, eqb}
use Rattle.model.specs.Shape.{within, effects_of, good_shape}
use Rattle.model.specs.declared.sizes.Shape.{Shape}
use Rattle.model.specs.declared.sizes.Settings.{Settings}

-- a limit is at most 1000 where it is given
unfoldable pub good_limit : Option ℕ → Bool
good_limit (Some l) = leb l 1000
good_limit None = true

-- number 1 is not given: n, p, the shape, the entries of Z' and the limit are in range, and Z' has a row for each of the q effects
unfoldable pub good_sizes : Settings → Shape → Bool
good_sizes t s =
    within 1 512 t.n && within 1 16 t.p && good_shape s && eqb (effects_of s) t.rows && leb t.entries 8192
    && good_limit t.limit

-- the three sizes that everything is made of, in range: n observations, p columns, q effects
pub record Sizes (n p q : ℕ) : Type 0 where
  pub n_some : 1 ≤ n
  pub n_few : n ≤ 512
  pub p_some : 1 ≤ p
  pub p_few : p ≤ 16
  pub q_some : 1 ≤ q
  pub q_few : q ≤ 32

-- what good sizes keep to, as facts
pub record Sized (t : Settings) (s : Shape) : Type 0 where
  pub sizes : Sizes t.n t.p t.rows
  pub shape : good_shape s ≡ true
  pub effects : effects_of s ≡ t.rows
  pub entries_few : t.entries ≤ 8192
  pub limit : good_limit t.limit ≡ true
