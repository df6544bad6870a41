-- What the functions below the call ask of the sizes and of the lent lists. Assumes nothing.
use Rattle.std.specs.Prelude.{◌≡◌, List, ◌++◌, ℕ, ◌+◌, ◌*◌, ◌≤◌, Float, length, take}
use Rattle.model.specs.declared.sizes.Settings.{Settings}
use Rattle.job.specs.Lists.{laid}
use Rattle.model.specs.Inputs.{Inputs, inputs}
use Rattle.reader.specs.declared.whole.Header.{Header}
use Rattle.results.specs.Nine.{Results}

-- n, p and q are in range from above
pub record SizesFew (t : Settings) : Type 0 where
  pub n : t.n ≤ 512
  pub p : t.p ≤ 16
  pub q : t.rows ≤ 32

-- the lists of the header's lengths stand in the fronts of the slices; theta is whole
pub record Fronts (h : Header) (b : Inputs) : Type 0 where
  pub sizes : SizesFew h.settings
  pub y : h.settings.n ≤ length b.y
  pub weights : h.weights ≤ length b.weights
  pub offset : h.offset ≤ length b.offset
  pub x : h.settings.n * h.settings.p ≤ length b.x
  pub starts : h.settings.rows + 1 ≤ length b.starts
  pub columns : h.settings.entries ≤ length b.columns
  pub values : h.settings.entries ≤ length b.values

-- those lists
unfoldable pub fronts_of : Header → Inputs → Inputs
fronts_of h b =
    inputs b.theta (take h.settings.n b.y) (take h.weights b.weights) (take h.offset b.offset)
    (take (h.settings.n * h.settings.p) b.x)
    (take (h.settings.rows + 1) b.starts)
    (take h.settings.entries b.columns)
    (take h.settings.entries b.values)

-- the list stands behind the first `at` numbers, nothing else has changed, and r is where it ends
pub record Copied (xs : List Float) (at : ℕ) (before : List Float) (r : ℕ) (after : List Float) : Type 0 where
  pub ends : r ≡ at + length xs
  pub list : after ≡ laid (take at before ++ xs) before

-- how many numbers a fitted call with these results writes
abbrev pub numbers_length : Results → ℕ
numbers_length R =
    2 + (length R.beta + (length R.se + length R.z)) + (length R.u + length R.b) + (length R.mu + (length R.eta + length R.residual))
    + length R.v

-- there is room for them, unless beta is not lent at all
abbrev pub RoomFor : Results → List Float → Type 0
RoomFor R results = 1 ≤ length R.beta → numbers_length R ≤ length results
