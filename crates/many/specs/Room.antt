-- What the functions of a call of many responses ask of the sizes and of the lent lists. Assumes nothing.
use Rattle.std.specs.Prelude.{cond, List, ℕ, ◌+◌, ◌*◌, ◌≤◌, leb, Float, length}
use Rattle.model.specs.Inputs.{Inputs}
use Rattle.reader.specs.declared.whole.Header.{Header}
use Rattle.jobfit.specs.Room.{SizesFew, fronts_of}
use Rattle.jobcall.specs.Told.{counts_length}
use Rattle.many.specs.Many.{with_y, block_length}

-- the responses, but no more than there can be: the products of a call are formed of so many
unfoldable pub few_of : ℕ → ℕ
few_of r = cond (leb r 64) r 64

-- the lists of the design stand in the fronts of the slices; nothing is said of theta and of the responses, which are whole
pub record DesignFronts (h : Header) (b : Inputs) : Type 0 where
  pub sizes : SizesFew h.settings
  pub weights : h.weights ≤ length b.weights
  pub offset : h.offset ≤ length b.offset
  pub x : h.settings.n * h.settings.p ≤ length b.x
  pub starts : h.settings.rows + 1 ≤ length b.starts
  pub columns : h.settings.entries ≤ length b.columns
  pub values : h.settings.entries ≤ length b.values

-- those lists, with all responses
abbrev pub many_fronts : Header → Inputs → Inputs
many_fronts h b = with_y b.y (fronts_of h b)

-- there is room for r responses
pub record Roomy (r : ℕ) (h : Header) (b : Inputs) (results : List Float) (counts : List ℕ) : Type 0 where
  pub few : r ≤ 64
  pub fronts : DesignFronts h b
  pub y : r * h.settings.n ≤ length b.y
  pub results_long : r * block_length h.settings ≤ length results
  pub counts_long : r * counts_length ≤ length counts
