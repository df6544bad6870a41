-- A matrix by its rows: row starts (one more than rows), columns, values. What number 6 asks of it, which columns a row stores, and with what value.
-- Document 01, "What the port carries" and "Numbers of an answer". Assumes nothing.
use Rattle.std.specs.Prelude.{◌≡◌, List, Bool, ◌&&◌, ◌||◌, cond, ℕ, zero, suc, ◌+◌, ◌-◌, ◌<◌, ◌≤◌, leb, ltb, eqb, length, Float}
use Rattle.base.specs.Sum.{◌!◌, ◌!!◌, sum_where, all_to, any_to}

-- ---- number 6, as tests

-- row a does not end before it begins
unfoldable pub not_falling : List ℕ → ℕ → Bool
not_falling starts a = leb (starts !! a) (starts !! (a + 1))

-- the row starts go from 0 to the entry count without falling
unfoldable pub good_starts : List ℕ → ℕ → ℕ → Bool
good_starts starts rows count = eqb (starts !! 0) 0 && eqb (starts !! rows) count && all_to rows (not_falling starts)

-- the column of entry t of the row that begins at b is below n and, unless it is the row's first, above the one before it
unfoldable pub column_fits : List ℕ → ℕ → ℕ → ℕ → Bool
column_fits columns n b t = ltb (columns !! (b + t)) n && (eqb t 0 || ltb (columns !! (b + t - 1)) (columns !! (b + t)))

-- each column of the row from b to e does
unfoldable pub good_columns : List ℕ → ℕ → ℕ → ℕ → Bool
good_columns columns n b e = all_to (e - b) (column_fits columns n b)

-- the columns of row a do
unfoldable pub good_row : List ℕ → List ℕ → ℕ → ℕ → Bool
good_row starts columns n a = good_columns columns n (starts !! a) (starts !! (a + 1))

-- number 6 is not given: the starts are good, and the columns of every row
unfoldable pub good_rows : List ℕ → List ℕ → ℕ → ℕ → Bool
good_rows starts columns rows n = good_starts starts rows (length columns) && all_to rows (good_row starts columns n)

-- ---- the same as facts

-- the row from b to e lies within the columns, which are below n and rise
pub record Rising (columns : List ℕ) (n b e : ℕ) : Type 0 where
  pub order : b ≤ e
  pub within : e ≤ length columns
  pub below : (k : ℕ) → b ≤ k → k < e → columns !! k < n
  pub above : (k : ℕ) → b ≤ k → k + 1 < e → columns !! k < columns !! (k + 1)

-- every row does, and each entry has a value
pub record Rows (starts columns : List ℕ) (values : List Float) (rows n : ℕ) : Type 0 where
  pub long : length starts ≡ rows + 1
  pub paired : length columns ≡ length values
  pub each : (a : ℕ) → a < rows → Rising columns n (starts !! a) (starts !! (a + 1))

-- ---- what a row stores

-- the row from b to e stores column i
unfoldable pub stored_in : List ℕ → ℕ → ℕ → ℕ → Bool
stored_in columns b e i = any_to (e - b) (λ t. eqb (columns !! (b + t)) i)

-- the number below n of which t holds (the last, if of several)
unfoldable pub find_to : ℕ → (ℕ → Bool) → ℕ
find_to zero t = zero
find_to (suc n) t = cond (t n) n (find_to n t)

-- the place of column i in the row from b to e
unfoldable pub place_in : List ℕ → ℕ → ℕ → ℕ → ℕ
place_in columns b e i = b + find_to (e - b) (λ t. eqb (columns !! (b + t)) i)

-- the matrix as it is lent
pub record Sparse : Type 0 where
  pub starts : List ℕ
  pub columns : List ℕ
  pub values : List Float

-- row a stores an entry for column i
unfoldable pub stored : Sparse → ℕ → ℕ → Bool
stored Z a i = stored_in Z.columns (Z.starts !! a) (Z.starts !! (a + 1)) i

-- the value that row a stores for column i
unfoldable pub value_at : Sparse → ℕ → ℕ → Float
value_at Z a i = Z.values ! place_in Z.columns (Z.starts !! a) (Z.starts !! (a + 1)) i

-- ---- sums

-- over the columns below n that row a stores, ascending
unfoldable pub row_sum : Sparse → ℕ → ℕ → (ℕ → Float) → Float
row_sum Z n a f = sum_where n (stored Z a) f

-- over the columns below n that rows a and b both store, ascending
unfoldable pub both_sum : Sparse → ℕ → ℕ → ℕ → (ℕ → Float) → Float
both_sum Z n a b f = sum_where n (λ i. stored Z a i && stored Z b i) f
