-- Lists of counts by their entries, lists joined one behind another, and a lent list with another over its front. Assumes nothing.
use Rattle.std.specs.Prelude.{List, [], ◌∷◌, ◌++◌, ℕ, zero, suc, length, drop}

-- the list f 0, f 1, .. f (n - 1) of counts, as `build` is of doubles
unfoldable pub counts : (ℕ → ℕ) → ℕ → List ℕ
counts f zero = []
counts f (suc n) = f 0 ∷ counts (λ i. f (suc i)) n

-- f 0, then f 1, .. then f (n - 1)
unfoldable pub join_to : {A : Type 0} → ℕ → (ℕ → List A) → List A
join_to zero f = []
join_to (suc n) f = join_to n f ++ f n

-- b with its first entries replaced by those of xs
unfoldable pub laid : {A : Type 0} → List A → List A → List A
laid xs b = xs ++ drop (length xs) b
