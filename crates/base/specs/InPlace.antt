-- A list that is written in place, each entry by a rule from its old value and from those written before it. Assumes nothing.
use Rattle.std.specs.Prelude.{◌≡◌, List, ℕ, zero, suc, ◌-◌, ◌<◌, ◌≤◌, length, set, Float}
use Rattle.base.specs.Sum.{◌!◌}

-- what entry t becomes, from the entries x of the list so far and its old value
abbrev pub Rule : Type 0
Rule = ℕ → (ℕ → Float) → Float → Float

-- X with entry t replaced by the rule
unfoldable pub ruled : Rule → ℕ → List Float → List Float
ruled g t X = set X t (g t (λ k. X ! k) (X ! t))

-- b with its first n entries replaced in ascending order
unfoldable pub fill_by : Rule → ℕ → List Float → List Float
fill_by g zero b = b
fill_by g (suc n) b = ruled g n (fill_by g n b)

-- b with the last c of its first n entries replaced in descending order
unfoldable pub fill_down : Rule → ℕ → ℕ → List Float → List Float
fill_down g n zero b = b
fill_down g n (suc c) b = ruled g (n - suc c) (fill_down g n c b)

-- the rule looks at no new entry from t on
abbrev pub Causal : Rule → Type 0
Causal g = (t : ℕ) (x y : ℕ → Float) (o : Float) → ((s : ℕ) → s < t → x s ≡ y s) → g t x o ≡ g t y o

-- the rule looks at no new entry but those above t and below n
abbrev pub CausalDown : ℕ → Rule → Type 0
CausalDown n g = (t : ℕ) (x y : ℕ → Float) (o : Float) → ((s : ℕ) → t < s → s < n → x s ≡ y s) → g t x o ≡ g t y o

-- X is b with its first n entries replaced: each new entry satisfies the rule's equation
pub record Follows (g : Rule) (n : ℕ) (b X : List Float) : Type 0 where
  pub len : length X ≡ length b
  pub done : (s : ℕ) → s < n → X ! s ≡ g s (λ k. X ! k) (b ! s)
  pub rest : (s : ℕ) → n ≤ s → X ! s ≡ b ! s

-- X is b with its entries from m on below n replaced: each new entry satisfies the rule's equation
pub record FollowsDown (g : Rule) (n m : ℕ) (b X : List Float) : Type 0 where
  pub len : length X ≡ length b
  pub done : (s : ℕ) → m ≤ s → s < n → X ! s ≡ g s (λ k. X ! k) (b ! s)
  pub before : (s : ℕ) → s < m → X ! s ≡ b ! s
  pub after : (s : ℕ) → n ≤ s → X ! s ≡ b ! s
