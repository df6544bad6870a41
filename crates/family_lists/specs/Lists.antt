-- The list functions: each entry of the output by the rule of one number. Document 01, module 3, and number 2 of "Numbers of an answer". Assumes nothing.
use Rattle.family_lists.specs.declared.lists.ListError.{ListError}
use Rattle.family_lists.specs.declared.lists.ListError.TheVariants.{LengthsDiffer}
use Rattle.std.specs.Prelude.{Result, Ok, Err, ⊤}
use Prim.{tt}
use Rattle.std.specs.Prelude.{◌≡◌, ℕ, Bool, cond, ◌&&◌, ◌||◌, List, length, ◌==◌, slice_index_or, Float}
use Rattle.base.specs.Number.{one_f}
use Rattle.base.specs.Sum.{◌!◌, sum_to}
use Rattle.base.specs.List.{fill_to}
use Rattle.family.specs.Family.{dev_resid}
use Rattle.family.specs.declared.carried.CarriedFamily.{CarriedFamily}

-- document 01's number of each answer: 2 where the lists differ in length
abbrev pub list_number : Result ⊤ ListError → ℕ
list_number (Ok tt) = 0
list_number (Err LengthsDiffer) = 2

-- what a list function of n entries answers and leaves in its output: f 0 .. f (n - 1), and number 2 with nothing touched where the lengths do not agree
pub record Listed (agree : Bool) (n : ℕ) (f : ℕ → Float) (before after : List Float) (r : Result ⊤ ListError) : Type 0 where
  pub number : list_number r ≡ cond agree 0 2
  pub output : after ≡ cond agree (fill_to n f before) before

-- f of entry i
unfoldable pub each : (Float → Float) → List Float → ℕ → Float
each f xs i = f (xs ! i)

-- a list function of one list: f of each entry, where the output is as long as the list
abbrev pub ListedEach : (Float → Float) → List Float → List Float → List Float → Result ⊤ ListError → Type 0
ListedEach f xs before after r = Listed (length xs == length before) (length xs) (each f xs) before after r

-- weight i; where the weights are absent it is 1
abbrev pub weight_at : List Float → ℕ → Float
weight_at w i = slice_index_or w i one_f

-- the sum of the weights of n responses
unfoldable pub weight_sum : ℕ → List Float → Float
weight_sum n w = sum_to n (weight_at w)

-- there are as many means as responses, and as many weights or none, where they are absent
unfoldable pub lengths_agree : ℕ → ℕ → ℕ → Bool
lengths_agree n mu w = mu == n && (w == 0 || w == n)

-- the deviance of response i
unfoldable pub dev_resid_at : CarriedFamily → List Float → List Float → List Float → ℕ → Float
dev_resid_at f y mu w i = dev_resid f (y ! i) (mu ! i) (weight_at w i)

-- the list function `dev_resid`: the deviance of each response, where means, weights and output are as long as the responses, or the weights absent
abbrev pub ListedDeviances : CarriedFamily → List Float → List Float → List Float → List Float → List Float → Result ⊤ ListError → Type 0
ListedDeviances f y mu w before after r =
    Listed (lengths_agree (length y) (length mu) (length w) && length y == length before) (length y) (dev_resid_at f y mu w) before after r
