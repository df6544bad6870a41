-- What the private functions between the products with Λ leave: no rule of the fit cites these. Assumes nothing.
use Rattle.std.specs.Prelude.{List, Bool, ◌&&◌, ℕ, ◌+◌, eqb, Float}
use Rattle.base.specs.Number.{◌⊕◌, ◌⊗◌, zero_f, one_f}
use Rattle.base.specs.Sum.{◌!◌, sum_to, add_where}
use Rattle.base.specs.List.{at}
use Rattle.model.specs.declared.sizes.Shape.{Shape}
use Rattle.lambda.specs.Column.{group_size}

-- one block of one effect a group: Λ is one number times the unit matrix
unfoldable pub is_single : Shape → Bool
is_single s = eqb s.count 1 && eqb (group_size s 0) 1

-- x · v_i from +0.0: an entry of Λv where Λ is x times the unit matrix
unfoldable pub scaled_at : Float → List Float → ℕ → Float
scaled_at x v i = zero_f ⊕ (x ⊗ (v ! i))

-- ---- by a column of Λ, the shape being out of sight: `count` numbers of theta from `first` on, or one number x

-- entry a of column c of SΛ
unfoldable pub right_by : ℕ → ℕ → List Float → ℕ → List Float → ℕ → ℕ → Float
right_by first count theta q S c a = sum_to count (λ t. at q S a (c + t) ⊗ (theta ! (first + t)))

unfoldable pub right_one : Float → ℕ → List Float → ℕ → ℕ → Float
right_one x q S c a = zero_f ⊕ (at q S a c ⊗ x)

-- entry c of row a of A
unfoldable pub system_by : ℕ → ℕ → List Float → ℕ → List Float → ℕ → ℕ → Float
system_by first count theta q K a c = add_where (eqb a c) (sum_to count (λ t. (theta ! (first + t)) ⊗ at q K c (a + t))) one_f

unfoldable pub system_one : Float → ℕ → List Float → ℕ → ℕ → Float
system_one x q K a c = add_where (eqb a c) (zero_f ⊕ (x ⊗ at q K c a)) one_f
