-- Products with Λ, and A. Document 01, "The inner fit": A = Λ'((Z'WZ)Λ) + I, sums over Λ's entries only, ascending. Assumes nothing.
use Rattle.std.specs.Prelude.{List, ℕ, ◌+◌, eqb, Float}
use Rattle.base.specs.Number.{◌⊕◌, ◌⊗◌, one_f}
use Rattle.base.specs.Sum.{◌!◌, add_where, sum_where}
use Rattle.base.specs.List.{at}
use Rattle.model.specs.Shape.{effects_of}
use Rattle.model.specs.declared.sizes.Shape.{Shape}
use Rattle.lambda.specs.Column.{is_entry, lambda_at}

-- the sum of f over the entries of row i of Λ, by column
unfoldable pub across_row : Shape → ℕ → (ℕ → Float) → Float
across_row s i f = sum_where (effects_of s) (λ j. is_entry s i j) f

-- the sum of f over the entries of column j of Λ, by row
unfoldable pub down_column : Shape → ℕ → (ℕ → Float) → Float
down_column s j f = sum_where (effects_of s) (λ i. is_entry s i j) f

-- λ_ij · u_j
unfoldable pub times_term : Shape → List Float → List Float → ℕ → ℕ → Float
times_term s theta u i j = lambda_at s theta i j ⊗ (u ! j)

-- entry i of Λu
unfoldable pub lambda_times_at : Shape → List Float → List Float → ℕ → Float
lambda_times_at s theta u i = across_row s i (times_term s theta u i)

-- λ_ij · v_i
unfoldable pub transposed_term : Shape → List Float → List Float → ℕ → ℕ → Float
transposed_term s theta v j i = lambda_at s theta i j ⊗ (v ! i)

-- entry j of Λ'v
unfoldable pub lambda_transposed_at : Shape → List Float → List Float → ℕ → Float
lambda_transposed_at s theta v j = down_column s j (transposed_term s theta v j)

-- s_ab · λ_bc, S being Z'WZ
unfoldable pub right_term : Shape → List Float → List Float → ℕ → ℕ → ℕ → Float
right_term s theta S a c b = at (effects_of s) S a b ⊗ lambda_at s theta b c

-- entry (a, c) of SΛ
unfoldable pub right_at : Shape → List Float → List Float → ℕ → ℕ → Float
right_at s theta S a c = down_column s c (right_term s theta S a c)

-- λ_ba · k_bc, K being (Z'WZ)Λ and given by its columns
unfoldable pub left_term : Shape → List Float → List Float → ℕ → ℕ → ℕ → Float
left_term s theta K a c b = lambda_at s theta b a ⊗ at (effects_of s) K c b

-- entry (a, c) of A: that of Λ'K, and 1 more on the diagonal
unfoldable pub system_at : Shape → List Float → List Float → ℕ → ℕ → Float
system_at s theta K a c = add_where (eqb a c) (down_column s a (left_term s theta K a c)) one_f

-- entry a of column c of SΛ
abbrev pub right_column_at : Shape → List Float → List Float → ℕ → ℕ → Float
right_column_at s theta S c a = right_at s theta S a c

-- what stands t places behind j in b, and x times the number of theta t places behind first
unfoldable pub column_added_at : List Float → ℕ → Float → List Float → ℕ → ℕ → Float
column_added_at theta first x b j t = (b ! (j + t)) ⊕ ((theta ! (first + t)) ⊗ x)
