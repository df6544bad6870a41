-- The nine lists of a fitted call that stand in one buffer, behind deviance and phi and one behind another. Assumes nothing.
use Rattle.std.specs.Prelude.{List, ℕ, ◌+◌, ◌*◌, Float}
use Rattle.base.specs.Rows.{row}
use Rattle.results.specs.Nine.{Results, nine}

-- each as long as the sizes ask
unfoldable pub lists_of : (n p q : ℕ) → List Float → Results
lists_of n p q xs =
    let se = 2 + p in
    let z = se + p in
    let u = z + p in
    let b = u + q in
    let mu = b + q in
    let eta = mu + n in
    let residual = eta + n in
    let v = residual + n in
    nine (row 2 p xs) (row se p xs) (row z p xs) (row u q xs) (row b q xs) (row mu n xs) (row eta n xs) (row residual n xs) (row v (p * p) xs)
