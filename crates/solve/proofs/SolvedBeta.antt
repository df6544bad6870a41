-- The normal matrix's factor and β in parts of the work slices. Assumes nothing.
use Rattle.std.specs.Prelude.{Result, ⊤}
use mathlib.Core.Path.{◌≡◌, refl, ap, ◌∙◌}
use mathlib.Core.List.{List}
use Prim.Native.Nat.{ℕ, ◌+◌, ◌-◌, ◌*◌, ◌≤◌}
use native.Mathlib.Omega.{arith}
use lib.ListN.{length}
use lib.Ieee.{Float}
use borrow.Rule.Slice.PartMut.{put_mid, mid_of, mid_len}
use Rattle.base.specs.List.{at}
use Rattle.base.specs.InPlace.{fill_by}
use Rattle.base.specs.Rows.{row, Wrote}
use Rattle.base.proofs.Rows.{part_wrote, row_length}
use Rattle.factor.specs.Factor.{cholesky_rule, cholesky_of, CholeskyLeaves}
use Rattle.factor.specs.Substitution.{cholesky_solve}
use Rattle.factor.specs.Triangle.{SameBelow, reach}
use Rattle.factor.proofs.CholeskyTextbook.{cholesky_lower, cholesky_end_same}
use Rattle.factor.proofs.Solved.{cholesky_solve_same}
use Rattle.solve.specs.Root.{RootOf, SolvedBeta}
use Rattle.base.proofs.Rows.{part_is}

pub root_made : (b p e : ℕ) (t ys : List Float) (r : Result ⊤ ℕ) → e ≡ b + p * p → e ≤ length t → length ys ≡ length (mid_of b (e - b) t)
    → CholeskyLeaves p (mid_of b (e - b) t) r ys → RootOf b p t (put_mid b (e - b) t ys) r
unfolding reach cholesky_of
root_made b p e t ys r eb h l d N n ab =
    let w : Wrote b (p * p) ys t (put_mid b (e - b) t ys) = part_wrote b (p * p) e t ys eb h (l ∙ mid_len b e t h ∙ omega arith) in
    let A : mid_of b (e - b) t ≡ row b (p * p) t = part_is b (p * p) e t eb in
    let d' : CholeskyLeaves p (row b (p * p) t) r ys = rw A at d in
    let same : SameBelow p (cholesky_of p (row b (p * p) t)) (cholesky_of p N) =
    cholesky_lower p (row b (p * p) t) N (omega (arith, row_length b (p * p) t (omega arith))) n ab in
    record {
      end = d'.end ∙ cholesky_end_same p (row b (p * p) t) N (cholesky_of p (row b (p * p) t)) (cholesky_of p N) ab same;
      lower = λ q i j a c.
          let x : ys ≡ fill_by (cholesky_rule p) (p * p) (row b (p * p) t) = d'.out ∙ rw q refl in
          ap (λ (z : List Float). at p z i j) (w.row' ∙ x) ∙ same i j a c;
      frame = w.only;
    }

pub beta_made : (b p e : ℕ) (l m ys : List Float) → e ≡ b + p → e ≤ length m → length ys ≡ length (mid_of b (e - b) m) → ys ≡ cholesky_solve p l (mid_of b (e - b) m)
    → SolvedBeta b p l m (put_mid b (e - b) m ys)
beta_made b p e l m ys eb h k y C same =
    let w : Wrote b p ys m (put_mid b (e - b) m ys) = part_wrote b p e m ys eb h (k ∙ mid_len b e m h ∙ omega arith) in
    record { row' = w.row' ∙ y ∙ ap (cholesky_solve p l) (part_is b p e m eb) ∙ cholesky_solve_same p l C same (row b p m); only = w.only }
