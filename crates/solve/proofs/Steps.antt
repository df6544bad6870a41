-- What the calls of a solve leave, put together. Assumes nothing.
use mathlib.Core.Path.{◌≡◌, refl, sym, ap, ◌∙◌}
use mathlib.Core.List.{List}
use mathlib.Core.Logic.{inl}
use Prim.Native.Nat.{ℕ, ◌+◌, ◌-◌, ◌≤◌}
use native.Mathlib.Omega.{arith}
use lib.ListN.{length}
use lib.Ieee.{Float}
use Rattle.base.specs.List.{build, fill_to, entry_of}
use Rattle.base.specs.Sparse.{Sparse}
use Rattle.base.proofs.Fills.{build_is, fill_build, length_fill}
use Rattle.stored.specs.Stored.{zt_times_at}
use Rattle.model.specs.Shape.{effects_of}
use Rattle.model.specs.declared.sizes.Shape.{Shape}
use Rattle.lambda.specs.Product.{lambda_times_at, lambda_transposed_at}
use Rattle.rule.specs.Solve.{zt_times, side_of}
use Rattle.base.specs.Rows.{Wrote}
use Rattle.base.proofs.Rows.{part_is, part_wrote, only_row, only_wide, only_trans}
use Rattle.factor.specs.Substitution.{ldl_solve}
use Rattle.factor.specs.Triangle.{SameBelow}
use Rattle.factor.proofs.Solved.{ldl_solve_same}
use borrow.Rule.Slice.PartMut.{put_mid, mid_of, mid_len}
use Rattle.solve.specs.Effects.{EffectsLeft}
use Rattle.solve.specs.Ready.{Whatever, IsSide, SolvedSide}
use Rattle.rule.specs.Given.{design_of}

-- Z'v, then Λ' over it
pub side_made : (n q : ℕ) (shape : Shape) (theta : List Float) (zt : Sparse) (v before mid after : List Float) → q ≡ effects_of shape → length before ≡ q
    → mid ≡ fill_to q (zt_times_at zt n v) before → after ≡ fill_to q (lambda_transposed_at shape theta mid) mid → Whatever n shape theta zt (IsSide v after)
unfolding side_of zt_times
side_made n q shape theta zt v before mid after e h m a p offset x =
    let m' : mid ≡ build (zt_times_at zt n v) q = m ∙ fill_build q (zt_times_at zt n v) before h in
    let l : length mid ≡ q = ap length m ∙ length_fill q (zt_times_at zt n v) before ∙ h in
    a ∙ fill_build q (lambda_transposed_at shape theta mid) mid l ∙ rw (m', e) refl

-- a part that was lent twice: the side, then its solution
pub solved_made : (n q b e : ℕ) (shape : Shape) (theta : List Float) (zt : Sparse) (v l m ys zs : List Float) → q ≡ effects_of shape → e ≡ b + q → e ≤ length m
    → length ys ≡ length (mid_of b (e - b) m) → Whatever n shape theta zt (IsSide v ys) → length zs ≡ length (mid_of b (e - b) (put_mid b (e - b) m ys))
    → zs ≡ ldl_solve q l (mid_of b (e - b) (put_mid b (e - b) m ys)) → Whatever n shape theta zt (SolvedSide v l b m (put_mid b (e - b) (put_mid b (e - b) m ys) zs))
solved_made n q b e shape theta zt v l m ys zs f eb h ly y lz z p offset x F same =
    let w : Wrote b q ys m (put_mid b (e - b) m ys) = part_wrote b q e m ys eb h (ly ∙ mid_len b e m h ∙ omega arith) in
    let h' : e ≤ length (put_mid b (e - b) m ys) = omega (arith, w.only.len) in
    let w' : Wrote b q zs (put_mid b (e - b) m ys) (put_mid b (e - b) (put_mid b (e - b) m ys) zs) =
    part_wrote b q e (put_mid b (e - b) m ys) zs eb h' (lz ∙ mid_len b e (put_mid b (e - b) m ys) h' ∙ omega arith) in
    let same' : SameBelow q l F = rw f same in
    let z' : zs ≡ ldl_solve q F (side_of (design_of n p shape theta offset x zt) v) =
    z ∙ ap (ldl_solve q l) (part_is b q e (put_mid b (e - b) m ys) eb ∙ w.row' ∙ y p offset x) ∙ ldl_solve_same q l F same' (side_of (design_of n p shape theta offset x zt) v) in
    rw (← f) (record { row' = w'.row' ∙ z'; only = only_trans w.only w'.only })

-- u and b = Λu, in two parts one behind the other
pub effects_made : (shape : Shape) (theta : List Float) (at q : ℕ) (u m m' m'' : List Float) → length u ≡ q → at + q + q ≤ length m → Wrote at q (build (entry_of u) q) m m'
    → Wrote (at + q) q (build (lambda_times_at shape theta u) q) m' m'' → EffectsLeft shape theta at q u m m''
effects_made shape theta at q u m m' m'' l h w w' =
    record {
      first = only_row at q (at + q) q (inl (omega arith)) (omega (arith, w.only.len)) w'.only ∙ w.row' ∙ sym (build_is (entry_of u) q u l (λ i k. refl));
      second = w'.row';
      frame = only_trans (only_wide at q at (q + q) (omega arith) (omega arith) w.only) (only_wide (at + q) q at (q + q) (omega arith) (omega arith) w'.only);
    }
