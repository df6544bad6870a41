-- dd of a point: Λu, then Zb of it, then the means, then the sum over the marked observations. Assumes nothing.
use mathlib.Core.Path.{◌≡◌, refl, ap, ◌∙◌}
use mathlib.Core.Logic.{inl, inr}
use mathlib.Core.List.{List}
use Prim.Native.Nat.{ℕ, ◌+◌, ◌≤◌}
use native.Mathlib.Omega.{arith}
use lib.ListN.{length}
use lib.Ieee.{Float}
use Rattle.base.specs.Sum.{sum_where}
use Rattle.base.specs.List.{build}
use Rattle.base.specs.Rows.{row, Only, Wrote}
use Rattle.base.specs.Sparse.{Sparse}
use Rattle.base.proofs.Rows.{only_row, only_trans}
use Rattle.model.specs.declared.sizes.Shape.{Shape}
use Rattle.family.specs.declared.carried.CarriedFamily.{CarriedFamily}
use Rattle.family.specs.declared.carried.CarriedLink.{CarriedLink}
use Rattle.stored.specs.Stored.{z_times_at}
use Rattle.lambda.specs.Product.{lambda_times_at}
use Rattle.points.specs.Gain.{marked, mean_over, entered}
use Rattle.agq.specs.Gained.{effects_at, predicted_at, gain_from, gain_in, GainedIn}

pub gain_made : (family : CarriedFamily) (link : CarriedLink) (shape : Shape) (theta : List Float) (Z : Sparse) (y weights offset : List Float) (n q xbeta trial : ℕ) (r r1 r' m m' bs : List Float) (g : Float)
    → xbeta + n + n + n + n ≤ length r
    → Wrote (trial + q) q (build (lambda_times_at shape theta (row trial q m)) q) m m' → bs ≡ row (trial + q) q m'
    → Wrote (xbeta + n + n) n (build (z_times_at Z q bs) n) r r1
    → Wrote (xbeta + n + n) n (build (mean_over link offset (row xbeta n r1) (row (xbeta + n + n) n r1) (row (xbeta + n + n + n) n r1)) n) r1 r'
    → g ≡ sum_where n (marked (row (xbeta + n + n + n) n r')) (entered family y weights (row (xbeta + n + n) n r') (row (xbeta + n) n r'))
    → GainedIn family link shape theta Z y weights offset n q xbeta trial r r' m m' g
unfolding effects_at predicted_at gain_from gain_in
gain_made family link shape theta Z y weights offset n q xbeta trial r r1 r' m m' bs g h wb e wz wm s =
    let effects : build (z_times_at Z q bs) n ≡ build (z_times_at Z q (build (lambda_times_at shape theta (row trial q m)) q)) n = ap (λ (x : List Float). build (z_times_at Z q x) n) (e ∙ wb.row') in
    let o : Only (xbeta + n + n) n r r' = only_trans wz.only wm.only in
    let marks : row (xbeta + n + n + n) n r' ≡ row (xbeta + n + n + n) n r = only_row (xbeta + n + n + n) n (xbeta + n + n) n (inr (omega arith)) (omega arith) o in
    let devs : row (xbeta + n) n r' ≡ row (xbeta + n) n r = only_row (xbeta + n) n (xbeta + n + n) n (inl (omega arith)) (omega arith) o in
    let means : row (xbeta + n + n) n r' ≡ build (mean_over link offset (row xbeta n r) (build (z_times_at Z q (build (lambda_times_at shape theta (row trial q m)) q)) n) (row (xbeta + n + n + n) n r)) n =
    wm.row'
    ∙ rw (only_row xbeta n (xbeta + n + n) n (inl (omega arith)) (omega arith) wz.only, only_row (xbeta + n + n + n) n (xbeta + n + n) n (inr (omega arith)) (omega arith) wz.only, wz.row', effects) refl in
    record { gain = s ∙ rw (marks, devs, means) refl; b = wb; means = record { row' = means; only = o } }

-- it reads Xβ, the deviances at the mode and the marks alone
module _ (family : CarriedFamily) (link : CarriedLink) (shape : Shape) (theta : List Float) (Z : Sparse) (y weights offset : List Float) (n q xbeta : ℕ) (r r1 : List Float) (hr : xbeta + n + n + n + n ≤ length r) where
  gain_at_lem : Only (xbeta + n + n) n r r1 → (e : List Float) → gain_in family link shape theta Z y weights offset n q xbeta r1 e ≡ gain_in family link shape theta Z y weights offset n q xbeta r e
  unfolding gain_in
  gain_at_lem o e =
      rw (only_row (xbeta + n + n + n) n (xbeta + n + n) n (inr (omega arith)) (omega arith) o, only_row xbeta n (xbeta + n + n) n (inl (omega arith)) (omega arith) o, only_row (xbeta + n) n (xbeta + n + n) n (inl (omega arith)) (omega arith) o)
      refl

  pub gain_kept : Only (xbeta + n + n) n r r1 → gain_in family link shape theta Z y weights offset n q xbeta r1 ≡ gain_in family link shape theta Z y weights offset n q xbeta r
  gain_kept o i e = gain_at_lem o e i
