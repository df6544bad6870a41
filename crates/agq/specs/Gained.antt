-- dd of a point as the work slices hold what it is made of. Assumes nothing.
use Rattle.std.specs.Prelude.{◌≡◌, true, List, ℕ, ◌+◌, ◌≤◌, length, Float}
use Rattle.base.specs.Sum.{sum_where}
use Rattle.base.specs.List.{build}
use Rattle.base.specs.Rows.{row, Wrote}
use Rattle.base.specs.Sparse.{Sparse, Rows}
use Rattle.model.specs.Shape.{effects_of, theta_length, good_shape}
use Rattle.model.specs.declared.sizes.Shape.{Shape}
use Rattle.family.specs.declared.carried.CarriedFamily.{CarriedFamily}
use Rattle.family.specs.declared.carried.CarriedLink.{CarriedLink}
use Rattle.stored.specs.Stored.{z_times_at}
use Rattle.lambda.specs.Product.{lambda_times_at}
use Rattle.working.specs.Optional.{Optional}
use Rattle.stored.specs.Lent.{sparse_in}
use Rattle.rule.specs.declared.given.Given.{Given}
use Rattle.points.specs.Gain.{marked, mean_over, entered}

-- the sizes that a point asks for
pub record Room (shape : Shape) (theta : List Float) (starts columns : List ℕ) (values y offset : List Float) (n q xbeta : ℕ) (r : List Float) (trial : ℕ) (m : List Float) : Type 0 where
  pub good : good_shape shape ≡ true
  pub effects : q ≡ effects_of shape
  pub thetas : theta_length shape ≤ length theta
  pub rows : Rows starts columns values q n
  pub responses : n ≤ length y
  pub offsets : Optional n offset
  pub in_r : xbeta + n + n + n + n ≤ length r
  pub in_m : trial + q + q ≤ length m

-- the same of what is given as it is lent
abbrev pub RoomFor : Given → ℕ → (r : List Float) → ℕ → (m : List Float) → Type 0
RoomFor g xbeta r trial m =
    Room g.design.shape g.design.theta.now g.design.zt.starts.now g.design.zt.columns.now g.design.zt.values.now g.y.now g.design.offset.now g.design.n
    g.design.q xbeta r trial m

-- Λu
unfoldable pub effects_at : Shape → List Float → ℕ → List Float → List Float
effects_at shape theta q u = build (lambda_times_at shape theta u) q

-- Z(Λu)
unfoldable pub predicted_at : Shape → List Float → Sparse → ℕ → ℕ → List Float → List Float
predicted_at shape theta Z n q u = build (z_times_at Z q (effects_at shape theta q u)) n

-- dd, the marks and the rows Xβ, Zb and deviances at the mode being given
unfoldable pub gain_from : CarriedFamily → CarriedLink → List Float → List Float → List Float → ℕ → List Float → List Float → List Float → List Float → Float
gain_from family link y weights offset n marks xb zb devs = sum_where n (marked marks) (entered family y weights (build (mean_over link offset xb zb marks) n) devs)

-- dd of the effects t: the rows of r at xbeta are Xβ, the deviances at the mode, and (the fourth) the marks
unfoldable pub gain_in : CarriedFamily → CarriedLink → Shape → List Float → Sparse → List Float → List Float → List Float → ℕ → ℕ → ℕ → List Float → List Float → Float
gain_in family link shape theta Z y weights offset n q xbeta r t =
    gain_from family link y weights offset n (row (xbeta + n + n + n) n r) (row xbeta n r) (predicted_at shape theta Z n q t) (row (xbeta + n) n r)

-- what `point_gain` answers and leaves: dd, Λu behind u, and the means of the marked observations over their Zb
pub record GainedIn (family : CarriedFamily) (link : CarriedLink) (shape : Shape) (theta : List Float) (Z : Sparse) (y weights offset : List Float) (n q xbeta trial : ℕ) (r r' m m' : List Float) (g : Float) : Type 0 where
  pub gain : g ≡ gain_in family link shape theta Z y weights offset n q xbeta r (row trial q m)
  pub b : Wrote (trial + q) q (effects_at shape theta q (row trial q m)) m m'
  pub means : Wrote (xbeta + n + n) n (build (mean_over link offset (row xbeta n r) (predicted_at shape theta Z n q (row trial q m)) (row (xbeta + n + n + n) n r)) n) r r'

-- dd of what is given as it is lent
abbrev pub gain_for : Given → ℕ → List Float → List Float → Float
gain_for g xbeta r t =
    gain_in g.family g.link g.design.shape g.design.theta.now (sparse_in g.design.zt) g.y.now g.weights.now g.design.offset.now g.design.n g.design.q xbeta r t

-- what `point_gain` answers and leaves of it
abbrev pub GainedFor : Given → ℕ → ℕ → (r r' m m' : List Float) → Float → Type 0
GainedFor g xbeta trial r r' m m' d =
    GainedIn g.family g.link g.design.shape g.design.theta.now (sparse_in g.design.zt) g.y.now g.weights.now g.design.offset.now g.design.n g.design.q xbeta
    trial r r' m m' d
