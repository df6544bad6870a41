-- The log term of a point with one effect a group, as the work slices hold what it is made of. Assumes nothing.
use Rattle.std.specs.Prelude.{◌≡◌, List, ℕ, ◌+◌, Float}
use Rattle.base.specs.Number.{◌⊕◌}
use Rattle.base.specs.Sum.{◌!◌}
use Rattle.base.specs.List.{fill_to, fill_at}
use Rattle.base.specs.Rows.{row, Only}
use Rattle.base.specs.Sparse.{Sparse}
use Rattle.model.specs.declared.sizes.Shape.{Shape}
use Rattle.family.specs.declared.carried.CarriedFamily.{CarriedFamily}
use Rattle.family.specs.declared.carried.CarriedLink.{CarriedLink}
use Rattle.agq_rule.specs.Term.{delta_of, penalty_at, one_moved}
use Rattle.stored.specs.Lent.{sparse_in}
use Rattle.rule.specs.declared.given.Given.{Given}
use Rattle.agq.specs.Gained.{effects_at, gain_in}

-- the effects `before` with that of group g moved from û
unfoldable pub one_effects : ℕ → Float → Float → List Float → List Float → List Float
one_effects g sigma node u before = fill_at g 1 (λ _. one_moved sigma node (u ! g)) before

-- the log term with the effects t: log weight + delta
unfoldable pub one_term_in : CarriedFamily → CarriedLink → Shape → List Float → Sparse → List Float → List Float → List Float → ℕ → ℕ → ℕ → ℕ → Float → Float → List Float → List Float → List Float → Float
one_term_in family link shape theta Z y weights offset n q xbeta g logWeight inv u r t =
    logWeight ⊕ delta_of inv (gain_in family link shape theta Z y weights offset n q xbeta r t) (penalty_at t u g)

-- what `one_point` answers and leaves: the log term, the effects with Λ times them behind; nothing else changed but the row of means
pub record OneIn (family : CarriedFamily) (link : CarriedLink) (shape : Shape) (theta : List Float) (Z : Sparse) (y weights offset : List Float) (n q xbeta g : ℕ) (sigma node logWeight inv : Float) (u trial : ℕ) (r r' m m' : List Float) (x : Float) : Type 0 where
  pub term : x ≡ one_term_in family link shape theta Z y weights offset n q xbeta g logWeight inv (row u q m) r (one_effects g sigma node (row u q m) (row trial q m))
  pub effects : row trial q m' ≡ one_effects g sigma node (row u q m) (row trial q m)
  pub b : row (trial + q) q m' ≡ effects_at shape theta q (one_effects g sigma node (row u q m) (row trial q m))
  pub only : Only trial (q + q) m m'
  pub in_r : Only (xbeta + n + n) n r r'

-- the log term at node i, from the logarithms of the weights
unfoldable pub one_term_at_node : CarriedFamily → CarriedLink → Shape → List Float → Sparse → List Float → List Float → List Float → ℕ → ℕ → ℕ → ℕ → Float → Float → List Float → List Float → List Float → List Float → List Float → ℕ → Float
one_term_at_node family link shape theta Z y weights offset n q xbeta g sigma inv u r before nodes logs i =
    one_term_in family link shape theta Z y weights offset n q xbeta g (logs ! i) inv u r (one_effects g sigma (nodes ! i) u before)

-- what `one_terms` leaves: the log terms, and nothing else changed but the trial effects with Λ times them, and the row of means
pub record OnesIn (f : ℕ → Float) (n q xbeta trial size : ℕ) (r r' m m' t t' : List Float) : Type 0 where
  pub terms : t' ≡ fill_to size f t
  pub in_m : Only trial (q + q) m m'
  pub in_r : Only (xbeta + n + n) n r r'

-- what `one_point` answers and leaves of what is given as it is lent
abbrev pub OneFor : Given → (xbeta g : ℕ) → (sigma node logWeight inv : Float) → (u trial : ℕ) → (r r' m m' : List Float) → Float → Type 0
OneFor d xbeta g sigma node logWeight inv u trial r r' m m' x =
    OneIn d.family d.link d.design.shape d.design.theta.now (sparse_in d.design.zt) d.y.now d.weights.now d.design.offset.now d.design.n d.design.q xbeta g sigma
    node logWeight inv u trial r r' m m' x

-- the log term at node i of what is given as it is lent
abbrev pub one_term_for : Given → (xbeta g : ℕ) → (sigma inv : Float) → (u r before nodes logs : List Float) → ℕ → Float
one_term_for d xbeta g sigma inv u r before nodes logs =
    one_term_at_node d.family d.link d.design.shape d.design.theta.now (sparse_in d.design.zt) d.y.now d.weights.now d.design.offset.now d.design.n d.design.q
    xbeta g sigma inv u r before nodes logs
