-- The caps of the inner fit with its quadrature: the run's, and of points at most 11 a group of one effect, 400 a group of more, 7,000 over several blocks; and its accepted tries, which points are not. Assumes nothing.
use Rattle.quadrature.specs.declared.orders.Decline.{Decline}
use Rattle.std.specs.Prelude.{Result, Ok, Err}
use mathlib.Core.Path.{◌≡◌, refl}
use mathlib.Core.Bool.{Bool, true, false, cond}
use mathlib.Core.List.{List, [], ◌++◌}
use Prim.Native.Nat.{ℕ, zero, suc, ◌+◌, ◌*◌, ◌^◌, ◌≤◌}
use native.Mathlib.Nat.{mul-suc}
use native.Mathlib.Omega.{arith}
use borrow.Author.Tests.{eqb-false}
use lib.Dec.{eqb}
use lib.ListN.{length, replicate}
use lib.Ieee.{Float}
use Rattle.base.specs.List.{build, at}
use Rattle.base.specs.Sum.{◌!!◌}
use Rattle.base.specs.Number.{zero_f, finite}
use Rattle.base.proofs.Fills.{build_length}
use Rattle.model.specs.Account.{AtMost, Accepts, inner_cap}
use Rattle.model.specs.Caps.{points_cap, inner_cap_of}
use Rattle.model.specs.Items.{Item, a_point, is_fit, is_solve, is_try, is_point, is_ok, count_of, tally}
use Rattle.model.specs.Shape.{good_shape}
use Rattle.model.proofs.Accounts.{caps_trans}
use Rattle.model.proofs.Caps.{inner_caps}
use Rattle.model.proofs.Parts.{parts_add_up, tally_parts, parts_capped}
use Rattle.model.proofs.Shapes.{in_range_lem}
use Rattle.model.proofs.Tallies.{count_append, count_same}
use Rattle.family.specs.Carried.{link_of}
use Rattle.quadrature.specs.LogSum.{log_sum_exp}
use Rattle.quadrature.specs.Orders.{size_of, product_order, joint_order}
use Rattle.quadrature.specs.declared.orders.Order.{Order}
use Rattle.quadrature.proofs.Chosen.{size_to}
use Rattle.quadrature.proofs.OrderFacts.{product_within, joint_within}
use Rattle.rule.specs.Given.{Given, q_of}
use Rattle.rule.specs.Stop.{Mode}
use Rattle.rule.specs.Run.{Ending, stopped, failed, run_of}
use Rattle.rule.proofs.Accepted.{stuck_in, run_paid}
use Rattle.rule.proofs.Caps.{run_capped, run_points}
use Rattle.agq_rule.specs.Scale.{Scale, scaled, unscaled, sigma_of, bad_diagonal, block_scale, section_of}
use Rattle.agq_rule.specs.Term.{one_term, group_term, joint_term}
use Rattle.agq_rule.specs.Steps.{Integrated, answers, points_before, after_sum, sum_then, terms_then, after_diagonal, one_group, after_scale, several_group, group_by, with_sum, groups_from, product_with, product_step, joint_total, after_joint, joint_with, joint_step, step_by, quadrature_of}
use Rattle.agq_rule.specs.Inner.{with_points, after_run, inner_with, inner_of}

-- ---- what a quadrature does is points
-- c points at most, and nothing else
pub record Points (c : ℕ) (is : List Item) : Type 0 where
  pub fits : count_of is_fit is ≡ 0
  pub solves : count_of is_solve is ≡ 0
  pub tries : count_of is_try is ≡ 0
  pub points : count_of is_point is ≤ c

no_points : (c : ℕ) → Points c []
unfolding count_of
no_points c = record { fits = refl; solves = refl; tries = refl; points = omega arith }

-- n points, then others
points_then : (n c : ℕ) (is : List Item) → Points c is → Points (n + c) (replicate n a_point ++ is)
points_then n c is p =
    record {
      fits = omega (arith, p.fits, count_append is_fit (replicate n a_point) is, count_same is_fit n a_point);
      solves = omega (arith, p.solves, count_append is_solve (replicate n a_point) is, count_same is_solve n a_point);
      tries = omega (arith, p.tries, count_append is_try (replicate n a_point) is, count_same is_try n a_point);
      points = omega (arith, p.points, count_append is_point (replicate n a_point) is, count_same is_point n a_point);
    }

-- a higher cap
points_more : {c d : ℕ} {is : List Item} → c ≤ d → Points c is → Points d is
points_more l p = record { fits = p.fits; solves = p.solves; tries = p.tries; points = omega (arith, p.points) }

-- ---- a log sum
module _ (c : ℕ) (rest : Float → Integrated) (h : (s : Float) → Points c (rest s).items) where
  sum_points : (b : Bool) (s : Float) → Points c (after_sum b s rest).items
  unfolding after_sum answers
  sum_points false s = no_points c
  sum_points true s = h s

  -- w terms at most
  terms_points : (w n : ℕ) (f : ℕ → Float) → n ≤ w → Points (w + c) (terms_then (build f n) rest).items
  unfolding terms_then points_before sum_then
  terms_points w n f l =
      let s = log_sum_exp (build f n) in
      points_more (omega (arith, build_length f n)) (points_then (length (build f n)) c (after_sum (finite s) s rest).items (sum_points (finite s) s))

  -- ---- a group
  module _ (G : Given) (M : Mode) (phi : Float) (o : Order) where
    one_points : (b : Bool) (w g : ℕ) (a : Float) → size_of o ≤ w → Points (w + c) (after_diagonal b G M phi o g a rest).items
    unfolding after_diagonal answers
    one_points true w g a l = no_points (w + c)
    one_points false w g a l = terms_points w (size_of o) (one_term G M phi o g (sigma_of a)) l

    several_points : (x : Scale) (w s k : ℕ) → size_of o ^ k ≤ w → Points (w + c) (after_scale x G M phi o s k rest).items
    unfolding after_scale answers
    several_points (unscaled d) w s k l = no_points (w + c)
    several_points (scaled L) w s k l = terms_points w (size_of o ^ k) (group_term G M phi o s k L) l

    group_points : (b : Bool) (w k g : ℕ) → (b ≡ true → size_of o ≤ w) → (b ≡ false → size_of o ^ k ≤ w) → Points (w + c) (group_by b G M phi o k g rest).items
    unfolding group_by one_group several_group
    group_points true w k g l l' =
        let a = at (q_of G.design) M.system g g in
        one_points (bad_diagonal a) w g a (l refl)
    group_points false w k g l l' =
        several_points (block_scale k (section_of (q_of G.design) M.system (g * k) k)) w (g * k) k (l' refl)

-- ---- the groups of one block, w points at most in each
groups_points : (G : Given) (M : Mode) (phi : Float) (o : Order) (k w : ℕ) → (eqb k 1 ≡ true → size_of o ≤ w) → (eqb k 1 ≡ false → size_of o ^ k ≤ w) → (left g : ℕ) (total : Float)
    → Points (w * left) (groups_from G M phi o k left g total).items
unfolding groups_from answers
groups_points G M phi o k w l l' zero g total = no_points (w * 0)
groups_points G M phi o k w l l' (suc left) g total =
    points_more (omega (arith, mul-suc w left))
    (group_points (w * left) (λ s. groups_from G M phi o k left (g + 1) (with_sum total s)) (λ s. groups_points G M phi o k w l l' left (g + 1) (with_sum total s)) G M phi o (eqb k 1) w k g l l')

-- the cap of a group by its effects
one_cap : (o : Order) (b : Bool) → b ≡ true → size_of o ≤ cond b 11 400
one_cap o true e = size_to o
one_cap o false e = omega (arith, size_to o)

several_cap : (wish k : ℕ) (o : Order) (b : Bool) → product_order wish k ≡ Ok o → eqb k 1 ≡ b → b ≡ false → size_of o ^ k ≤ cond b 11 400
several_cap wish k o true e t h = absurd (let z : ◌≡◌ {A = ℕ} 0 1 = cc in omega arith)
several_cap wish k o false e t h = product_within wish k o (eqb-false k 1 t) e

module _ (G : Given) (wish : ℕ) (M : Mode) (phi : Float) where
  product_points : (m k : ℕ) (c : Result Order Decline) → product_order wish k ≡ c → Points (cond (eqb k 1) 11 400 * m) (product_with c G M phi m k).items
  unfolding product_with answers
  product_points m k (Err d) e = no_points (cond (eqb k 1) 11 400 * m)
  product_points m k (Ok o) e =
      groups_points G M phi o k (cond (eqb k 1) 11 400) (one_cap o (eqb k 1)) (several_cap wish k o (eqb k 1) e refl) m 0 zero_f

  -- ---- several blocks
  scale_points : (x : Scale) (o : Order) → size_of o ^ q_of G.design ≤ 7000 → Points 7000 (after_joint x G M phi o).items
  unfolding after_joint joint_total answers
  scale_points (unscaled d) o l = no_points 7000
  scale_points (scaled L) o l =
      points_more (omega arith) (terms_points 0 (joint_total M o) (λ s. no_points 0) 7000 (size_of o ^ q_of G.design) (joint_term G M phi o L) l)

  joint_points : (c : Result Order Decline) → joint_order wish (q_of G.design) ≡ c → Points 7000 (joint_with c G M phi).items
  unfolding joint_with answers
  joint_points (Err d) e = no_points 7000
  joint_points (Ok o) e = scale_points (block_scale (q_of G.design) M.system) o (joint_within wish (q_of G.design) o e).1

  -- ---- either
  step_points : (b : Bool) → Points (cond b (cond (eqb (G.design.shape.k !! 0) 1) 11 400 * (G.design.shape.m !! 0)) 7000) (step_by b G wish M phi).items
  unfolding step_by product_step joint_step
  step_points true =
      let m = G.design.shape.m !! 0 in
      let k = G.design.shape.k !! 0 in
      product_points m k (product_order wish k) refl
  step_points false = joint_points (joint_order wish (q_of G.design)) refl

  -- every item of a quadrature is a point, and there are no more than the shape's cap
  pub all_points : Points (points_cap G.design.shape) (quadrature_of G wish M phi).items
  unfolding quadrature_of points_cap
  all_points = step_points (eqb G.design.shape.count 1)

  pub points_capped : count_of is_point (quadrature_of G wish M phi).items ≤ points_cap G.design.shape
  points_capped = all_points.points

-- ---- no point is an accepted try, nor a solve
points_none : {c : ℕ} {is : List Item} → Points c is → (count_of is_solve is ≡ 0) × (count_of is_ok is ≡ 0)
points_none {c} {is} p = (p.solves, omega (arith, p.tries, parts_add_up is))

-- ---- the inner fit: the run's caps, and those of the points
module _ (G : Given) (wish : ℕ) (phi : Float) (L : ℕ) (mu : List Float) where
  -- one accepted try for each solve, and one solve more where the run ended with 12
  paid_by : (x : Ending) (is : List Item) → count_of is_solve is ≡ count_of is_ok is + stuck_in x
      → count_of is_solve (after_run x G wish phi is).items ≡ count_of is_ok (after_run x G wish phi is).items + stuck_in x
  unfolding after_run with_points
  paid_by (failed e) is q = q
  paid_by (stopped M) is q =
      let js = (quadrature_of G wish M phi).items in
      let none = points_none (all_points G wish M phi) in
      omega (arith, q, none.0, none.1, count_append is_solve is js, count_append is_ok is js)

  pub inner_paid : count_of is_solve (inner_of G wish phi L mu).items ≡ count_of is_ok (inner_of G wish phi L mu).items + stuck_in (run_of G phi L mu).ending
  unfolding inner_of inner_with
  inner_paid = paid_by (run_of G phi L mu).ending (run_of G phi L mu).items (run_paid G phi L mu)

  -- accepted never exceed the solves
  pub inner_accepted : Accepts (tally (inner_of G wish phi L mu).items)
  unfolding tally
  inner_accepted = omega (arith, inner_paid)

  by_ending : (x : Ending) → count_of is_solve (run_of G phi L mu).items ≡ count_of is_ok (run_of G phi L mu).items + stuck_in x
      → AtMost (inner_cap_of G.design.shape (link_of G.link) L) (tally (after_run x G wish phi (run_of G phi L mu).items).items)
  unfolding after_run with_points tally inner_cap_of
  by_ending (failed e) q = run_capped G phi L mu
  by_ending (stopped M) q =
      let is = (run_of G phi L mu).items in
      let js = (quadrature_of G wish M phi).items in
      let r = run_capped G phi L mu in
      let p = all_points G wish M phi in
      parts_capped _ _ (tally_parts (is ++ js)) (omega (arith, paid_by (stopped M) is q)) (omega (arith, r.fits, p.fits, count_append is_fit is js))
      (omega (arith, r.solves, p.solves, count_append is_solve is js)) (omega (arith, r.tries, p.tries, count_append is_try is js))
      (omega (arith, run_points G phi L mu, p.points, count_append is_point is js)) (omega arith) (omega arith) (omega arith) (omega arith)

  pub inner_capped : AtMost (inner_cap_of G.design.shape (link_of G.link) L) (tally (inner_of G wish phi L mu).items)
  unfolding inner_of inner_with
  inner_capped = by_ending (run_of G phi L mu).ending (run_paid G phi L mu)

  -- of a good shape, whatever it is: 1000 solves, 100000 tries, 7000 points
  pub inner_within : good_shape G.design.shape ≡ true → L ≤ 1000 → AtMost inner_cap (tally (inner_of G wish phi L mu).items)
  inner_within g l = caps_trans (inner_caps G.design.shape (link_of G.link) L (in_range_lem G.design.shape g) l) inner_capped
