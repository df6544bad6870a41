-- What every sum has: its terms at the front of the terms, the rule's nodes, the marks, and a copy of û. Assumes nothing.
use Rattle.std.specs.Prelude.{Ok, Err}
use mathlib.Core.Path.{◌≡◌, refl, sym, ap, ◌∙◌}
use mathlib.Core.List.{List}
use mathlib.Core.Bool.{true, false}
use mathlib.Core.Logic.{inl}
use Prim.Native.Nat.{ℕ, ◌+◌, ◌-◌, ◌*◌, ◌^◌, ◌<◌, ◌≤◌}
use native.Mathlib.Nat.{zero-add, pow-le-pow_right}
use native.Mathlib.Omega.{arith}
use lib.Dec.{lit≤}
use lib.ListN.{length, take, drop}
use lib.Ieee.{Float}
use Rattle.base.specs.Number.{finite}
use Rattle.base.specs.Sum.{all_to, finite_at}
use Rattle.base.proofs.Sums.{all_of}
use Rattle.base.specs.List.{build, fill_to, fill_at}
use Rattle.base.specs.Rows.{row, Only, Wrote}
use Rattle.base.proofs.Fills.{build_cong, length_fill, fill_in}
use Rattle.base.proofs.Rows.{row_length, row_build, front_is, only_row, only_wide, fillat_only, fillat_wrote}
use Rattle.layout.specs.Layout.{WorkRoom}
use Rattle.layout.specs.WorkRows.{xbeta_row, deviance_row, mark_row}
use Rattle.layout.specs.WorkMatrices.{u_place, trial_u_place}
use Rattle.layout.specs.WorkTerms.{terms_length}
use Rattle.layout.proofs.Inside.{xbeta_in, deviance_in, u_in, trial_u_in}
use Rattle.quadrature.specs.Orders.{size_of}
use Rattle.quadrature.specs.Rules.{nodes_of, weights_of, padded, rule_of}
use Rattle.quadrature.specs.declared.orders.Order.{Order}
use Rattle.quadrature.specs.declared.orders.Order.TheVariants.{Three, Five, Seven, Nine, Eleven}
use Rattle.quadrature.specs.declared.rules.Rule.{Rule}
use Rattle.quadrature.specs.LogSum.{log_sum_exp}
use Rattle.quadrature.specs.declared.orders.Decline.TheVariants as decline
use Rattle.quadrature.proofs.Chosen.{size_from, size_to}
use Rattle.quadrature.proofs.Powers.{power_step}
use Rattle.quadrature.proofs.Padded.{node_padded, node_finite}
use Rattle.rule.specs.Given.{Given}
use Rattle.rule.specs.Stop.{Mode}
use Rattle.scale.specs.Tells.{entry_from}
use Rattle.agq_rule.specs.Point.{LogRow}
use Rattle.agq_rule.specs.Steps.{Integrated}
use Rattle.sums.specs.Stands.{Stands}
use Rattle.sums.specs.Summed.{summed_by, group_sum_of, tells_then, StepFrame, SumLeft, GroupLeft}
use Rattle.sums.specs.declared.answers.GroupSum.{GroupSum}

-- what was filled from the front on
pub front_filled : (count : ℕ) (f : ℕ → Float) (t t' : List Float) → count ≤ length t → t' ≡ fill_to count f t → row 0 count t' ≡ build f count
front_filled count f t t' h e =
    rw e
    (row_build 0 count (fill_to count f t) (omega (arith, length_fill count f t)) f
    (λ k l. rw (zero-add k) (fill_in count f t h k l)))

-- û has been copied to the trial effects; the row of û is as it was
module _ (n p q u trial : ℕ) (r m t : List Float) (lent : WorkRoom n p q r m t) (eu : u ≡ u_place p q) (et : trial ≡ trial_u_place p q) where
  abbrev copy : List Float
  copy = fill_at trial q (entry_from m u) m

  pub copied_only : Only trial (q + q + q) m copy
  copied_only = only_wide trial q trial (q + q + q) (omega arith) (omega arith) (fillat_only trial q q (entry_from m u) m (omega arith))

  pub copied_u : row u q copy ≡ row u q m
  copied_u = only_row u q trial q (inl (omega arith)) (u_in lent.sizes m eu lent.matrices_long) (fillat_only trial q q (entry_from m u) m (omega arith))

  pub copied_trial : row trial q copy ≡ row u q m
  copied_trial =
      (fillat_wrote trial q q (entry_from m u) m copy refl (omega arith) (omega arith) (trial_u_in lent.sizes m et lent.matrices_long)).row'
      ∙ sym (row_build u q m (u_in lent.sizes m eu lent.matrices_long) (entry_from m u) (λ k l. refl))

-- the rows that the mark leaves, where a point looks for them
module _ (n p q mark xbeta : ℕ) (marks r r1 m t : List Float) (lent : WorkRoom n p q r m t) (em : mark ≡ mark_row n) (ex : xbeta ≡ xbeta_row n) (wrote : Wrote mark n marks r r1) where
  pub marked_row : row (xbeta + n + n + n) n r1 ≡ marks
  marked_row = let e : xbeta + n + n + n ≡ mark = omega arith in rw e wrote.row'

  pub marked_fixed : row xbeta n r1 ≡ row (xbeta_row n) n r
  marked_fixed = rw ex (only_row (xbeta_row n) n mark n (inl (omega arith)) (xbeta_in lent.sizes r refl lent.rows_long) wrote.only)

  pub marked_devs : row (xbeta + n) n r1 ≡ row (deviance_row n) n r
  marked_devs =
      let e : xbeta + n ≡ deviance_row n = omega arith in
      rw e (only_row (deviance_row n) n mark n (inl (omega arith)) (deviance_in lent.sizes r refl lent.rows_long) wrote.only)

-- ---- the rule of an order, as its function answers
module _ (o : Order) (z : Rule) (e : z ≡ rule_of o) where
  pub rule_size : z.size ≡ size_of o
  unfolding rule_of
  rule_size = rw e refl

  pub rule_nodes : z.nodes ≡ padded (nodes_of o)
  unfolding rule_of
  rule_nodes = rw e refl

  pub rule_weights : z.weights ≡ padded (weights_of o)
  unfolding rule_of
  rule_weights = rw e refl

nodes_long : (o : Order) → size_of o ≤ length (padded (nodes_of o))
unfolding size_of nodes_of padded
nodes_long Three = lit≤ tt
nodes_long Five = lit≤ tt
nodes_long Seven = lit≤ tt
nodes_long Nine = lit≤ tt
nodes_long Eleven = lit≤ tt

weights_long : (o : Order) → size_of o ≤ length (padded (weights_of o))
unfolding size_of weights_of padded
weights_long Three = lit≤ tt
weights_long Five = lit≤ tt
weights_long Seven = lit≤ tt
weights_long Nine = lit≤ tt
weights_long Eleven = lit≤ tt

module _ (o : Order) (z : Rule) (e : z ≡ rule_of o) where
  pub rule_nodes_long : z.size ≤ length z.nodes
  rule_nodes_long = rw (rule_size o z e, rule_nodes o z e) (nodes_long o)

  pub rule_weights_long : z.size ≤ length z.weights
  rule_weights_long = rw (rule_size o z e, rule_weights o z e) (weights_long o)

  pub rule_logs_long : {logs : List Float} → LogRow o logs → z.size ≤ length logs
  rule_logs_long log = rw (rule_size o z e) log.long

  pub rule_some : 3 ≤ z.size
  rule_some = rw (rule_size o z e) (size_from o)

  pub rule_in : (t : List Float) → terms_length ≤ length t → z.size ≤ length t
  rule_in t h = omega (arith, rule_size o z e, size_to o)

  pub rule_finite : all_to z.size (finite_at z.nodes) ≡ true
  rule_finite =
      rw (rule_size o z e, rule_nodes o z e)
      (sym (all_of (finite_at (padded (nodes_of o))) (size_of o) (λ i l. ap finite (node_padded o i l) ∙ node_finite o i l)))

-- ---- a log sum of the terms f, which are the rule's
pub sum_made : (G : List Float → Given) (term : Given → Mode → ℕ → Float) (n p q count c : ℕ) (f : ℕ → Float) (r r' m m' t t' : List Float) (a : GroupSum) → c ≡ count → c ≤ 7000 → WorkRoom n p q r m t → t' ≡ fill_to c f t
    → a ≡ group_sum_of (row 0 c t') → ((x : List Float) (M : Mode) → Stands (G x) M r m → (i : ℕ) → i < count → f i ≡ term (G x) M i) → StepFrame n p q r r' m m' t t' → SumLeft G term n p q count r r' m m' t t' a
unfolding group_sum_of
sum_made G term n p q count c f r r' m m' t t' a ec few lent et ea same frame =
    let fits : c ≤ length t = omega (arith, lent.terms_long) in
    let long : length t' ≡ length t = ap length et ∙ length_fill c f t in
    record {
      told = λ x M s. ea ∙ ap group_sum_of (front_filled c f t t' fits et ∙ rw ec (build_cong f (term (G x) M) count (same x M s)));
      many = ap (λ (z : GroupSum). z.points) ea ∙ row_length 0 c t' (omega arith) ∙ ec;
      frame = frame;
    }

-- and what a group makes of it
pub group_of_sum : (G : List Float → Given) (term : Given → Mode → ℕ → Float) (rule : Given → Mode → (Float → Integrated) → Integrated) (n p q count : ℕ) (r r' m m' t t' : List Float) (a : GroupSum) → SumLeft G term n p q count r r' m m' t t' a
    → ((x : List Float) (M : Mode) → Stands (G x) M r m → (rest : Float → Integrated) → a ≡ group_sum_of (build (term (G x) M) count) → rule (G x) M rest ≡ tells_then a rest) → GroupLeft G rule n p q count r r' m m' t t' a
group_of_sum G term rule n p q count r r' m m' t t' a s h = record { told = λ x M st rest. h x M st rest (s.told x M st); few = omega (arith, s.many); frame = s.frame }

-- ---- the functions that every sum calls

-- one power more is still within the bound of the last
pub power_fits : (size i k power : ℕ) → 3 ≤ size → i < k → power ≡ size ^ i → size ^ k ≤ 7000 → power * size ≤ 7000
power_fits size i k power s l e h =
    let up : size ^ (i + 1) ≤ size ^ k = pow-le-pow_right {n = size} (omega arith) (omega arith) in
    omega (arith, power_step size i power e)

-- the log sum of the front of the terms, by its test
module _ (t : List Float) (count : ℕ) (s : Float) (h : count ≤ length t) (e : s ≡ log_sum_exp (take (count - 0) (drop 0 t))) where
  front : log_sum_exp (row 0 count t) ≡ s
  front = sym (e ∙ ap log_sum_exp (front_is count t))

  pub sum_found : finite s ≡ true → record { sum = Ok s; points = count } ≡ group_sum_of (row 0 count t)
  unfolding group_sum_of summed_by
  sum_found f = rw (front, f, row_length 0 count t (omega arith)) refl

  pub no_sum_found : finite s ≡ false → record { sum = Err decline.Sum; points = count } ≡ group_sum_of (row 0 count t)
  unfolding group_sum_of summed_by
  no_sum_found f = rw (front, f, row_length 0 count t (omega arith)) refl
