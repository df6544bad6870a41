-- The first stage of an iteration, put together from its calls. Assumes nothing.
use mathlib.Core.Path.{◌≡◌, refl, ap, ◌∙◌}
use mathlib.Core.List.{List}
use mathlib.Core.Bool.{Bool}
use mathlib.Core.Logic.{inl}
use Prim.Native.Nat.{ℕ, ◌+◌, ◌-◌, ◌≤◌}
use native.Mathlib.Omega.{arith}
use lib.ListN.{length, take, drop}
use lib.Ieee.{Float}
use Rattle.base.specs.Sum.{product_at}
use Rattle.base.specs.List.{build, fill_at}
use Rattle.base.specs.Rows.{row, Only, OnlyTwo, Wrote}
use Rattle.base.proofs.Fills.{length_fillat}
use Rattle.base.proofs.Rows.{part_is, fillat_wrote, only_row, only_wide, only_trans}
use Rattle.base.proofs.TwoRows.{two_of}
use Rattle.layout.specs.WorkRows.{second_eta_row, mu_row, raw_row, weighted_row, working_row}
use Rattle.layout.specs.WorkTerms.{w_place, z_place, unsolved_place}
use Rattle.layout.proofs.Bounds.{square_few}
use Rattle.family.specs.declared.carried.CarriedFamily.{CarriedFamily}
use Rattle.family.specs.declared.carried.CarriedLink.{CarriedLink}
use Rattle.rule.specs.Given.{Given, n_of}
use Rattle.rule.specs.Working.{working_weight_at, working_response_at, target_at, working_weights, working_responses, targets, weighted_targets}
use Rattle.stages.specs.Held.{eta_row, Held}
use Rattle.stages.specs.Weighed.{WeighRoom, Weighed, Weighs}
use Rattle.stages.proofs.HeldRows.{mean_part, eta_part}

-- two rows that were filled, the one at c behind the one at a
module _ (a c n : ℕ) (f g : ℕ → Float) (v : List Float) (apart : a + n ≤ c) (fits : c + n ≤ length v) where
  front_wrote : Wrote a n (build f n) v (fill_at a n f v)
  front_wrote = fillat_wrote a n n f v (fill_at a n f v) refl (omega arith) (omega arith) (omega arith)

  back_wrote : Wrote c n (build g n) (fill_at a n f v) (fill_at c n g (fill_at a n f v))
  back_wrote = fillat_wrote c n n g (fill_at a n f v) (fill_at c n g (fill_at a n f v)) refl (omega arith) (omega arith) (omega (arith, length_fillat a n f v))

  front_row : row a n (fill_at c n g (fill_at a n f v)) ≡ build f n
  front_row = only_row a n c n (inl apart) (omega (arith, length_fillat a n f v)) back_wrote.only ∙ front_wrote.row'

  back_row : row c n (fill_at c n g (fill_at a n f v)) ≡ build g n
  back_row = back_wrote.row'

  both_two : OnlyTwo a n c n v (fill_at c n g (fill_at a n f v))
  both_two = two_of a n c n front_wrote.only back_wrote.only

  both_only : (m : ℕ) → c + n ≤ a + m → Only a m v (fill_at c n g (fill_at a n f v))
  both_only m h = only_trans (only_wide a n a m (omega arith) (omega arith) front_wrote.only) (only_wide c n a m (omega arith) h back_wrote.only)

-- what the two passes leave, by the rule's words
weighed_rows : (G : Given) (phi : Float) (q : ℕ) (eta mu r r' t t' : List Float) → z_place (n_of G) q + n_of G ≤ length t → working_row (n_of G) + n_of G ≤ length r
    → t' ≡ fill_at (z_place (n_of G) q) (n_of G) (working_response_at G.link G.y eta mu) (fill_at (w_place q) (n_of G) (working_weight_at G.family G.link G.weights phi eta mu) t)
    → r' ≡ fill_at (working_row (n_of G)) (n_of G) (target_at G.design.offset (row (z_place (n_of G) q) (n_of G) t')) (fill_at (weighted_row (n_of G)) (n_of G) (product_at (row (w_place q) (n_of G) t') (build (target_at G.design.offset (row (z_place (n_of G) q) (n_of G) t')) (n_of G))) r)
    → Weighed G phi q eta mu r r' t t'
unfolding working_weights working_responses targets weighted_targets
weighed_rows G phi q eta mu r r' t t' ht hr et er =
    let n = n_of G in
    let f = working_weight_at G.family G.link G.weights phi eta mu in
    let g = working_response_at G.link G.y eta mu in
    let w : row (w_place q) n t' ≡ build f n = ap (row (w_place q) n) et ∙ front_row (w_place q) (z_place n q) n f g t (omega arith) ht in
    let z : row (z_place n q) n t' ≡ build g n = ap (row (z_place n q) n) et ∙ back_row (w_place q) (z_place n q) n f g t (omega arith) ht in
    let k = target_at G.design.offset (build g n) in
    let er' : r' ≡ fill_at (working_row n) n k (fill_at (weighted_row n) n (product_at (build f n) (build k n)) r) = rw (w, z) at er in
    let h = product_at (build f n) (build k n) in
    record {
      w = w;
      z = z;
      target = ap (row (working_row n) n) er' ∙ back_row (weighted_row n) (working_row n) n h k r (omega arith) hr;
      weighted = ap (row (weighted_row n) n) er' ∙ front_row (weighted_row n) (working_row n) n h k r (omega arith) hr;
      rows_only = rw er' (both_two (weighted_row n) (working_row n) n h k r (omega arith) hr);
      terms_only = rw et (both_only (w_place q) (z_place n q) n f g t (omega arith) ht (n + n) (omega arith));
    }

-- the same from the parts that were lent, for each design
pub weighed_made : (family : CarriedFamily) (link : CarriedLink) (phi : Float) (y weights offset : List Float) (n q : ℕ) (inSecond : Bool) (second mu raw w z unsolved weighted working : ℕ) (eta r r' t t' : List Float)
    → second ≡ second_eta_row n → mu ≡ mu_row n → raw ≡ raw_row n → w ≡ w_place q → z ≡ z_place n q → unsolved ≡ unsolved_place n q → weighted ≡ weighted_row n → working ≡ working_row n
    → WeighRoom n q y offset r t → Held n inSecond (take (second - 0) (drop 0 r)) (take (mu - second) (drop second r)) eta
    → t' ≡ fill_at z n (working_response_at link y eta (take (raw - mu) (drop mu r))) (fill_at w n (working_weight_at family link weights phi eta (take (raw - mu) (drop mu r))) t)
    → r' ≡ fill_at working n (target_at offset (take (unsolved - z) (drop z t'))) (fill_at weighted n (product_at (take (z - w) (drop w t')) (build (target_at offset (take (unsolved - z) (drop z t'))) n)) r)
    → Weighs family link phi y weights offset n q (row (eta_row n inSecond) n r) (row (mu_row n) n r) r r' t t'
weighed_made family link phi y weights offset n q inSecond second mu raw w z unsolved weighted working eta r r' t t' es em ea ew ez eu eg ek room held et er D en eo =
    let means = mean_part n inSecond second mu raw eta r es em ea room.rows_long in
    let w_part : take (z - w) (drop w t') ≡ row (w_place q) n t' = part_is w n z t' (omega arith) ∙ rw ew refl in
    let z_part : take (unsolved - z) (drop z t') ≡ row (z_place n q) n t' = part_is z n unsolved t' (omega arith) ∙ rw ez refl in
    let at = eta_part n inSecond second mu raw eta r es em ea room.rows_long held in
    let et' : t' ≡ fill_at (z_place n q) n (working_response_at link y (row (eta_row n inSecond) n r) (row (mu_row n) n r)) (fill_at (w_place q) n (working_weight_at family link weights phi (row (eta_row n inSecond) n r) (row (mu_row n) n r)) t) = rw (means, at, ez, ew) at et in
    let er' : r' ≡ fill_at (working_row n) n (target_at offset (row (z_place n q) n t')) (fill_at (weighted_row n) n (product_at (row (w_place q) n t') (build (target_at offset (row (z_place n q) n t')) n)) r) = rw (z_part, w_part, ek, eg) at er in
    weighed_rows (record { family = family; link = link; y = y; weights = weights; design = D }) phi q (row (eta_row n inSecond) n r) (row (mu_row n) n r) r r' t t'
    (rw en (omega (arith, room.terms_long, square_few room.q_few, room.n_few)))
    (rw en (omega (arith, room.rows_long)))
    (rw en et')
    (rw (en, eo) er')
