-- What a step leaves as it was, and that the work slices still hold the mode. Assumes nothing.
use Rattle.quadrature.specs.declared.orders.Decline.{Decline}
use Rattle.std.specs.Prelude.{Result, ⊤}
use mathlib.Core.Path.{◌≡◌, refl, ◌∙◌}
use mathlib.Core.List.{List}
use mathlib.Core.Logic.{inl, inr, ⊎_elim}
use Prim.Native.Nat.{ℕ, ◌+◌, ◌*◌, ◌<◌, ◌≤◌}
use native.Mathlib.Omega.{arith}
use lib.ListN.{length}
use lib.Ieee.{Float}
use Rattle.base.specs.List.{fill_to}
use Rattle.base.specs.Rows.{Only}
use Rattle.base.proofs.Fills.{length_fill, fill_past}
use Rattle.base.proofs.Rows.{only_none, only_trans, only_wide, only_row}
use Rattle.model.specs.Settings.{Sizes}
use Rattle.model.specs.declared.sizes.Shape.{Shape}
use Rattle.layout.specs.Layout.{WorkRoom}
use Rattle.layout.specs.WorkRows.{xbeta_row, deviance_row, point_row, mark_row}
use Rattle.layout.specs.WorkMatrices.{system_place, inverse_place, u_place, trial_u_place}
use Rattle.layout.specs.WorkTerms.{terms_length}
use Rattle.layout.proofs.Bounds.{products}
use Rattle.layout.proofs.Inside.{xbeta_in, deviance_in, system_in, inverse_in, u_in, factor_in}
use Rattle.layout.proofs.LaidOut.{lent_kept}
use Rattle.rule.specs.Given.{Given, n_of, q_of}
use Rattle.rule.specs.Stop.{Mode}
use Rattle.agq.specs.Gained.{Room}
use Rattle.base.proofs.TwoRows.{two_none, two_first, two_second, two_trans, two_row}
use Rattle.scale.specs.Tells.{ScaleRoom, ScaleLeaves}
use Rattle.scale.proofs.SectionCopied.{square_within}
use Rattle.sums.specs.Stands.{Roomy, Stands}
use Rattle.sums.specs.Summed.{StepFrame}

-- ---- frames

pub frame_none : (n p q : ℕ) (r m t : List Float) → StepFrame n p q r r m m t t
frame_none n p q r m t =
    record { rows_only = only_none (point_row n) (n + n) r; matrices_only = two_none (inverse_place q) (q * q) (trial_u_place p q) (q + q + q) m; terms_only = only_none 0 terms_length t }

pub frame_trans : {n p q : ℕ} {r r1 r2 m m1 m2 t t1 t2 : List Float} → StepFrame n p q r r1 m m1 t t1 → StepFrame n p q r1 r2 m1 m2 t1 t2 → StepFrame n p q r r2 m m2 t t2
frame_trans a b =
    record { rows_only = only_trans a.rows_only b.rows_only; matrices_only = two_trans a.matrices_only b.matrices_only; terms_only = only_trans a.terms_only b.terms_only }

-- the scale of a block
pub frame_scaled : (n p q s k : ℕ) (r m m' t t' : List Float) (a : Result ⊤ Decline) → Sizes n p q → s + k ≤ q → ScaleLeaves q s k m m' t t' a → StepFrame n p q r r m m' t t'
frame_scaled n p q s k r m m' t t' a z h l =
    record {
      rows_only = only_none (point_row n) (n + n) r;
      matrices_only = two_first (inverse_place q) (q * q) (trial_u_place p q) (q + q + q) (only_wide (inverse_place q) (k * k) (inverse_place q) (q * q) (omega arith) (omega (arith, square_within q s k h)) l.matrices_only);
      terms_only = only_wide 0 (k * k) 0 terms_length (omega arith) (omega (arith, square_within q s k h, (products z).qq)) l.terms_only;
    }

filled_front : (i n : ℕ) (f : ℕ → Float) (t : List Float) → i ≤ n → Only 0 n t (fill_to i f t)
filled_front i n f t l = record { len = length_fill i f t; kept = λ j o. fill_past i f t j (⊎_elim (λ (x : j < 0). omega arith) (λ (x : 0 + n ≤ j). omega arith) o) }

-- the marks, then Zb; the effects at a point, with what stands behind them; the terms
pub frame_terms : (n p q mark xbeta trial count : ℕ) (f : ℕ → Float) (r r1 r2 m m1 m2 t t' : List Float) → mark ≡ mark_row n → xbeta ≡ xbeta_row n → trial ≡ trial_u_place p q → count ≤ 7000
    → Only mark n r r1 → Only (xbeta + n + n) n r1 r2 → Only trial (q + q + q) m m1 → Only trial (q + q + q) m1 m2 → t' ≡ fill_to count f t → StepFrame n p q r r2 m m2 t t'
frame_terms n p q mark xbeta trial count f r r1 r2 m m1 m2 t t' em ex et few a b c d e =
    let place : trial_u_place p q ≡ trial = omega arith in
    record {
      rows_only = only_trans (only_wide mark n (point_row n) (n + n) (omega arith) (omega arith) a) (only_wide (xbeta + n + n) n (point_row n) (n + n) (omega arith) (omega arith) b);
      matrices_only = two_second (inverse_place q) (q * q) (trial_u_place p q) (q + q + q) (rw place (only_trans c d));
      terms_only = rw e (filled_front count terms_length f t few);
    }

-- ---- what a step may still look at

pub stands_kept : (G : Given) (M : Mode) (r r' m m' t t' : List Float) → WorkRoom (n_of G) G.design.p (q_of G.design) r m t → StepFrame (n_of G) G.design.p (q_of G.design) r r' m m' t t' → Stands G M r m → Stands G M r' m'
stands_kept G M r r' m m' t t' lent f s =
    let n = n_of G in
    let p = G.design.p in
    let q = q_of G.design in
    record {
      fixed = only_row (xbeta_row n) n (point_row n) (n + n) (inl (omega arith)) (xbeta_in lent.sizes r refl lent.rows_long) f.rows_only ∙ s.fixed;
      deviances = only_row (deviance_row n) n (point_row n) (n + n) (inl (omega arith)) (deviance_in lent.sizes r refl lent.rows_long) f.rows_only ∙ s.deviances;
      system = two_row system_place (q * q) (inverse_place q) (q * q) (trial_u_place p q) (q + q + q) (inl (omega arith)) (inl (omega arith)) (system_in lent.sizes m refl lent.matrices_long) f.matrices_only ∙ s.system;
      u = two_row (u_place p q) q (inverse_place q) (q * q) (trial_u_place p q) (q + q + q) (inr (omega arith)) (inl (omega arith)) (u_in lent.sizes m refl lent.matrices_long) f.matrices_only ∙ s.u;
    }

-- slices of the same lengths are as good
pub roomy_kept : {n p q : ℕ} {shape : Shape} {theta : List Float} {starts columns : List ℕ} {values offset y r m t r' m' t' : List Float} → Roomy n p q shape theta starts columns values offset y r m t
    → length r' ≡ length r → length m' ≡ length m → length t' ≡ length t → Roomy n p q shape theta starts columns values offset y r' m' t'
roomy_kept a er em et = record { ready = a.ready; lent = lent_kept a.lent er em et; offset_fits = a.offset_fits; y_long = a.y_long }

-- the room that a point asks for
pub room_of : {n p q : ℕ} {shape : Shape} {theta : List Float} {starts columns : List ℕ} {values offset y r m t r' m' : List Float} (xbeta trial : ℕ) → Roomy n p q shape theta starts columns values offset y r m t
    → xbeta ≡ xbeta_row n → trial ≡ trial_u_place p q → length r' ≡ length r → length m' ≡ length m → Room shape theta starts columns values y offset n q xbeta r' trial m'
room_of {n} {p} {q} xbeta trial a ex et er em =
    record {
      good = a.ready.good;
      effects = a.ready.effects;
      thetas = a.ready.numbers;
      rows = a.ready.rows;
      responses = a.y_long;
      offsets = a.offset_fits;
      in_r = omega (arith, a.lent.rows_long);
      in_m = omega (arith, a.lent.matrices_long);
    }

-- the square of A is in its slice
pub square_in : {n p q : ℕ} {r m t : List Float} → WorkRoom n p q r m t → q * q ≤ length m
square_in {q = q} {m = m} lent = omega (arith, system_in lent.sizes {k = 0} m refl lent.matrices_long)

-- û stands before the effects at a point
pub hats_before : (p q u trial : ℕ) → u ≡ u_place p q → trial ≡ trial_u_place p q → u + q ≤ trial
hats_before p q u trial eu et = omega arith

-- what the scale of a block asks for
pub scale_room : {n p q : ℕ} {r m t : List Float} (s k : ℕ) → WorkRoom n p q r m t → s + k ≤ q → ScaleRoom q s k m t
scale_room {m = m} {t = t} s k lent h =
    record { few = lent.sizes.q_few; within = h; matrices = inverse_in lent.sizes m refl lent.matrices_long; terms = factor_in lent.sizes t refl lent.terms_long }
