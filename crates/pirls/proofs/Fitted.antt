-- The inner fit's turns and ends for the arguments of the code, of which q is the number of effects. Assumes nothing.
use mathlib.Core.Path.{◌≡◌, refl, sym}
use mathlib.Core.List.{List}
use mathlib.Core.Bool.{Bool, true, false, not}
use mathlib.Core.Logic.{inr}
use Prim.Native.Nat.{ℕ, ◌+◌, ◌≤◌, ◌<◌}
use native.Mathlib.Omega.{arith}
use lib.ListN.{length}
use lib.Ieee.{Float}
use Rattle.base.specs.Number.{huge_f}
use Rattle.base.specs.List.{build}
use Rattle.base.specs.Rows.{row, Only, Wrote}
use Rattle.base.specs.Sparse.{Sparse}
use Rattle.base.proofs.Rows.{only_row, only_wide}
use Rattle.family.specs.declared.carried.CarriedFamily.{CarriedFamily}
use Rattle.family.specs.declared.carried.CarriedLink.{CarriedLink}
use Rattle.layout.specs.Layout.{WorkRoom}
use Rattle.layout.specs.WorkRows.{mu_row, rows_length}
use Rattle.layout.proofs.LaidOut.{lent_kept}
use Rattle.model.specs.Shape.{effects_of}
use Rattle.model.specs.declared.sizes.Shape.{Shape}
use Rattle.model.specs.Account.{◌⊞◌, one_fit, one_solve, AtMost, SumFits}
use Rattle.model.specs.declared.counts.Account.{Account}
use Rattle.model.specs.declared.ends.End.{End}
use Rattle.model.specs.declared.ends.End.TheVariants.{NoStep, NoStop}
use Rattle.rule.specs.Given.{Given, q_of, design_of, given_of}
use Rattle.rule.specs.Stop.{stops}
use Rattle.rule.specs.Run.{start_eta_at, start_eta}
use Rattle.stages.specs.Held.{eta_row}
use Rattle.stages.specs.Stopped.{Stops, StopLeft}
use Rattle.stages.specs.declared.stops.AtStop.{AtStop}
use Rattle.iteration.specs.Iterated.{Asked, IterationLeft, tries_made, iteration_cap}
use Rattle.iteration.specs.declared.iterates.Iteration.{Iteration}
use Rattle.iteration.specs.declared.iterates.Iteration.TheVariants.{Unsolvable, Stuck, Moved}
use Rattle.pirls.specs.Inner.{failed_fit, stopped_fit, InnerLeft}
use Rattle.pirls.specs.declared.run.InnerFit.{InnerFit}
use Rattle.pirls.proofs.Turns.{run_to, Going, going_starts, spent, unsolved_end, stuck_end, goes_on, fit_stopped, sum_fits}

-- slices of the same lengths are as good
pub asked_kept : {n p q : ℕ} {shape : Shape} {theta : List Float} {starts columns : List ℕ} {values offset x y r m t r' m' t' : List Float} → Asked n p q shape theta starts columns values offset x y r m t
    → length r' ≡ length r → length m' ≡ length m → length t' ≡ length t → Asked n p q shape theta starts columns values offset x y r' m' t'
asked_kept a er em et = record { ready = a.ready; lent = lent_kept a.lent er em et; offset_fits = a.offset_fits; x_long = a.x_long; y_long = a.y_long }

module _ (family : CarriedFamily) (link : CarriedLink) (phi : Float) (L n p q : ℕ) (shape : Shape) (theta offset x y weights : List Float) (zt : Sparse) (e : q ≡ effects_of shape) where
  abbrev G : Given
  G = given_of family link y weights (design_of n p shape theta offset x zt)

  -- before the first iteration
  module _ (at : ℕ) (r₀ r' m₀ t₀ : List Float) (lent : WorkRoom n p q r₀ m₀ t₀) (ea : at ≡ mu_row n) (w : Wrote 0 n (build (start_eta_at link offset (row at n r₀)) n) r₀ r') where
    mu_kept : row (mu_row n) n r' ≡ row (mu_row n) n r₀
    mu_kept = let l : rows_length n ≤ length r₀ = lent.rows_long in only_row (mu_row n) n 0 n (inr (omega arith)) (omega arith) w.only

    pub begun : (a : Account) → a ≡ one_fit → Going G phi L (row (mu_row n) n r') r' r' m₀ m₀ t₀ t₀ huge_f false 0 a
    unfolding start_eta
    begun a ha =
        let w' : Wrote 0 n (build (start_eta_at link offset (row (mu_row n) n r₀)) n) r₀ r' = rw ea at w in
        let w'' : Wrote 0 n (start_eta G (row (mu_row n) n r')) r₀ r' = rw mu_kept w' in
        rw ha (going_starts G phi L (row (mu_row n) n r') r₀ r' m₀ t₀ (rw e at lent) (sym mu_kept) w'')

    rows_wide : Only 0 (rows_length n) r₀ r'
    rows_wide = only_wide 0 n 0 (rows_length n) (omega arith) (omega arith) w.only

    -- ---- one turn
    module _ (r m t : List Float) (old : Float) (second : Bool) (k : ℕ) (account : Account) (g : Going G phi L (row (mu_row n) n r') r' r m₀ m t₀ t old second k account) where
      pub end_spent : (b : InnerFit) → L ≤ k → b ≡ failed_fit NoStop account
          → InnerLeft G phi L (row (mu_row n) n r₀) r₀ r m₀ m t₀ t b
      end_spent b l hb = rw (hb, ← mu_kept) (spent G phi L (row (mu_row n) n r') r₀ r r' m₀ m t₀ t old second k account g l rows_wide)

      module _ (r2 m2 t2 : List Float) (it : Iteration) (l : k < L) (i : IterationLeft G phi (row (eta_row n second) n r) (row (mu_row n) n r) (eta_row n (not second)) r r2 m m2 t t2 it) where
        pub end_unsolved : (end : End) (b : InnerFit) → it ≡ Unsolvable end → b ≡ failed_fit end account
            → InnerLeft G phi L (row (mu_row n) n r₀) r₀ r2 m₀ m2 t₀ t2 b
        end_unsolved end b ei hb =
            let i' : IterationLeft G phi (row (eta_row n second) n r) (row (mu_row n) n r) (eta_row n (not second)) r r2 m m2 t t2 (Unsolvable end) = rw ei at i in
            rw (hb, ← mu_kept) (unsolved_end G phi L (row (mu_row n) n r') r₀ r r' r2 m₀ m m2 t₀ t t2 old second k account end g l i'.told rows_wide i'.rows_only i'.matrices_only i'.terms_only)

        pub end_stuck : (made a : Account) (b : InnerFit) → it ≡ Stuck made → a ≡ account ⊞ (one_solve ⊞ made) → b ≡ failed_fit NoStep a
            → InnerLeft G phi L (row (mu_row n) n r₀) r₀ r2 m₀ m2 t₀ t2 b
        end_stuck made a b ei ha hb =
            let i' : IterationLeft G phi (row (eta_row n second) n r) (row (mu_row n) n r) (eta_row n (not second)) r r2 m m2 t t2 (Stuck made) = rw ei at i in
            rw (hb, ha, ← mu_kept) (stuck_end G phi L (row (mu_row n) n r') r₀ r r' r2 m₀ m m2 t₀ t t2 old second k account made g l i'.told rows_wide i'.rows_only i'.matrices_only i'.terms_only)

        module _ (pwrss : Float) (made a : Account) (ei : it ≡ Moved pwrss made) (ha : a ≡ account ⊞ (one_solve ⊞ made)) where
          i' : IterationLeft G phi (row (eta_row n second) n r) (row (mu_row n) n r) (eta_row n (not second)) r r2 m m2 t t2 (Moved pwrss made)
          i' = rw ei at i

          pub turn_on : stops old pwrss ≡ false → Going G phi L (row (mu_row n) n r') r' r2 m₀ m2 t₀ t2 pwrss (not second) (k + 1) a
          turn_on s = rw ha (goes_on G phi L (row (mu_row n) n r') r₀ r r' r2 m₀ m m2 t₀ t t2 old second k account made pwrss g l i'.told i'.rows_only i'.matrices_only i'.terms_only i'.few s)

          pub end_stopped : (r3 m3 : List Float) (s : AtStop) (b : InnerFit) → stops old pwrss ≡ true → WorkRoom n p q r2 m2 t2 → Stops family y weights n p q (row (mu_row n) n r2) t2 r2 r3 m2 m3 s
              → b ≡ stopped_fit s (k + 1) (not second) a
              → InnerLeft G phi L (row (mu_row n) n r₀) r₀ r3 m₀ m3 t₀ t2 b
          end_stopped r3 m3 s b es lent2 st hb =
              let h = i'.told.held in
              let st' : Stops family y weights n p (q_of G.design) (row (mu_row n) n r2) t2 r2 r3 m2 m3 s = rw e at st in
              let sl : StopLeft G p (q_of G.design) i'.told.v (row (mu_row n) n r2) r2 r3 m2 m3 s = st' link G.design i'.told.v refl h.factor h.root h.u in
              rw (hb, ha, ← mu_kept)
              (fit_stopped G phi L (row (mu_row n) n r') r₀ r r' r2 m₀ m m2 t₀ t t2 old second k account made pwrss g l i'.told i'.rows_only i'.matrices_only i'.terms_only r3 m3 s (rw e at lent2) sl es rows_wide)

-- ---- a solve and its tries can be counted
pub counted_fits : (k : ℕ) (account made : Account) (it : Iteration) → k ≤ 1000 → AtMost (run_to k) account → AtMost iteration_cap (tries_made it) → tries_made it ≡ made → SumFits account (one_solve ⊞ made)
counted_fits k account made it l p f e = sum_fits k account made l p (rw e at f)
