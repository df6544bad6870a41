-- The dispersion loop over any inner fit. Document 01, "The inner fit", its paragraph on dispersion: where phi begins, how many rounds, the flag, and that counts are summed. Assumes nothing.
use Rattle.std.specs.Prelude.{Option, Some, None}
use Rattle.std.specs.Prelude.{List, ◌++◌, Bool, true, false, ℕ, zero, suc, Float}
use Rattle.base.specs.Number.{one_f}
use Rattle.model.specs.Items.{Item}
use Rattle.model.specs.declared.ends.End.{End}
use Rattle.dispersion.specs.Phi.{round_of}

-- what a fit comes to: F, or one of the ends 10 to 13
pub data Result (F : Type 0) : Type 0 where
  result : F → Result F
  no_result : End → Result F

-- what it comes to, and what it did
pub record Total (F : Type 0) : Type 0 where
  pub outcome : Result F
  pub items : List Item

-- the last inner fit, the phi that it ran with, and whether the loop settled
pub record Dispersed (F : Type 0) : Type 0 where
  pub last : F
  pub phi : Float
  pub converged : Bool

module _ {F : Type 0} where
  -- items before those of what follows
  unfoldable pub total_before : List Item → Total F → Total F
  total_before is t = record { outcome = t.outcome; items = is ++ t.items }

  -- an inner fit at phi as the last, with the flag
  unfoldable pub with_flag : Bool → Float → Result F → Result (Dispersed F)
  with_flag flag phi (result f) = result (record { last = f; phi = phi; converged = flag })
  with_flag flag phi (no_result e) = no_result e

  -- and nothing after it
  unfoldable pub last_fit : Bool → Float → Total F → Total (Dispersed F)
  last_fit flag phi t = record { outcome = with_flag flag phi t.outcome; items = t.items }

module _ {F : Type 0} where
  -- by what follows a round: the fit stands, or the rest goes on at the next phi
  unfoldable pub after_round : Option Float → F → Float → List Item → (Float → Total (Dispersed F)) → Total (Dispersed F)
  after_round None f phi is rest = record { outcome = result (record { last = f; phi = phi; converged = true }); items = is }
  after_round (Some next) f phi is rest = total_before is (rest next)

  -- by what a round's inner fit comes to: without a result the loop ends so
  unfoldable pub after_fit : Float → (F → Float) → Float → Result F → List Item → (Float → Total (Dispersed F)) → Total (Dispersed F)
  after_fit effective dev_sum phi (no_result e) is rest = record { outcome = no_result e; items = is }
  after_fit effective dev_sum phi (result f) is rest = after_round (round_of effective phi (dev_sum f)) f phi is rest

module _ {F : Type 0} where
  -- the loop from phi on, with so many rounds left, then one more with the flag false; effective is the effective n, dev_sum the deviance sum of a fit
  unfoldable pub dispersion_from : Float → (F → Float) → (Float → Total F) → ℕ → Float → Total (Dispersed F)
  dispersion_from effective dev_sum inner zero phi = last_fit false phi (inner phi)
  dispersion_from effective dev_sum inner (suc left) phi = after_fit effective dev_sum phi (inner phi).outcome (inner phi).items (dispersion_from effective dev_sum inner left)

module _ {F : Type 0} where
  -- the dispersion loop: phi from 1, 240 rounds
  unfoldable pub dispersion_of : Float → (F → Float) → (Float → Total F) → Total (Dispersed F)
  dispersion_of effective dev_sum inner = dispersion_from effective dev_sum inner 240 one_f

  -- one inner fit at phi 1, for a family without dispersion; the flag is true
  unfoldable pub fixed_of : (Float → Total F) → Total (Dispersed F)
  fixed_of inner = last_fit true one_f (inner one_f)
