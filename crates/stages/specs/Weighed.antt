-- What the first stage of an iteration leaves. Document 01, "The inner fit": each iteration has w and z as in `pirls_with_workspace`. Assumes nothing.
use Rattle.std.specs.Prelude.{◌≡◌, List, ℕ, ◌+◌, ◌≤◌, length, Float}
use Rattle.base.specs.Rows.{row, Only, OnlyTwo}
use Rattle.layout.specs.WorkRows.{weighted_row, working_row, rows_length}
use Rattle.layout.specs.WorkTerms.{w_place, z_place, terms_length}
use Rattle.family.specs.declared.carried.CarriedFamily.{CarriedFamily}
use Rattle.family.specs.declared.carried.CarriedLink.{CarriedLink}
use Rattle.rule.specs.Given.{Design, Given, n_of, given_of}
use Rattle.rule.specs.Working.{working_weights, working_responses, targets, weighted_targets}
use Rattle.working.specs.Optional.{Optional}

-- n and q in range, n responses, an offset for each or none, and work slices as long as number 7 asks
pub record WeighRoom (n q : ℕ) (y offset r t : List Float) : Type 0 where
  pub n_few : n ≤ 512
  pub q_few : q ≤ 32
  pub y_long : n ≤ length y
  pub offset_fits : Optional n offset
  pub rows_long : rows_length n ≤ length r
  pub terms_long : terms_length ≤ length t

-- w and z of the predictor eta with the means mu in the terms, z - offset and w·(z - offset) in the rows, and nothing else has changed
pub record Weighed (G : Given) (phi : Float) (q : ℕ) (eta mu r r' t t' : List Float) : Type 0 where
  pub w : row (w_place q) (n_of G) t' ≡ working_weights G phi eta mu
  pub z : row (z_place (n_of G) q) (n_of G) t' ≡ working_responses G eta mu
  pub target : row (working_row (n_of G)) (n_of G) r' ≡ targets G.design (working_responses G eta mu)
  pub weighted : row (weighted_row (n_of G)) (n_of G) r' ≡ weighted_targets G.design (working_weights G phi eta mu) (targets G.design (working_responses G eta mu))
  pub rows_only : OnlyTwo (weighted_row (n_of G)) (n_of G) (working_row (n_of G)) (n_of G) r r'
  pub terms_only : Only (w_place q) (n_of G + n_of G) t t'

-- for each design of n observations with this offset
abbrev pub Weighs : CarriedFamily → CarriedLink → Float → (y weights offset : List Float) (n q : ℕ) (eta mu r r' t t' : List Float) → Type 0
Weighs family link phi y weights offset n q eta mu r r' t t' =
    (D : Design) → D.n ≡ n → D.offset ≡ offset → Weighed (given_of family link y weights D) phi q eta mu r r' t t'
