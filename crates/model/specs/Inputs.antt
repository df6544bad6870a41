-- The lists of numbers that a call takes. Document 01, "What the port carries". Assumes nothing.
use Rattle.std.specs.Prelude.{List, ℕ, Float}
use Rattle.model.specs.declared.lent.Inputs.{Inputs as Lent}

-- the lists that a call takes; Z' by its row starts, columns and values
pub record Inputs : Type 0 where
  pub theta : List Float
  pub y : List Float
  pub weights : List Float
  pub offset : List Float
  pub x : List Float
  pub starts : List ℕ
  pub columns : List ℕ
  pub values : List Float

-- eight lists as one record
abbrev pub inputs : List Float → List Float → List Float → List Float → List Float → List ℕ → List ℕ → List Float → Inputs
inputs theta y weights offset x starts columns values =
    record { theta = theta; y = y; weights = weights; offset = offset; x = x; starts = starts; columns = columns; values = values }

-- the eight lists as they are lent
abbrev pub inputs_in : Lent → Inputs
inputs_in l = inputs l.theta.now l.y.now l.weights.now l.offset.now l.x.now l.starts.now l.columns.now l.values.now
