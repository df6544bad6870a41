-- An inner fit whose means were just written is the rule's inner fit from the starting means. Assumes nothing.
use mathlib.Core.Path.{◌≡◌}
use mathlib.Core.List.{List}
use Prim.Native.Nat.{ℕ}
use native.Mathlib.Omega.{arith}
use lib.Ieee.{Float}
use Rattle.base.specs.List.{build}
use Rattle.base.specs.Rows.{row, Only, Wrote}
use Rattle.base.proofs.Rows.{only_wide, only_trans}
use Rattle.model.specs.declared.names.Start.{Start}
use Rattle.layout.specs.WorkRows.{mu_row, rows_length}
use Rattle.rule.specs.Given.{Given, n_of}
use Rattle.rule.specs.Run.{start_mean_at, start_means}
use Rattle.inner.specs.Answered.{AnswerLeft}
use Rattle.inner.specs.declared.answers.InnerAnswer.{InnerAnswer}

pub started : (start : Start) (G : Given) (wish : ℕ) (phi : Float) (L at : ℕ) (r r1 r' m m' t t' : List Float) (a : InnerAnswer) → at ≡ mu_row (n_of G)
    → Wrote at (n_of G) (build (start_mean_at start G.family G.y G.weights) (n_of G)) r r1 → AnswerLeft G wish phi L (row (mu_row (n_of G)) (n_of G) r1) r1 r' m m' t t' a
    → AnswerLeft G wish phi L (start_means start G) r r' m m' t t' a
unfolding start_means
started start G wish phi L at r r1 r' m m' t t' a e w i =
    let w' : Wrote (mu_row (n_of G)) (n_of G) (build (start_mean_at start G.family G.y G.weights) (n_of G)) r r1 = rw e at w in
    let o : Only 0 (rows_length (n_of G)) r r1 = only_wide (mu_row (n_of G)) (n_of G) 0 (rows_length (n_of G)) (omega arith) (omega arith) w'.only in
    let i' : AnswerLeft G wish phi L (start_means start G) r1 r' m m' t t' a = rw w'.row' at i in
    record { told = i'.told; counted = i'.counted; rows_only = only_trans o i'.rows_only; matrices_only = i'.matrices_only; terms_only = i'.terms_only }
