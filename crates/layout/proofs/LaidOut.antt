-- The layout is sound at every size in range: what each function that lends a piece of a work slice asks. Assumes nothing.
use mathlib.Core.Path.{◌≡◌}
use mathlib.Core.List.{List}
use Prim.Native.Nat.{ℕ}
use lib.ListN.{length}
use lib.Ieee.{Float}
use native.Mathlib.Omega.{arith}
use Rattle.model.specs.Settings.{Sizes}
use Rattle.layout.specs.Layout.{RowsLaid, MatricesLaid, TermsLaid, LaidOut, WorkRoom}
use Rattle.layout.proofs.Bounds.{products}

rows_laid : {n p q : ℕ} → Sizes n p q → RowsLaid n
rows_laid z =
    record {
      first_eta = omega arith;
      second_eta = omega arith;
      mu = omega arith;
      raw = omega arith;
      xbeta = omega arith;
      deviance = omega arith;
      point = omega arith;
      mark = omega arith;
      weighted = omega arith;
      working = omega arith;
      length_few = omega arith;
    }

matrices_laid : {n p q : ℕ} → Sizes n p q → MatricesLaid p q
matrices_laid z =
    record {
      system = omega (arith, products z);
      inverse = omega (arith, products z);
      solved = omega (arith, products z);
      root_inverse = omega (arith, products z);
      wy = omega (arith, products z);
      u = omega (arith, products z);
      b = omega (arith, products z);
      trial_u = omega (arith, products z);
      trial_b = omega (arith, products z);
      point = omega (arith, products z);
      beta = omega (arith, products z);
      beta_end_lem = omega (arith, products z);
      length_few = omega (arith, products z);
    }

terms_laid : {n p q : ℕ} → Sizes n p q → TermsLaid n p q
terms_laid z =
    record {
      factor = omega (arith, products z);
      w = omega (arith, products z);
      z = omega (arith, products z);
      unsolved = omega (arith, products z);
      normal = omega (arith, products z);
      spare = omega (arith, products z);
    }

pub laid_out : {n p q : ℕ} → Sizes n p q → LaidOut n p q
laid_out z = record { rows = rows_laid z; matrices = matrices_laid z; terms = terms_laid z }

-- slices of the same lengths are as good
pub lent_kept : {n p q : ℕ} {r m t r' m' t' : List Float} → WorkRoom n p q r m t → length r' ≡ length r → length m' ≡ length m → length t' ≡ length t → WorkRoom n p q r' m' t'
lent_kept l er em et = record { sizes = l.sizes; rows_long = rw er l.rows_long; matrices_long = rw em l.matrices_long; terms_long = rw et l.terms_long }
