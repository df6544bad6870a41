-- A call that the table accepts is one that an inner fit may be asked for. Assumes nothing.
use Rattle.std.specs.Prelude.{Ok}
use mathlib.Core.Path.{◌≡◌, sym}
use mathlib.Core.List.{List}
use mathlib.Core.Logic.{inl, inr, ⊎_elim}
use Prim.Native.Nat.{ℕ, ◌≤◌}
use native.Mathlib.Omega.{arith}
use lib.ListN.{length}
use lib.Ieee.{Float}
use Rattle.model.specs.Names.{limit_of}
use Rattle.model.specs.declared.sizes.Shape.{Shape}
use Rattle.model.specs.declared.sizes.Settings.{Settings}
use Rattle.model.proofs.Sized.{limit_few}
use Rattle.family.specs.declared.carried.CarriedFamily.{CarriedFamily}
use Rattle.family.specs.declared.carried.CarriedLink.{CarriedLink}
use Rattle.working.specs.Optional.{Optional}
use Rattle.iteration.specs.Iterated.{Asked}
use Rattle.model.specs.Inputs.{inputs}
use Rattle.table.specs.Facts.{AbsentOr}
use Rattle.table.specs.Table.{table_of}
use Rattle.table.specs.declared.verdicts.LentLengths.{LentLengths}
use Rattle.table.proofs.Accepting.{accepted_sound}

optional : (n : ℕ) (l : List Float) → AbsentOr n l → Optional n l
optional n l o = ⊎_elim (λ (a : length l ≡ 0). inl a) (λ (a : length l ≡ n). inr (omega (arith, a))) o

module _ (t : Settings) (s : Shape) (theta y weights offset x : List Float) (starts columns : List ℕ) (values : List Float) (L : LentLengths) (f : CarriedFamily) (l : CarriedLink)
    (e : table_of 1 t s (inputs theta y weights offset x starts columns values) L ≡ Ok (f, l)) where
  pub accepted_asked : (r m w : List Float) → length r ≡ L.rows → length m ≡ L.matrices → length w ≡ L.terms → Asked t.n t.p t.rows s theta starts columns values offset x y r m w
  accepted_asked r m w er em ew =
      let a = accepted_sound 1 t s (inputs theta y weights offset x starts columns values) L f l e in
      record {
        ready = record { good = a.sized.shape; effects = sym a.sized.effects; numbers = omega (arith, a.inputs_fit.theta); rows = a.rows };
        lent = record { sizes = a.sized.sizes; rows_long = rw er a.work_fits.rows; matrices_long = rw em a.work_fits.matrices; terms_long = rw ew a.work_fits.terms };
        offset_fits = optional t.n offset a.inputs_fit.offset;
        x_long = omega (arith, a.inputs_fit.x);
        y_long = omega (arith, a.inputs_fit.y);
      }

  pub accepted_limit : limit_of t.limit t.link ≤ 1000
  accepted_limit = limit_few t.limit t.link (accepted_sound 1 t s (inputs theta y weights offset x starts columns values) L f l e).sized.limit
