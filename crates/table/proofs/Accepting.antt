-- Each line of the table: which refusal is given exactly when, and what an accepted call has. Assumes nothing.
use Rattle.std.specs.Prelude.{Result, Ok, Err}
use mathlib.Core.Path.{◌≡◌, refl, sym, ap, ◌∙◌}
use mathlib.Core.Bool.{Bool, true, false, ◌&&◌}
use mathlib.Core.List.{List}
use Prim.Native.Nat.{ℕ}
use lib.Ieee.{Float}
use Rattle.base.specs.Sparse.{good_rows}
use Rattle.base.proofs.Doubles.{ff}
use Rattle.base.proofs.SparseRows.{good_rows_lem}
use Rattle.model.specs.Settings.{good_sizes}
use Rattle.model.specs.declared.names.Start.TheVariants.{Usual}
use Rattle.model.specs.declared.sizes.Shape.{Shape}
use Rattle.model.specs.declared.sizes.Settings.{Settings}
use Rattle.model.specs.declared.ends.Refusal.{Refusal}
use Rattle.model.specs.declared.ends.Refusal.TheVariants.{OutOfRange, Responses, Lengths, Work, SparseRows, NotFinite, LinkForFamily, ResponseRange, StartFit}
use Rattle.model.proofs.Sized.{sized}
use Rattle.model.proofs.Tests.{both}
use Rattle.family.specs.Carried.{carried_family, carried_link, valid_for}
use Rattle.family.specs.declared.carried.CarriedFamily.{CarriedFamily}
use Rattle.family.specs.declared.carried.CarriedLink.{CarriedLink}
use Rattle.table.specs.Tests.{good_count, good_inputs, good_results, good_work, good_numbers, all_in_range, start_fits}
use Rattle.model.specs.Inputs.{Inputs}
use Rattle.table.specs.Table.{refuse_unless, table_of}
use Rattle.table.specs.Facts.{Sound}
use Rattle.table.specs.declared.verdicts.LentLengths.{LentLengths}
use Rattle.table.proofs.Meant.{count_fits, inputs_fit, results_fit, work_fits, numbers_finite, list_in_range, start_fits_lem}

-- ---- the lines, from the first to the last
module _ (r : ℕ) (t : Settings) (s : Shape) (I : Inputs) (L : LentLengths) where
  pub line_1 : good_sizes t s ≡ false → table_of r t s I L ≡ Err OutOfRange
  unfolding table_of refuse_unless
  line_1 a = rw a refl

  module _ (sizes : good_sizes t s ≡ true) where
    pub line_8 : good_count r ≡ false → table_of r t s I L ≡ Err Responses
    unfolding table_of refuse_unless
    line_8 a = rw (sizes, a) refl

    module _ (count : good_count r ≡ true) where
      pub line_2_inputs : good_inputs r t s I ≡ false → table_of r t s I L ≡ Err Lengths
      unfolding table_of refuse_unless
      line_2_inputs a = rw (sizes, count, a) refl

      module _ (lent : good_inputs r t s I ≡ true) where
        pub line_2_results : good_results r t L ≡ false → table_of r t s I L ≡ Err Lengths
        unfolding table_of refuse_unless
        line_2_results a = rw (sizes, count, lent, a) refl

        module _ (results : good_results r t L ≡ true) where
          pub line_7 : good_work t L ≡ false → table_of r t s I L ≡ Err Work
          unfolding table_of refuse_unless
          line_7 a = rw (sizes, count, lent, results, a) refl

          module _ (work : good_work t L ≡ true) where
            pub line_6 : good_rows I.starts I.columns t.rows t.n ≡ false → table_of r t s I L ≡ Err SparseRows
            unfolding table_of refuse_unless
            line_6 a = rw (sizes, count, lent, results, work, a) refl

            module _ (rows : good_rows I.starts I.columns t.rows t.n ≡ true) where
              pub line_3 : good_numbers I ≡ false → table_of r t s I L ≡ Err NotFinite
              unfolding table_of refuse_unless
              line_3 a = rw (sizes, count, lent, results, work, rows, a) refl

              module _ (numbers : good_numbers I ≡ true) where
                pub line_4 : valid_for t.link t.family ≡ false → table_of r t s I L ≡ Err LinkForFamily
                unfolding table_of refuse_unless
                line_4 a = rw (sizes, count, lent, results, work, rows, numbers, a) refl

                module _ (valid : valid_for t.link t.family ≡ true) where
                  pub line_9 : all_in_range I.y (carried_family t.family) ≡ false → table_of r t s I L ≡ Err ResponseRange
                  unfolding table_of refuse_unless
                  line_9 a = rw (sizes, count, lent, results, work, rows, numbers, valid, a) refl

                  module _ (ranged : all_in_range I.y (carried_family t.family) ≡ true) where
                    pub line_27 : start_fits t.start I.weights (carried_family t.family) ≡ false → table_of r t s I L ≡ Err StartFit
                    unfolding table_of refuse_unless
                    line_27 a = rw (sizes, count, lent, results, work, rows, numbers, valid, ranged, a) refl

                    pub past_lines : start_fits t.start I.weights (carried_family t.family) ≡ true → table_of r t s I L ≡ Ok ((carried_family t.family), (carried_link t.link))
                    unfolding table_of refuse_unless
                    past_lines a = rw (sizes, count, lent, results, work, rows, numbers, valid, ranged, a) refl

-- the usual start passes always
pub usual_passes : (weights : List Float) (f : CarriedFamily) → start_fits Usual weights f ≡ true
unfolding start_fits
usual_passes weights f = refl

-- ---- an accepted call passed every test
-- a verdict accepts
abbrev pub is_accepted : Result (CarriedFamily × CarriedLink) Refusal → Bool
is_accepted (Ok (f, l)) = true
is_accepted (Err refusal) = false

-- the family of an accepting verdict, f of any other
abbrev family_in : CarriedFamily → Result (CarriedFamily × CarriedLink) Refusal → CarriedFamily
family_in f (Ok (g, l)) = g
family_in f (Err refusal) = f

-- the link of an accepting verdict, l of any other
abbrev link_in : CarriedLink → Result (CarriedFamily × CarriedLink) Refusal → CarriedLink
link_in l (Ok (f, k)) = k
link_in l (Err refusal) = l

-- a line that accepts is passed
passed : (b : Bool) (refusal : Refusal) (rest : Result (CarriedFamily × CarriedLink) Refusal) (f : CarriedFamily) (l : CarriedLink) → refuse_unless b refusal rest ≡ Ok (f, l) → (b ≡ true) × (rest ≡ Ok (f, l))
unfolding refuse_unless
passed true refusal rest f l e = (refl, e)
passed false refusal rest f l e = absurd (ff (ap is_accepted e))

-- an accepting verdict has one family and one link
pub one_pair : (g f : CarriedFamily) (k l : CarriedLink) → ◌≡◌ {A = Result (CarriedFamily × CarriedLink) Refusal} (Ok (g, k)) (Ok (f, l)) → (g ≡ f) × (k ≡ l)
one_pair g f k l e = (ap (family_in f) e, ap (link_in l) e)

pub accepted_sound : (r : ℕ) (t : Settings) (s : Shape) (I : Inputs) (L : LentLengths) (f : CarriedFamily) (l : CarriedLink) → table_of r t s I L ≡ Ok (f, l) → Sound r t s I L f l
unfolding table_of
accepted_sound r t s I L f l e =
    let a = passed (good_sizes t s) OutOfRange _ f l e in
    let j = passed (good_count r) Responses _ f l a.1 in
    let b = passed (good_inputs r t s I && good_results r t L) Lengths _ f l j.1 in
    let c = passed (good_work t L) Work _ f l b.1 in
    let d = passed (good_rows I.starts I.columns t.rows t.n) SparseRows _ f l c.1 in
    let g = passed (good_numbers I) NotFinite _ f l d.1 in
    let h = passed (valid_for t.link t.family) LinkForFamily _ f l g.1 in
    let o = passed (all_in_range I.y (carried_family t.family)) ResponseRange _ f l h.1 in
    let w = passed (start_fits t.start I.weights (carried_family t.family)) StartFit _ f l o.1 in
    let k = one_pair (carried_family t.family) f (carried_link t.link) l w.1 in
    let m : (good_inputs r t s I ≡ true) × (good_results r t L ≡ true) = both b.0 in
    let n = inputs_fit r t s I m.0 in
    record {
      sized = sized t s a.0;
      responses = count_fits r j.0;
      inputs_fit = n;
      results_fit = results_fit r t L m.1;
      work_fits = work_fits t L c.0;
      rows = good_rows_lem I.starts I.columns I.values t.rows t.n n.starts (n.columns ∙ sym n.values) (sym d.0);
      numbers = numbers_finite I g.0;
      valid = h.0;
      family = k.0;
      link = k.1;
      ranged = list_in_range f I.y (rw k.0 at o.0);
      started = start_fits_lem t.start I.weights f (rw k.0 at w.0);
    }
