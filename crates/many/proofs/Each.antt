-- Each response of an accepted call is accepted alone: the tests of the design are passed, and what the table asks of all responses holds of each. Assumes nothing.
use Rattle.std.specs.Prelude.{Ok}
use mathlib.Core.Path.{◌≡◌, refl, sym, ap, ◌∙◌}
use mathlib.Core.Bool.{Bool, true, false, cond, ◌&&◌}
use mathlib.Core.List.{List}
use Prim.Native.Nat.{ℕ, ◌+◌, ◌*◌, ◌≤◌, ◌<◌}
use native.Mathlib.Nat.{mul-pos, one-mul}
use native.Mathlib.Omega.{arith}
use borrow.Author.Tests.{leb-true}
use lib.Dec.{leb}
use lib.Ieee.{Float}
use lib.ListN.{length}
use Rattle.base.specs.Number.{finite}
use Rattle.base.specs.Sparse.{good_rows}
use Rattle.base.proofs.Doubles.{ff}
use Rattle.model.specs.Inputs.{Inputs}
use Rattle.model.specs.Settings.{good_sizes}
use Rattle.model.specs.declared.sizes.Shape.{Shape}
use Rattle.model.specs.declared.sizes.Settings.{Settings}
use Rattle.model.proofs.Tests.{both}
use Rattle.family.specs.Family.{in_range}
use Rattle.family.specs.Carried.{carried_family}
use Rattle.family.specs.declared.carried.CarriedFamily.{CarriedFamily}
use Rattle.family.specs.declared.carried.CarriedLink.{CarriedLink}
use Rattle.table.specs.Tests.{good_count, good_inputs, good_results, good_work, good_numbers, all_in_range, start_fits}
use Rattle.table.specs.Table.{table_of}
use Rattle.table.specs.Facts.{ResultsFit, WorkFits, AllFinite, AllInRange, Sound}
use Rattle.table.specs.declared.verdicts.LentLengths.{LentLengths}
use Rattle.table.proofs.Accepting.{is_accepted, line_6, past_lines, accepted_sound}
use Rattle.table.proofs.Exactly.{sizes_exactly, count_exactly, inputs_exactly, results_exactly, work_exactly, numbers_exactly, range_exactly, start_exactly}
use Rattle.call.specs.Call.{lengths_of}
use Rattle.jobfit.specs.Done.{lent_for}
use Rattle.jobfit.proofs.Lent.{beta_lent}
use Rattle.jobcall.specs.Told.{Buffers, counts_length}
use Rattle.many.specs.Many.{response_at, with_y, block_length, beta_for, lengths_for, verdict_for}
use Rattle.many.proofs.Parts.{part_length, all_in_part, block_fits}
use Rattle.many.proofs.Single.{zeros_length}
use Rattle.many.proofs.Alone.{RoomIn, lists_at}

-- ---- the same design with one other response
module _ (r : ℕ) (t : Settings) (s : Shape) (I : Inputs) (L : LentLengths) (f : CarriedFamily) (l : CarriedLink) (e : table_of r t s I L ≡ Ok (f, l)) where
  abbrev found : Sound r t s I L f l
  found = accepted_sound r t s I L f l e

  sizes_good : good_sizes t s ≡ true
  sizes_good = (sizes_exactly t s).1 found.sized

  count_good : good_count r ≡ true
  count_good = (count_exactly r).1 found.responses

  inputs_good : good_inputs r t s I ≡ true
  inputs_good = (inputs_exactly r t s I).1 found.inputs_fit

  results_good : good_results r t L ≡ true
  results_good = (results_exactly r t L).1 found.results_fit

  work_good : good_work t L ≡ true
  work_good = (work_exactly t L).1 found.work_fits

  rows_good : good_rows I.starts I.columns t.rows t.n ≡ true
  rows_good = by (good_rows I.starts I.columns t.rows t.n) refl
    where
      by : (b : Bool) → good_rows I.starts I.columns t.rows t.n ≡ b → good_rows I.starts I.columns t.rows t.n ≡ true
      by true q = q
      by false q = absurd (ff (ap is_accepted (sym (line_6 r t s I L sizes_good count_good inputs_good results_good work_good q) ∙ e)))

  numbers_good : good_numbers I ≡ true
  numbers_good = (numbers_exactly I).1 found.numbers

  pub one_accepted : (y : List Float) (M : LentLengths) → length y ≡ t.n → AllFinite y → AllInRange f y → ResultsFit 1 t M → WorkFits t M → table_of 1 t s (with_y y I) M ≡ Ok (f, l)
  one_accepted y M long fin ranged results work =
      let g = found.inputs_fit in
      let n = found.numbers in
      let one : good_inputs 1 t s (with_y y I) ≡ true = (inputs_exactly 1 t s (with_y y I)).1 (record { theta = g.theta; y = long ∙ sym (one-mul t.n); weights = g.weights; offset = g.offset; x = g.x; starts = g.starts; columns = g.columns; values = g.values }) in
      let numbers : good_numbers (with_y y I) ≡ true = (numbers_exactly (with_y y I)).1 (record { theta = n.theta; y = fin; weights = n.weights; offset = n.offset; x = n.x; values = n.values }) in
      let inside : all_in_range y (carried_family t.family) ≡ true = rw found.family ((range_exactly f y).1 ranged) in
      let start : start_fits t.start I.weights (carried_family t.family) ≡ true = rw found.family ((start_exactly t.start I.weights f).1 found.started) in
      past_lines 1 t s (with_y y I) M sizes_good ((count_exactly 1).1 (omega arith, omega arith)) one ((results_exactly 1 t M).1 results) ((work_exactly t M).1 work) rows_good numbers found.valid inside start
      ∙ rw (found.family, found.link) refl

-- ---- a call of r responses that is accepted
module _ (r : ℕ) (t : Settings) (s : Shape) (I : Inputs) (B : Buffers) (f : CarriedFamily) (l : CarriedLink) (e : verdict_for r t s I B ≡ Ok (f, l)) where
  abbrev asked : LentLengths
  asked = lengths_for r t (length B.rows) (length B.matrices) (length B.terms) (length B.results) (length B.counts)

  at_table : table_of r t s I asked ≡ Ok (f, l)
  unfolding verdict_for
  at_table = e

  pub all_sound : Sound r t s I asked f l
  all_sound = accepted_sound r t s I asked f l at_table

  -- the results and the counts have room for all of them
  pub room_in : RoomIn r t B
  unfolding lengths_for beta_for
  room_in = by (leb (r * block_length t) (length B.results) && leb (r * counts_length) (length B.counts)) refl all_sound.results_fit.beta
    where
      by : (b : Bool) → leb (r * block_length t) (length B.results) && leb (r * counts_length) (length B.counts) ≡ b → cond b (r * t.p) 0 ≡ r * t.p → RoomIn r t B
      by true q z =
          let w : (leb (r * block_length t) (length B.results) ≡ true) × (leb (r * counts_length) (length B.counts) ≡ true) = both q in
          record { results = leb-true _ _ w.0; counts = leb-true _ _ w.1 }
      by false q z = let some : 0 < r * t.p = mul-pos all_sound.responses.0 all_sound.sized.sizes.p_some in absurd (omega (arith, some, z))

  -- response i, with work buffers of these lengths and a block
  module _ (i : ℕ) (h : i < r) where
    inside : i * t.n + t.n ≤ length I.y
    inside = rw all_sound.inputs_fit.y (block_fits i r t.n h)

    module _ (rows matrices terms block : List Float) (k : length rows ≡ length B.rows) (m : length matrices ≡ length B.matrices) (w : length terms ≡ length B.terms) (b : length block ≡ block_length t) where
      one_results : ResultsFit 1 t (lengths_of (lent_for t rows matrices terms block))
      unfolding lengths_of lent_for
      one_results =
          let p : t.p ≡ 1 * t.p = sym (one-mul t.p) in
          let q : t.rows ≡ 1 * t.rows = sym (one-mul t.rows) in
          let n : t.n ≡ 1 * t.n = sym (one-mul t.n) in
          record {
            beta = zeros_length _ ∙ (sym (beta_lent t (length block) (block_length t) refl (rw b (omega arith))) ∙ p);
            se = zeros_length _ ∙ p;
            z = zeros_length _ ∙ p;
            u = zeros_length _ ∙ q;
            b = zeros_length _ ∙ q;
            mu = zeros_length _ ∙ n;
            eta = zeros_length _ ∙ n;
            residual = zeros_length _ ∙ n;
            v = zeros_length _ ∙ ap (λ (z : ℕ). z * t.p) p;
          }

      one_work : WorkFits t (lengths_of (lent_for t rows matrices terms block))
      unfolding lengths_of lent_for lengths_for
      one_work =
          let g = all_sound.work_fits in
          record { rows = rw k g.rows; matrices = rw m g.matrices; terms = rw w g.terms }

      pub each_accepted : table_of 1 t s (lists_at t s I i) (lengths_of (lent_for t rows matrices terms block)) ≡ Ok (f, l)
      each_accepted =
          one_accepted r t s I asked f l at_table (response_at t.n i I.y) (lengths_of (lent_for t rows matrices terms block))
          (part_length (i * t.n) t.n I.y inside)
          (all_in_part finite (i * t.n) t.n I.y inside all_sound.numbers.y)
          (all_in_part (in_range f) (i * t.n) t.n I.y inside all_sound.ranged)
          one_results one_work
