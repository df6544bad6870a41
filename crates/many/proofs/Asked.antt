-- What the table is told and asked: the products are formed of 64 responses at most, and where there are more the table refuses before it looks at a length. Assumes nothing.
use Rattle.std.specs.Prelude.{Ok}
use mathlib.Core.Path.{◌≡◌, refl, sym, ◌∙◌}
use mathlib.Core.Bool.{Bool, true, false, cond}
use mathlib.Core.List.{List}
use Prim.Native.Nat.{ℕ, ◌+◌, ◌-◌, ◌*◌, ◌≤◌, ◌<◌}
use native.Mathlib.Omega.{arith}
use borrow.Author.Tests.{le-leb, lt-leb, leb-true, leb-false}
use lib.Dec.{leb}
use lib.Ieee.{Float}
use lib.ListN.{take, drop}
use Rattle.model.specs.Inputs.{Inputs, inputs}
use Rattle.model.specs.Settings.{good_sizes}
use Rattle.model.specs.declared.sizes.Shape.{Shape}
use Rattle.model.specs.declared.sizes.Settings.{Settings}
use Rattle.model.proofs.Tests.{false_unless}
use Rattle.table.specs.Tests.{good_count}
use Rattle.table.specs.Table.{table_of}
use Rattle.table.specs.declared.verdicts.LentLengths.{LentLengths}
use Rattle.table.proofs.Accepting.{line_1, line_8}
use Rattle.table.proofs.Exactly.{count_exactly}
use Rattle.family.specs.declared.carried.CarriedFamily.{CarriedFamily}
use Rattle.family.specs.declared.carried.CarriedLink.{CarriedLink}
use Rattle.reader.specs.declared.whole.Header.{Header}
use Rattle.jobfit.specs.Room.{fronts_of}
use Rattle.jobfit.proofs.Lent.{front_is}
use Rattle.jobcall.specs.Told.{Buffers, counts_length}
use Rattle.many.specs.Many.{block_length, beta_for, lengths_for, verdict_for}
use Rattle.many.specs.Room.{few_of, DesignFronts, many_fronts, Roomy}
use Rattle.many.proofs.Each.{all_sound, room_in}

-- ---- how much of beta
module _ (r : ℕ) (t : Settings) (results counts block : ℕ) (e : block ≡ block_length t) where
  pub no_results : results < r * block → 0 ≡ beta_for r t results counts
  unfolding beta_for
  no_results h = let q : leb (r * block_length t) results ≡ false = lt-leb (r * block_length t) results (rw (← e) h) in rw q refl

  pub no_counts_lem : r * block ≤ results → counts < r * 14 → 0 ≡ beta_for r t results counts
  unfolding beta_for
  no_counts_lem h l =
      let q : leb (r * block_length t) results ≡ true = le-leb (r * block_length t) results (rw (← e) h) in
      rw (q, lt-leb (r * counts_length) counts l) refl

  pub all_room : r * block ≤ results → r * 14 ≤ counts → r * t.p ≡ beta_for r t results counts
  unfolding beta_for
  all_room h l =
      let q : leb (r * block_length t) results ≡ true = le-leb (r * block_length t) results (rw (← e) h) in
      rw (q, le-leb (r * counts_length) counts l) refl

-- ---- how many products are formed of
pub few_all : (r : ℕ) → r ≤ 64 → r ≡ few_of r
unfolding few_of
few_all r h = rw (le-leb r 64 h) refl

pub few_most : (r : ℕ) → 64 < r → 64 ≡ few_of r
unfolding few_of
few_most r h = rw (lt-leb r 64 h) refl

pub few_few : (r : ℕ) → few_of r ≤ 64
unfolding few_of
few_few r = by (leb r 64) refl
  where
    by : (b : Bool) → leb r 64 ≡ b → cond b r 64 ≤ 64
    by true q = leb-true r 64 q
    by false q = omega arith

-- too many responses are refused whatever the lengths are
module _ (r : ℕ) (t : Settings) (s : Shape) (I : Inputs) (L M : LentLengths) where
  too_many : good_count r ≡ false → table_of r t s I L ≡ table_of r t s I M
  too_many q = by (good_sizes t s) refl
    where
      by : (b : Bool) → good_sizes t s ≡ b → table_of r t s I L ≡ table_of r t s I M
      by false z = line_1 r t s I L z ∙ sym (line_1 r t s I M z)
      by true z = line_8 r t s I L z q ∙ sym (line_8 r t s I M z q)

pub few_verdict : (r : ℕ) (t : Settings) (s : Shape) (I : Inputs) (rows matrices terms results counts : ℕ)
    → table_of r t s I (lengths_for (few_of r) t rows matrices terms results counts) ≡ table_of r t s I (lengths_for r t rows matrices terms results counts)
few_verdict r t s I rows matrices terms results counts = by (leb r 64) refl
  where
    by : (b : Bool) → leb r 64 ≡ b → table_of r t s I (lengths_for (few_of r) t rows matrices terms results counts) ≡ table_of r t s I (lengths_for r t rows matrices terms results counts)
    by true q = rw (← (few_all r (leb-true r 64 q))) refl
    by false q = too_many r t s I _ _ (sym (false_unless (λ z. omega (arith, ((count_exactly r).0 z).1, leb-false r 64 q))))

-- ---- the fronts of the slices, with all responses
pub fronts_many : (h : Header) (theta y weights offset x : List Float) (starts columns : List ℕ) (values : List Float)
    → inputs theta y (take (h.weights - 0) (drop 0 weights)) (take (h.offset - 0) (drop 0 offset)) (take (h.settings.n * h.settings.p - 0) (drop 0 x)) (take (h.settings.rows + 1 - 0) (drop 0 starts)) (take (h.settings.entries - 0) (drop 0 columns)) (take (h.settings.entries - 0) (drop 0 values))
    ≡ many_fronts h (inputs theta y weights offset x starts columns values)
unfolding fronts_of
fronts_many h theta y weights offset x starts columns values =
    rw (
      front_is h.weights weights,
      front_is h.offset offset,
      front_is (h.settings.n * h.settings.p) x,
      front_is (h.settings.rows + 1) starts,
      front_is h.settings.entries columns,
      front_is h.settings.entries values,
    )
    refl

-- ---- an accepted call has room for all responses
pub roomy_by : (r : ℕ) (h : Header) (s : Shape) (I : Inputs) (B : Buffers) (f : CarriedFamily) (l : CarriedLink) → verdict_for r h.settings s (many_fronts h I) B ≡ Ok (f, l) → DesignFronts h I
    → Roomy r h I B.results B.counts
roomy_by r h s I B f l e d =
    let a = all_sound r h.settings s (many_fronts h I) B f l e in
    let w = room_in r h.settings s (many_fronts h I) B f l e in
    record { few = a.responses.1; fronts = d; y = rw a.inputs_fit.y (omega arith); results_long = w.results; counts_long = w.counts }
