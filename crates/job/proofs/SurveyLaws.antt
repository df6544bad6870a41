-- What is found of a job, put together of its parts: the blocks that are kept, the sizes, and the faults from left to right. Assumes nothing.
use Prim.{tt}
use Rattle.std.specs.Prelude.{Result, Ok, Err, ⊤}
use mathlib.Core.Path.{◌≡◌, refl, sym, ap, ◌∙◌}
use mathlib.Core.Bool.{Bool, true, false}
use mathlib.Core.List.{List}
use Prim.Native.Nat.{ℕ, ◌+◌, ◌*◌, ◌≤◌, ◌<◌}
use lib.Dec.{leb}
use lib.ListN.{length, replicate}
use borrow.Author.Tests.{le-leb, lt-leb, leb-false}
use Rattle.bits.proofs.BitLaws.{bits_below}
use Rattle.model.specs.Shape.{good_shape}
use Rattle.model.specs.declared.sizes.Shape.{Shape}
use Rattle.job.specs.declared.faults.Fault.{Fault}
use Rattle.job.specs.declared.head.Head.{Head}
use Rattle.job.specs.declared.sizes.Counts.{Counts}
use Rattle.job.specs.declared.sizes.Places.{Places}
use Rattle.job.specs.declared.survey.Survey.{Survey}
use Rattle.job.specs.Lists.{counts, laid}
use Rattle.job.specs.Format.{blocks, blocks_at, groups, effects_in, shape_of, sizes_fit, z_at, rows_in}
use Rattle.job.specs.Heads.{head_of}
use Rattle.job.specs.Places.{counts_of, places_of}
use Rattle.job.specs.Faults.{Checked, demand, ◌▹◌, first, is_sound, reaches, head_fault, blocks_fault, rows_fault, numbers_fault, body_fault, fault_of}
use Rattle.job.specs.Survey.{no_shape, shape_kept, fits_by, Ranged, counts_by, places_by, read_off, survey_by, survey_of}
use Rattle.job.proofs.FaultLaws.{regroup}
use Rattle.job.proofs.SizeLaws.{too_many, sizes_small}

-- ---- the blocks that are kept
pub shape_kept_lem : (s : List ℕ) (n : ℕ) (m k : List ℕ) → blocks s ≤ 8 → n ≡ blocks s → m ≡ laid (counts (groups s) (blocks s)) (replicate 8 0) → k ≡ laid (counts (effects_in s) (blocks s)) (replicate 8 0)
    → ◌≡◌ {A = Shape} (record { count = n; m = m; k = k }) (shape_kept s)
unfolding shape_kept
shape_kept_lem s n m k l a b d = rw (le-leb (blocks s) 8 l, a, b, d)

pub shape_none : (s : List ℕ) → 8 < blocks s → no_shape ≡ shape_kept s
unfolding shape_kept
shape_none s l = rw (lt-leb (blocks s) 8 l)

pub kept_few : (s : List ℕ) → blocks s ≤ 8 → shape_kept s ≡ shape_of s
unfolding shape_kept
kept_few s l = rw (le-leb (blocks s) 8 l)

-- a shape that is not kept is no good one
none_good : good_shape no_shape ≡ false
unfolding good_shape
none_good = refl

kept_good : (s : List ℕ) (t : Bool) → leb (blocks s) 8 ≡ t → good_shape (shape_kept s) ≡ good_shape (shape_of s)
unfolding shape_kept
kept_good s true e = rw e
kept_good s false e = rw e (none_good ∙ too_many s (leb-false (blocks s) 8 e))

pub fits_kept : (s : List ℕ) → fits_by (head_of s) (shape_kept s) ≡ sizes_fit s
unfolding sizes_fit
fits_kept s = rw (kept_good s (leb (blocks s) 8) refl)

pub ranged : (s : List ℕ) → sizes_fit s ≡ true → Ranged (head_of s) (shape_of s)
ranged s e =
    let m = sizes_small s e in
    record { good = m.good; rows = m.rows; wide = m.wide; weighed = bits_below s 9 1; moved = bits_below s 10 1 }

-- ---- past the blocks
-- what is looked at once the sizes fit
abbrev pub back_fault : List ℕ → Checked
back_fault s = reaches s (8 * z_at s) ▹ rows_fault s (z_at s) (rows_in s)

numbers_on : (s : List ℕ) → sizes_fit s ≡ true → numbers_fault s ≡ back_fault s
unfolding numbers_fault demand first
numbers_on s e = rw e

-- the first fault is found, and where there is none, what the job says
pub back_unfit : (s : List ℕ) (t : Bool) (e : Fault) (r : Result Survey Fault) → sizes_fit s ≡ t → demand t 1 0 ≡ Err e → r ≡ Err e → r ≡ survey_by (numbers_fault s) s
unfolding numbers_fault first survey_by
back_unfit s t e r k h q = rw (k, h) q

pub back_faulty : (s : List ℕ) (f : Checked) (e : Fault) (r : Result Survey Fault) → sizes_fit s ≡ true → f ≡ back_fault s → f ≡ Err e → r ≡ Err e → r ≡ survey_by (numbers_fault s) s
unfolding survey_by
back_faulty s f e r k h d q = rw (numbers_on s k, ← h, d) q

pub back_sound : (s : List ℕ) (f : Checked) (t : ⊤) (h : Head) (b : Shape) (c : Counts) (p : Places) → sizes_fit s ≡ true → f ≡ back_fault s → f ≡ Ok t
    → h ≡ head_of s → b ≡ shape_of s → c ≡ counts_of s → p ≡ places_of s
    → ◌≡◌ {A = Result Survey Fault} (Ok (record { head = h; shape = b; counts = c; places = p })) (survey_by (numbers_fault s) s)
unfolding survey_by
back_sound s f t h b c p k e d eh eb ec ep = rw (numbers_on s k, ← e, d) (λ i. Ok (record { head = eh i; shape = eb i; counts = ec i; places = ep i }))

-- ---- the whole
-- the header and the blocks
abbrev pub front_fault : List ℕ → Checked
front_fault s = head_fault s ▹ blocks_fault s (blocks_at s) (blocks s)

whole_on : (s : List ℕ) → length s ≤ 65536 → fault_of s ≡ front_fault s ▹ numbers_fault s
unfolding fault_of body_fault demand first
whole_on s l = rw (le-leb (length s) 65536 l) (sym (regroup (head_fault s) (blocks_fault s (blocks_at s) (blocks s)) (numbers_fault s)))

pub whole_long : (s : List ℕ) (t : Bool) (e : Fault) (r : Result Survey Fault) → leb (length s) 65536 ≡ t → demand t 25 65536 ≡ Err e → r ≡ Err e → r ≡ survey_of s
unfolding fault_of first survey_by
whole_long s t e r k h q = rw (k, h) q

pub whole_faulty : (s : List ℕ) (f : Checked) (e : Fault) (r : Result Survey Fault) → length s ≤ 65536 → f ≡ front_fault s → f ≡ Err e → r ≡ Err e → r ≡ survey_of s
unfolding survey_by first
whole_faulty s f e r l h d q = rw (whole_on s l, ← h, d) q

pub whole_back : (s : List ℕ) (f : Checked) (t : ⊤) → length s ≤ 65536 → f ≡ front_fault s → f ≡ Ok t → survey_by (numbers_fault s) s ≡ survey_of s
unfolding first
whole_back s f t l h d = rw (whole_on s l, ← h, d)

-- ---- what the functions answer, handed from one to the next
pub fits_by_lem : (s : List ℕ) (h : Head) (b : Shape) (t : Bool) → h ≡ head_of s → b ≡ shape_kept s → fits_by h b ≡ t → sizes_fit s ≡ t
fits_by_lem s h b t eh eb e =
    let g : fits_by h b ≡ fits_by (head_of s) (shape_kept s) = λ i. fits_by (eh i) (eb i) in
    sym (fits_kept s) ∙ (sym g ∙ e)

pub shape_by : (s : List ℕ) (b : Shape) → sizes_fit s ≡ true → b ≡ shape_kept s → b ≡ shape_of s
shape_by s b e eb = eb ∙ kept_few s (sizes_small s e).few

pub ranged_by : (s : List ℕ) (h : Head) (b : Shape) → sizes_fit s ≡ true → h ≡ head_of s → b ≡ shape_kept s → Ranged h b
ranged_by s h b e eh eb = rw (eh, shape_by s b e eb) (ranged s e)

pub counts_by_lem : (s : List ℕ) (h : Head) (b : Shape) (c : Counts) → sizes_fit s ≡ true → h ≡ head_of s → b ≡ shape_kept s → c ≡ counts_by h b → c ≡ counts_of s
counts_by_lem s h b c e eh eb ec = ec ∙ (λ i. counts_by (eh i) (shape_by s b e eb i))

pub places_by_lem : (s : List ℕ) (first : ℕ) (h : Head) (c : Counts) (p : Places) → first ≡ blocks_at s → h ≡ head_of s → c ≡ counts_of s → p ≡ places_by (first + 2 * h.blocks) c → p ≡ places_of s
places_by_lem s first h c p ef eh ec ep = ep ∙ (λ i. places_by (ef i + 2 * (eh i).blocks) (ec i))

pub back_by : (s : List ℕ) (f : Checked) (c : Counts) (p : Places) → c ≡ counts_of s → p ≡ places_of s → f ≡ reaches s (8 * p.z) ▹ rows_fault s p.z c.q → f ≡ back_fault s
back_by s f c p ec ep e = e ∙ (λ i. reaches s (8 * (ep i).z) ▹ rows_fault s (ep i).z (ec i).q)

-- ---- what a caller knows of what is found
-- the fault beside it, or none
abbrev pub fault_in : Result Survey Fault → Checked
fault_in (Ok v) = Ok tt
fault_in (Err e) = Err e

one_fault : (f : Checked) (s : List ℕ) → fault_in (survey_by f s) ≡ f
unfolding survey_by
one_fault (Ok t) s = refl
one_fault (Err e) s = refl

pub survey_fault : (s : List ℕ) (v : Result Survey Fault) → v ≡ survey_of s → fault_in v ≡ fault_of s
survey_fault s v e = ap fault_in e ∙ one_fault (fault_of s) s

pub survey_sound : (s : List ℕ) (v : Result Survey Fault) → v ≡ survey_of s → is_sound (fault_of s) ≡ true → v ≡ Ok (read_off s)
unfolding survey_by is_sound
survey_sound s v e h = e ∙ by (fault_of s) h
  where
    by : (f : Checked) → is_sound f ≡ true → survey_by f s ≡ Ok (read_off s)
    by (Ok t) k = refl
    by (Err x) k = cc
