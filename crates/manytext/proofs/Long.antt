-- What stands behind the program's room changes nothing: a job that does not fit is too long, and behind one that fits there are more responses than a call may have. Assumes nothing.
use mathlib.Core.Path.{◌≡◌, refl, sym, ap, ◌∙◌}
use mathlib.Core.Bool.{Bool, true, false}
use mathlib.Core.List.{List}
use mathlib.Core.Logic.{⊎_elim}
use Prim.Native.Nat.{ℕ, zero, suc, ◌+◌, ◌-◌, ◌*◌, ◌/◌, ◌≤◌, ◌<◌}
use native.Mathlib.Nat.{le-div_iff_mul-le, mul-le-mul, le_of_suc-le}
use native.Mathlib.Omega.{arith}
use borrow.Author.Tests.{le-leb, lt-leb}
use lib.Ieee.{Float}
use lib.ListN.{length, take, drop, length-take, length-drop}
use lib.Seq.{length-take-le, take_all, take-take, take-add, drop_at, get_or-take}
use Rattle.base.proofs.Sums.{lt_or_ge}
use Rattle.bits.specs.Bits.{bits_of}
use Rattle.model.specs.Settings.{good_sizes}
use Rattle.model.proofs.Sized.{sized}
use Rattle.table.specs.Tests.{good_count}
use Rattle.table.proofs.Accepting.{line_1, line_8}
use Rattle.job.specs.Job.{Job, Read, faulty, sound, read_of}
use Rattle.many.specs.Many.{verdict_for}
use Rattle.output.proofs.Long.{long_read}
use Rattle.manytext.specs.Input.{job_size, job_in, rest_in, input_room}
use Rattle.manytext.specs.Output.{printed_by, printed_of, many_printed, many_output_of}

-- ---- the bits of a front are those of the whole
bits_front : (s : List ℕ) (m n : ℕ) → n ≤ 8 * m → bits_of (take m s) 0 n ≡ bits_of s 0 n
unfolding bits_of
bits_front s m zero h = refl
bits_front s m (suc n) h =
    let at : (0 + n) / 8 < m = omega arith in
    rw (bits_front s m n (le_of_suc-le h), get_or-take m s ((0 + n) / 8) 0 at) refl

-- ---- more than 64 responses are refused with 8, or their sizes with 1, whatever they are
over_many : (r : ℕ) → 65 ≤ r → good_count r ≡ false
over_many r h = rw (le-leb 1 r (omega arith), lt-leb r 64 (omega arith)) refl

over_alike : (r k : ℕ) (j : Job) (xs ys : List Float) → (1 ≤ j.settings.n → j.settings.n ≤ 512 → (65 ≤ r) × (65 ≤ k)) → printed_of r j xs ≡ printed_of k j ys
unfolding printed_of verdict_for printed_by
over_alike r k j xs ys many = by (good_sizes j.settings j.shape) refl
  where
    by : (b : Bool) → good_sizes j.settings j.shape ≡ b → printed_of r j xs ≡ printed_of k j ys
    by false e = rw (line_1 r j.settings j.shape _ _ e, line_1 k j.settings j.shape _ _ e) refl
    by true e =
        let z = (sized j.settings j.shape e).sizes in
        let m = many z.n_some z.n_few in
        rw (line_8 r j.settings j.shape _ _ e (over_many r m.0), line_8 k j.settings j.shape _ _ e (over_many k m.1)) refl

-- so many numbers make 65 responses of any size
many_in : (bytes n : ℕ) → 266240 ≤ bytes → 1 ≤ n → n ≤ 512 → 65 ≤ bytes / 8 / n
many_in bytes n h l f =
    let m : 65 * n ≤ 65 * 512 = mul-le-mul {n₂ = 65} {m₂ = 512} (omega arith) f in
    (le-div_iff_mul-le l).1 (omega (arith, m))

-- ---- a job that is too long
job_over : (s : List ℕ) → 65536 < job_size s → 65539 < length s → 65536 < length (job_in s)
unfolding job_in
job_over s l h = simp (length-take, length-drop) (omega arith)

over_printed : (s : List ℕ) → 65536 < length (job_in s) → many_output_of s ≡ many_printed (faulty 25 65536) (rest_in s)
unfolding many_output_of
over_printed s l = rw (long_read (job_in s) l) refl

-- ---- bytes that go on behind the room
module _ (s : List ℕ) (m : ℕ) (room : input_room ≤ m) (long : m < length s) where
  size_same : job_size (take m s) ≡ job_size s
  size_same = bits_front s m 24 (omega arith)

  held_length : length (take m s) ≡ m
  held_length = length-take-le m s (omega arith)

  behind : drop 3 (take m s) ≡ take (m - 3) (drop 3 s)
  behind =
      let e : m ≡ 3 + (m - 3) = omega arith in
      ap (λ (k : ℕ). drop 3 (take k s)) e ∙ ap (drop 3) (take-add 3 (m - 3) s) ∙ drop_at (take 3 s) (take (m - 3) (drop 3 s)) 3 (length-take-le 3 s (omega arith))

  module _ (few : job_size s ≤ 65536) where
    job_same : job_in (take m s) ≡ job_in s
    unfolding job_in
    job_same = rw (size_same, behind, take-take (job_size s) (m - 3) (drop 3 s) (omega arith)) refl

    rest_many : (x : List ℕ) → m ≤ length x → job_size x ≡ job_size s → 266240 ≤ length (rest_in x)
    unfolding rest_in
    rest_many x h e = simp length-drop (omega arith)

    by_job : (x : Read) → many_printed x (rest_in (take m s)) ≡ many_printed x (rest_in s)
    unfolding many_printed
    by_job (faulty k b) = refl
    by_job (sound j) =
        over_alike _ _ j _ _
        (λ l f. (
          many_in (length (rest_in (take m s))) j.settings.n (rest_many (take m s) (omega (arith, held_length)) size_same) l f,
          many_in (length (rest_in s)) j.settings.n (rest_many s (omega arith) refl) l f,
        ))

  over_same : many_output_of (take m s) ≡ many_output_of s
  unfolding many_output_of many_printed
  over_same =
      ⊎_elim
      (λ l.
      over_printed (take m s) (job_over (take m s) (rw size_same l) (omega (arith, held_length)))
      ∙ sym (over_printed s (job_over s l (omega arith))))
      (λ few. rw (job_same few) (by_job few (read_of (job_in s))))
      (lt_or_ge 65536 (job_size s))

-- what is printed is decided by the bytes that there is room for
pub room_enough : (s : List ℕ) (m : ℕ) → input_room ≤ m → many_output_of (take m s) ≡ many_output_of s
room_enough s m room =
    ⊎_elim (λ l. over_same s m room l) (λ l. ap many_output_of (take_all m s l)) (lt_or_ge m (length s))
