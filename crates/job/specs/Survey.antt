-- What is found of a job in one walk over its bytes: its fault, or of a sound job the header, the blocks, the counts and the places. Assumes nothing.
use Rattle.std.specs.Prelude.{Bool, true, cond, ◌&&◌, List, ℕ, ◌+◌, ◌*◌, ◌≤◌, ◌<◌, ◌≡◌, leb, replicate, Result, Ok, Err}
use Rattle.model.specs.Shape.{within, effects_of, theta_length, good_shape}
use Rattle.model.specs.declared.sizes.Shape.{Shape}
use Rattle.job.specs.declared.faults.Fault.{Fault}
use Rattle.job.specs.declared.head.Head.{Head}
use Rattle.job.specs.declared.sizes.Counts.{Counts}
use Rattle.job.specs.declared.sizes.Places.{Places}
use Rattle.job.specs.declared.survey.Survey.{Survey}
use Rattle.job.specs.Format.{blocks, shape_of}
use Rattle.job.specs.Heads.{head_of}
use Rattle.job.specs.Places.{counts_of, places_of}
use Rattle.job.specs.Faults.{Checked, fault_of}

-- no blocks
abbrev pub no_shape : Shape
no_shape = record { count = 0; m = replicate 8 0; k = replicate 8 0 }

-- the blocks of a job; more than 8 have no room in a shape, and are out of range anyway
unfoldable pub shape_kept : List ℕ → Shape
shape_kept s = cond (leb (blocks s) 8) (shape_of s) no_shape

-- the sizes that a header and blocks say are in range
abbrev pub fits_by : Head → Shape → Bool
fits_by h b = within 1 512 h.n && (within 1 16 h.p && good_shape b)

-- a header and blocks in range, of which the products are small
pub record Ranged (h : Head) (b : Shape) : Type 0 where
  pub good : good_shape b ≡ true
  pub rows : h.n ≤ 512
  pub wide : h.p ≤ 16
  pub weighed : h.weighted < 2
  pub moved : h.shifted < 2

-- how many numbers of each kind they say
abbrev pub counts_by : Head → Shape → Counts
counts_by h b =
    record { n = h.n; q = effects_of b; thetas = theta_length b; weights = h.weighted * h.n; offset = h.shifted * h.n; x = h.n * h.p }

-- where the lists begin behind the blocks, each behind the one before it
abbrev pub places_by : ℕ → Counts → Places
places_by a c =
    record {
      theta = a;
      y = a + 8 * c.thetas;
      weights = a + 8 * c.thetas + 8 * c.n;
      offset = a + 8 * c.thetas + 8 * c.n + 8 * c.weights;
      x = a + 8 * c.thetas + 8 * c.n + 8 * c.weights + 8 * c.offset;
      z = a + 8 * c.thetas + 8 * c.n + 8 * c.weights + 8 * c.offset + 8 * c.x;
    }

-- what a job says
abbrev pub read_off : List ℕ → Survey
read_off s = record { head = head_of s; shape = shape_of s; counts = counts_of s; places = places_of s }

-- what is found where the look at the job found f
unfoldable pub survey_by : Checked → List ℕ → Result Survey Fault
survey_by (Ok t) s = Ok (read_off s)
survey_by (Err e) s = Err e

-- what is found
abbrev pub survey_of : List ℕ → Result Survey Fault
survey_of s = survey_by (fault_of s) s
