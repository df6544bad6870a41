-- A sound job with another limit in the limit's field is read as the call that it was, with that limit. Document 02, P13. Assumes nothing.
use Prim.{tt}
use Rattle.std.specs.Prelude.{Some, Ok}
use mathlib.Core.Path.{◌≡◌, refl}
use mathlib.Core.List.{List}
use Prim.Native.Nat.{ℕ, ◌≤◌}
use native.Mathlib.Omega.{arith}
use borrow.Author.Tests.{le-leb}
use Rattle.model.specs.Settings.{good_limit}
use Rattle.job.specs.Faults.{is_sound, fault_of}
use Rattle.job.specs.Job.{Job, job_of, sound, read_of}
use Rattle.job.specs.Write.{Version, version_of, job_bytes}
use Rattle.job_back.specs.Sayable.{Sayable}
use Rattle.job_back.proofs.Back.{read_back}
use Rattle.job_back.proofs.Said.{read_sayable}
use Rattle.job_back.proofs.Versions.{job_length}

-- the job with the limit M
abbrev pub limited_job : ℕ → Job → Job
limited_job M j =
    let t = j.settings in
    record {
      settings = record { family = t.family; link = t.link; n_agq = t.n_agq; limit = Some M; n = t.n; p = t.p; rows = t.rows; entries = t.entries; start = t.start };
      shape = j.shape;
      theta = j.theta;
      y = j.y;
      weights = j.weights;
      offset = j.offset;
      x = j.x;
      z = j.z;
    }

-- what was read, written in its version with the limit M
abbrev pub limited_bytes : ℕ → List ℕ → List ℕ
limited_bytes M s = job_bytes (version_of s) (limited_job M (job_of s))

limited_sayable : (v : Version) (M : ℕ) (j : Job) → M ≤ 1000 → Sayable v j → Sayable v (limited_job M j)
unfolding good_limit
limited_sayable v M j m q =
    let t = q.settings in
    record {
      settings = record { some = t.some; few = t.few; column = t.column; columns = t.columns; wish = t.wish; limit = le-leb M 1000 m };
      start = q.start;
      shape = q.shape;
      effects = q.effects;
      theta = q.theta;
      y = q.y;
      weights = q.weights;
      offset = q.offset;
      x = q.x;
      z = q.z;
      theta_doubles = q.theta_doubles;
      y_doubles = q.y_doubles;
      weights_doubles = q.weights_doubles;
      offset_doubles = q.offset_doubles;
      x_doubles = q.x_doubles;
      short = omega (arith, q.short, job_length v (limited_job M j), job_length v j);
    }

pub limited_read : (s : List ℕ) (M : ℕ) → fault_of s ≡ Ok tt → M ≤ 1000 → read_of (limited_bytes M s) ≡ sound (limited_job M (job_of s))
unfolding is_sound
limited_read s M e m = read_back (version_of s) (limited_job M (job_of s)) (limited_sayable (version_of s) M (job_of s) m (read_sayable s (rw e refl)))
