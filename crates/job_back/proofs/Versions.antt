-- One call in both versions: with the old start it can be said in version 1 where it can be in version 2, a byte shorter, and both are read alike. Assumes nothing.
use mathlib.Core.Path.{◌≡◌, sym, ◌∙◌}
use Prim.Native.Nat.{◌+◌}
use native.Mathlib.Omega.{arith}
use lib.ListN.{length, length-append}
use Rattle.model.specs.declared.names.Start.TheVariants.{Usual}
use Rattle.job.specs.Job.{Job, read_of}
use Rattle.job.specs.Write.{Version, version1, version2, head_length, head_bytes, body_bytes, job_bytes}
use Rattle.job_back.specs.Sayable.{Sayable}
use Rattle.job_back.proofs.Places.{head_length_lem}
use Rattle.job_back.proofs.Back.{read_back}

-- the header's bytes, and then those that both versions have
pub job_length : (v : Version) (j : Job) → length (job_bytes v j) ≡ head_length v + length (body_bytes j)
unfolding job_bytes
job_length v j = length-append (head_bytes v j) (body_bytes j) ∙ rw (head_length_lem v j)

pub first_sayable : (j : Job) → j.settings.start ≡ Usual → Sayable version2 j → Sayable version1 j
first_sayable j u q =
    record {
      settings = q.settings;
      start = λ e. u;
      shape = q.shape;
      effects = q.effects;
      theta = q.theta;
      y = q.y;
      weights = q.weights;
      offset = q.offset;
      x = q.x;
      z = q.z;
      theta_doubles = q.theta_doubles;
      y_doubles = q.y_doubles;
      weights_doubles = q.weights_doubles;
      offset_doubles = q.offset_doubles;
      x_doubles = q.x_doubles;
      short = omega (arith, q.short, job_length version1 j, job_length version2 j);
    }

pub versions_alike : (j : Job) → j.settings.start ≡ Usual → Sayable version2 j → read_of (job_bytes version1 j) ≡ read_of (job_bytes version2 j)
versions_alike j u q = read_back version1 j (first_sayable j u q) ∙ sym (read_back version2 j q)
