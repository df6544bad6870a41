-- A job that asks for trial counts, with weights absent or all 1, is printed as the job of version 1 with the same numbers, bit for bit. Document 02, P10. Assumes nothing.
use Prim.{tt}
use Rattle.std.specs.Prelude.{Ok}
use mathlib.Core.Path.{◌≡◌, refl, sym, ap, ◌∙◌}
use mathlib.Core.List.{List}
use Prim.Native.Nat.{ℕ, ◌≤◌, ◌<◌}
use native.Mathlib.Omega.{arith}
use Rattle.base.specs.Number.{one_f}
use Rattle.model.specs.declared.names.Start.{Start}
use Rattle.model.specs.declared.names.Start.TheVariants.{Usual, Trials}
use Rattle.family.specs.declared.carried.CarriedFamily.TheVariants.{Binomial}
use Rattle.family.specs.declared.carried.CarriedLink.{CarriedLink}
use Rattle.family_lists.specs.Lists.{weight_at}
use Rattle.job.specs.Faults.{is_sound, fault_of}
use Rattle.job.specs.Job.{Job, job_of, read_by, read_of}
use Rattle.job.specs.Write.{Version, version1, version2, version_of, head_length, job_bytes}
use Rattle.job_back.specs.Sayable.{Sayable}
use Rattle.job_back.proofs.Back.{read_back}
use Rattle.job_back.proofs.Said.{read_sayable}
use Rattle.job_back.proofs.Versions.{job_length}
use Rattle.call.proofs.Starts.{started, call_start}
use Rattle.jobfit.specs.Done.{inputs_of}
use Rattle.output.specs.Output.{slices_for, call_for, left_text, output_by, output_of}
use Rattle.printed.specs.Asked.{verdict_on}

-- the job with another start
abbrev pub started_job : Start → Job → Job
started_job start j =
    record { settings = started start j.settings; shape = j.shape; theta = j.theta; y = j.y; weights = j.weights; offset = j.offset; x = j.x; z = j.z }

-- version 1 has the shortest header
six : (v : Version) → head_length version1 ≤ head_length v
six version1 = omega arith
six version2 = omega arith

-- with the usual start every job can be said in version 1
pub usual_sayable : (v : Version) (j : Job) → Sayable v j → Sayable version1 (started_job Usual j)
usual_sayable v j q =
    let t = q.settings in
    record {
      settings = record { some = t.some; few = t.few; column = t.column; columns = t.columns; wish = t.wish; limit = t.limit };
      start = λ e. refl;
      shape = q.shape;
      effects = q.effects;
      theta = q.theta;
      y = q.y;
      weights = q.weights;
      offset = q.offset;
      x = q.x;
      z = q.z;
      theta_doubles = q.theta_doubles;
      y_doubles = q.y_doubles;
      weights_doubles = q.weights_doubles;
      offset_doubles = q.offset_doubles;
      x_doubles = q.x_doubles;
      short = omega (arith, q.short, six v, job_length version1 (started_job Usual j), job_length v j);
    }

module _ (s : List ℕ) (l : CarriedLink) (e : fault_of s ≡ Ok tt) (trials : (job_of s).settings.start ≡ Trials) (v : verdict_on s ≡ Ok (Binomial, l))
    (ones : (i : ℕ) → i < (job_of s).settings.n → weight_at (job_of s).weights i ≡ one_f) where
  sayable : Sayable (version_of s) (job_of s)
  unfolding is_sound
  sayable = read_sayable s (rw e refl)

  -- the call as it was asked, and with the usual start
  call_alike : call_for (job_of s) ≡ call_for (started_job Usual (job_of s))
  unfolding slices_for
  call_alike =
      let j = job_of s in
      let asked : started_job Trials j ≡ j = ap (λ (x : Start). started_job x j) (sym trials) in
      ap call_for (sym asked)
      ∙ call_start j.settings j.shape (inputs_of j) (slices_for j.settings) l (rw (← trials) v) (λ i b. sayable.y_doubles i (omega (arith, sayable.y, b))) ones

  pub start_printed : output_of s ≡ output_of (job_bytes version1 (started_job Usual (job_of s)))
  unfolding output_of output_by read_of read_by
  start_printed = rw e (ap left_text call_alike ∙ sym (ap output_by (read_back version1 (started_job Usual (job_of s)) (usual_sayable (version_of s) (job_of s) sayable))))
