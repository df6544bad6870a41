-- `reader::header_in` meets its contract: each number is the one that was found, and a built list is as long as it says. Assumes nothing.
use Prim.Native.Nat.{◌*◌}
use Rattle.base.proofs.Fills.{build_length}
use Rattle.job.specs.Format.{weighted, shifted, obs, thetas, theta_at, weights_at, offset_at, number}
use Rattle.job.specs.Job.{settings_of, job_of}
use Rattle.reader.specs.Reading.{header_of}
use Rattle.reader.proofs.whole.header_in.Goals as goal

pub returns : goal.returns
unfolding header_of job_of settings_of
returns c =
    let s = c.args.s.now in
    rw (
      build_length (number s (theta_at s)) (thetas s),
      build_length (number s (weights_at s)) (weighted s * obs s),
      build_length (number s (offset_at s)) (shifted s * obs s),
      c.family_in.ensures,
      c.link_in.ensures,
      c.limit_in.ensures,
      c.start_in.ensures,
      c.requires.0,
      c.requires.1,
      c.requires.2,
    )
