-- Case J is a call that a job can say, so what is proved of such calls is not empty. Assumes nothing.
use mathlib.Core.Path.{◌≡◌, refl}
use mathlib.Core.List.{[], ◌∷◌}
use Prim.Native.Nat.{ℕ, zero, suc, ◌≤◌}
use native.Mathlib.Omega.{arith}
use lib.Ieee.{binary64}
use lib.Ieee.Bits.{of_bits-fits}
use lib.ListN.{length}
use Rattle.base.specs.Number.{bits}
use Rattle.base.specs.Sum.{all_to}
use Rattle.model.specs.Shape.{total_to, block_effects, block_thetas, good_block, good_shape}
use Rattle.model.specs.Settings.{good_limit}
use Rattle.job.specs.Lists.{counts, laid}
use Rattle.job.specs.Write.{present, version1, job_bytes}
use Rattle.job.proofs.JobCases.{job_j, case_j_written}
use Rattle.job_back.specs.Sayable.{Doubles, Sayable}

one_double : (b : ℕ) → Doubles (bits b ∷ [])
one_double b zero l = of_bits-fits binary64 b
one_double b (suc i) l = absurd (omega arith)

no_double : Doubles []
no_double i l = absurd (omega arith)

short_j : length (job_bytes version1 job_j) ≤ 65536
short_j = rw case_j_written (omega arith)

pub sayable_j : Sayable version1 job_j
unfolding good_limit good_shape good_block total_to block_effects block_thetas all_to counts laid present
sayable_j =
    record {
      settings = record { some = omega arith; few = omega arith; column = omega arith; columns = omega arith; wish = omega arith; limit = refl };
      start = λ e. refl;
      shape = record { good = refl; m_zero = refl; k_zero = refl };
      effects = refl;
      theta = refl;
      y = refl;
      weights = refl;
      offset = refl;
      x = refl;
      z =
          record {
            starts = refl;
            first = refl;
            last = refl;
            rising = λ r l. let e : r ≡ 0 = omega arith in rw e (omega arith);
            columns = refl;
            values = refl;
            low = λ e l. let k : e ≡ 0 = omega arith in rw k (omega arith);
            doubles = one_double 0x3ff0_0000_0000_0000;
          };
      theta_doubles = one_double 0x3ff0_0000_0000_0000;
      y_doubles = one_double 0x4000_0000_0000_0000;
      weights_doubles = no_double;
      offset_doubles = no_double;
      x_doubles = one_double 0x3ff0_0000_0000_0000;
      short = short_j;
    }
