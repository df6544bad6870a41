-- One returned number, and one content of every lent buffer: each contract is an equation with one definition. Assumes nothing.
use mathlib.Core.Path.{◌≡◌, ap}
use Prim.Native.Nat.{ℕ}
use Rattle.base.proofs.Unique.{one_value}
use Rattle.jobcall.specs.Told.{Buffers, Told, told}

-- `fit_job` with fit_job_of, `fit_job_theta` with fit_job_theta_of for t
pub told_unique : (t : Told) (r s : ℕ) (A B : Buffers) → told r A ≡ t → told s B ≡ t → (r ≡ s) × (A ≡ B)
told_unique t r s A B d e =
    let same : told r A ≡ told s B = one_value d e in
    (ap (λ (x : Told). x.returned) same, ap (λ (x : Told). x.after) same)
