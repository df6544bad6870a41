-- The floors: which derivatives and variances are kept off zero, and which are not. Document 01, module 3, and document 02, P8. Assumes nothing.
use mathlib.Core.Path.{◌≡◌, refl, sym, ap}
use mathlib.Core.Bool.{Bool, true, false}
use lib.Dec.{T}
use lib.Ieee.{Float, nan, inf, fin, binary64, neg, add, sub, mul, lt, eq, le, is_nan, of_bits}
use lib.Ieee.Bits.{is_true}
use lib.Ieee.Positive.{positive, above_of_le, mul_mono}
use Rattle.base.specs.Number.{◌⊖◌, ◌⊗◌, bits, zero_f, one_f, eps_f, abs_f, max_f, clamp_f}
use Rattle.elementary.specs.Exp.{exp_of}
use Rattle.elementary.proofs.ExpFacts.{exp_nan, exp_minus_inf, exp_never_below_zero}
use Rattle.normal.proofs.NormalFacts.{pdf_nan, pdf_far}
use Rattle.family.specs.Link.{clamp_e, mu_eta}
use Rattle.family.specs.Family.{variance_of, initialize_mu}
use Rattle.family.specs.declared.carried.CarriedLink.TheVariants.{Logit, Probit, Cloglog, Log, Inverse, Sqrt}
use Rattle.family.specs.declared.carried.CarriedFamily.TheVariants.{Binomial, Poisson, Gamma}
use Rattle.base.proofs.Doubles.{ff}
use Rattle.base.proofs.Order.{max_from, le_turned, clamp_again}

floor : (x : Float) → le eps_f (max_f x eps_f) ≡ true
unfolding is_nan of_bits
floor x = max_from x eps_f refl

-- ---- derivatives: at least E, also of a NaN
pub logit_slope_from : (eta : Float) → le eps_f (mu_eta Logit eta) ≡ true
unfolding mu_eta
logit_slope_from eta = floor _

pub probit_slope_from : (eta : Float) → le eps_f (mu_eta Probit eta) ≡ true
unfolding mu_eta
probit_slope_from eta = floor _

pub cloglog_slope_from : (eta : Float) → le eps_f (mu_eta Cloglog eta) ≡ true
unfolding mu_eta
cloglog_slope_from eta = floor _

pub sqrt_slope_from : (eta : Float) → le eps_f (mu_eta Sqrt eta) ≡ true
unfolding mu_eta
sqrt_slope_from eta = floor _

-- probit's is E of a NaN, which `max` drops, and at both infinities, where the density is 0
pub probit_slope_of_nan : mu_eta Probit nan ≡ eps_f
unfolding mu_eta max_f lt is_nan of_bits
probit_slope_of_nan = rw pdf_nan

pub probit_slope_far : (s : Bool) → mu_eta Probit (inf s) ≡ eps_f
unfolding mu_eta max_f lt le eq is_nan abs_f of_bits
probit_slope_far s = rw (pdf_far (inf s) refl)

-- the inverse link's: at most -E, as the minus comes last
pub inverse_slope_to : (eta : Float) → le (mu_eta Inverse eta) (neg eps_f) ≡ true
unfolding mu_eta
inverse_slope_to eta = le_turned eps_f _ (floor _)

-- the log link has no floor: the derivative is the mean, which is not below zero, is 0 at -infinity and NaN of NaN
pub log_slope_is_exp : (eta : Float) → mu_eta Log eta ≡ exp_of eta
unfolding mu_eta
log_slope_is_exp eta = refl

pub log_slope_not_below_zero : (eta : Float) → lt (mu_eta Log eta) zero_f ≡ false
unfolding mu_eta
log_slope_not_below_zero eta = exp_never_below_zero eta

pub log_slope_can_be_zero : mu_eta Log (inf true) ≡ zero_f
unfolding mu_eta
log_slope_can_be_zero = exp_minus_inf

pub log_slope_of_nan : mu_eta Log nan ≡ nan
unfolding mu_eta
log_slope_of_nan = exp_nan

-- ---- variances
-- Poisson: at least E, also of a NaN
pub poisson_variance_from : (mu : Float) → le eps_f (variance_of Poisson mu) ≡ true
unfolding variance_of
poisson_variance_from mu = floor mu

-- binomial: only by the clamp of its mean, so that of a NaN it is NaN
pub binomial_variance_by_clamp : (mu : Float) → variance_of Binomial mu ≡ variance_of Binomial (clamp_e mu)
unfolding variance_of clamp_e le lt eq sub add neg of_bits
binomial_variance_by_clamp mu = ap (λ m. m ⊗ (one_f ⊖ m)) (sym (clamp_again eps_f (one_f ⊖ eps_f) mu refl refl refl))

pub binomial_variance_of_nan : variance_of Binomial nan ≡ nan
unfolding variance_of clamp_e clamp_f lt sub add mul neg of_bits
binomial_variance_of_nan = refl

-- at the clamp's two ends it is E (1 - E) and (1 - E) (1 - (1 - E)), both of the bits 3CAFFFFFFFFFFFFE
pub binomial_variance_at_ends : (variance_of Binomial zero_f ≡ bits 0x3caf_ffff_ffff_fffe) × (variance_of Binomial one_f ≡ bits 0x3caf_ffff_ffff_fffe)
unfolding variance_of clamp_e clamp_f lt sub add mul neg of_bits
binomial_variance_at_ends = (refl, refl)

-- Gamma: at least E², 2 ^ -104, also of a NaN: a square grows with its number
asked : (b : Bool) → b ≡ true → T b
asked true h = tt
asked false h = absurd (ff h)

square_from : (m : Float) → le eps_f m ≡ true → le (bits 0x3970_0000_0000_0000) (m ⊗ m) ≡ true
unfolding le lt eq mul of_bits
square_from nan h = absurd (ff h)
square_from (inf true) h = absurd (ff h)
square_from (inf false) h = refl
square_from (fin s n e) h =
    let m = fin s n e in
    let l : T (le eps_f m) = asked (le eps_f m) h in
    let p : T (positive m) = above_of_le eps_f m tt l in
    is_true _ (mul_mono binary64 eps_f m eps_f m tt p tt p l l)

pub gamma_variance_from : (mu : Float) → le (bits 0x3970_0000_0000_0000) (variance_of Gamma mu) ≡ true
unfolding variance_of
gamma_variance_from mu = square_from (max_f mu eps_f) (floor mu)

pub gamma_variance_of_nan : variance_of Gamma nan ≡ bits 0x3970_0000_0000_0000
unfolding variance_of max_f lt is_nan mul of_bits
gamma_variance_of_nan = refl

-- ---- starts: Gamma's is at least E, also of a NaN
pub gamma_start_from : (y : Float) → le eps_f (initialize_mu Gamma y) ≡ true
unfolding initialize_mu
gamma_start_from y = floor y
