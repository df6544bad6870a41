-- Closed settings, and a closed answer, as C has them, by computation. Assumes nothing.
use Rattle.std.specs.Prelude.{Option, Some, None}
use mathlib.Core.Path.{◌≡◌, refl}
use mathlib.Core.Bool.{Bool, true, false}
use Prim.Native.Nat.{ℕ}
use lib.Ieee.{Float}
use Rattle.model.specs.Names.{family_coded, link_coded, start_coded}
use Rattle.model.specs.declared.ends.Answer.{Answer}
use Rattle.model.specs.declared.names.Family.{Family}
use Rattle.model.specs.declared.names.Family.TheVariants.{Binomial, Poisson, Gaussian, Gamma}
use Rattle.model.specs.declared.names.Link.{Link}
use Rattle.model.specs.declared.names.Link.TheVariants.{Logit, Log, Inverse, Sqrt}
use Rattle.model.specs.declared.names.Start.{Start}
use Rattle.model.specs.declared.names.Start.TheVariants.{Usual, Trials}
use Rattle.model.specs.declared.sizes.Settings.{Settings}
use Rattle.job.specs.Job.{limit_from}
use Rattle.blocks_coded.specs.Coded.{named, with_start, with_link, with_family, settings_of}
use Rattle.blocks_coded.specs.Plain.{plain_of}
use Rattle.blocks_coded.specs.declared.CodedSettings.{CodedSettings}
use Rattle.blocks_coded.specs.declared.PlainAnswer.{PlainAnswer}

-- settings by their codes, and by their names
abbrev coded : ℕ → ℕ → ℕ → ℕ → CodedSettings
coded family link limit start = record { family = family; link = link; n_agq = 3; limit = limit; n = 4; p = 2; rows = 5; entries = 6; start = start }

abbrev meant : Family → Link → Option ℕ → Start → Settings
meant family link limit start = record { family = family; link = link; n_agq = 3; limit = limit; n = 4; p = 2; rows = 5; entries = 6; start = start }

first_codes : settings_of (coded 0 0 1022 1) ≡ meant Binomial Logit (Some 1022) Trials
unfolding settings_of with_family with_link with_start named family_coded link_coded start_coded limit_from
first_codes = refl

last_codes : settings_of (coded 3 6 1023 0) ≡ meant Gamma Sqrt None Usual
unfolding settings_of with_family with_link with_start named family_coded link_coded start_coded limit_from
last_codes = refl

other_codes : (settings_of (coded 1 3 0 0) ≡ meant Poisson Log (Some 0) Usual) × (settings_of (coded 2 5 1000 1) ≡ meant Gaussian Inverse (Some 1000) Trials)
unfolding settings_of with_family with_link with_start named family_coded link_coded start_coded limit_from
other_codes = (refl, refl)

-- the first codes that name nothing
no_family : settings_of (coded 4 3 100 1) ≡ meant Poisson Logit (Some 100) Usual
unfolding settings_of with_family with_link with_start named family_coded link_coded start_coded limit_from
no_family = refl

no_link : settings_of (coded 0 7 1023 1) ≡ meant Poisson Logit None Usual
unfolding settings_of with_family with_link with_start named family_coded link_coded start_coded limit_from
no_link = refl

no_start : settings_of (coded 0 0 1023 2) ≡ meant Poisson Logit None Usual
unfolding settings_of with_family with_link with_start named family_coded link_coded start_coded limit_from
no_start = refl

-- an answer with numbers that all differ
module _ (d p : Float) where
  abbrev answered : Bool → Answer
  answered settled = record { number = 0; deviance = d; phi = p; order = 7; why = 2; converged = settled; iterations = 3; account = record { fits = 4; solves = 5; tries = 6; points = 8; eta = 9; mean = 10; pwrss = 11; ok = 12 } }

  abbrev told : ℕ → PlainAnswer
  told flag = record { number = 0; deviance = d; phi = p; order = 7; flag = flag; iterations = 3; fits = 4; solves = 5; tries = 6; points = 8; why = 2; eta = 9; mean = 10; pwrss = 11; ok = 12 }

  flags : (plain_of (answered true) ≡ told 1) × (plain_of (answered false) ≡ told 0)
  unfolding plain_of
  flags = (refl, refl)
