-- The account of work, its sums and its caps. Document 01, "The inner fit", its last paragraph, on counts; the request, demand 3; document 02, P7 and P9. Assumes nothing.
use Rattle.std.specs.Prelude.{◌≡◌, ℕ, ◌+◌, ◌*◌, ◌<◌, ◌≤◌, ◌^◌}
use Rattle.model.specs.declared.counts.Account.{Account}

infixl 65 ◌⊞◌
-- nothing was done yet: what a refusal reports and every sum begins with
abbrev pub no_counts : Account
no_counts = record { fits = 0; solves = 0; tries = 0; points = 0; eta = 0; mean = 0; pwrss = 0; ok = 0 }

-- the counts of two accounts together
unfoldable pub ◌⊞◌ : Account → Account → Account
a ⊞ b =
    record {
      fits = a.fits + b.fits;
      solves = a.solves + b.solves;
      tries = a.tries + b.tries;
      points = a.points + b.points;
      eta = a.eta + b.eta;
      mean = a.mean + b.mean;
      pwrss = a.pwrss + b.pwrss;
      ok = a.ok + b.ok;
    }

-- the account of one inner fit begun
abbrev pub one_fit : Account
one_fit = record { fits = 1; solves = 0; tries = 0; points = 0; eta = 0; mean = 0; pwrss = 0; ok = 0 }

-- the account of one solve
abbrev pub one_solve : Account
one_solve = record { fits = 0; solves = 1; tries = 0; points = 0; eta = 0; mean = 0; pwrss = 0; ok = 0 }

-- the account of n points
abbrev pub points_of : ℕ → Account
points_of n = record { fits = 0; solves = 0; tries = 0; points = n; eta = 0; mean = 0; pwrss = 0; ok = 0 }

-- k times the counts
abbrev pub times : ℕ → Account → Account
times k a =
    record {
      fits = k * a.fits;
      solves = k * a.solves;
      tries = k * a.tries;
      points = k * a.points;
      eta = k * a.eta;
      mean = k * a.mean;
      pwrss = k * a.pwrss;
      ok = k * a.ok;
    }

-- no count of a is above that of the cap
pub record AtMost (cap a : Account) : Type 0 where
  pub fits : a.fits ≤ cap.fits
  pub solves : a.solves ≤ cap.solves
  pub tries : a.tries ≤ cap.tries
  pub points : a.points ≤ cap.points
  pub eta : a.eta ≤ cap.eta
  pub mean : a.mean ≤ cap.mean
  pub pwrss : a.pwrss ≤ cap.pwrss
  pub ok : a.ok ≤ cap.ok

-- the tries by what became of them add up to the tries (document 02, P9)
abbrev pub AddsUp : Account → Type 0
AddsUp a = a.eta + a.mean + a.pwrss + a.ok ≡ a.tries

-- the accepted steps do not exceed the solves (document 02, P9)
abbrev pub Accepts : Account → Type 0
Accepts a = a.ok ≤ a.solves

-- the most that an inner fit can do, at the largest limit: 1000 solves, 100 tries a solve (the inverse link), 7,000 points (several blocks); each refused part is capped as the tries, the accepted as the solves
abbrev pub inner_cap : Account
inner_cap = record { fits = 1; solves = 1000; tries = 100000; points = 7000; eta = 100000; mean = 100000; pwrss = 100000; ok = 1000 }

-- the most that a call can do: 241 inner fits, the last of them after the 240 rounds of the dispersion loop
abbrev pub call_cap : Account
call_cap =
    record { fits = 241; solves = 241000; tries = 24100000; points = 1687000; eta = 24100000; mean = 24100000; pwrss = 24100000; ok = 241000 }

-- the account of a call keeps to its caps
abbrev pub Capped : Account → Type 0
Capped a = AtMost call_cap a

-- each sum of two counts is below 2 ^ 64
pub record SumFits (a b : Account) : Type 0 where
  pub fits : a.fits + b.fits < 2 ^ 64
  pub solves : a.solves + b.solves < 2 ^ 64
  pub tries : a.tries + b.tries < 2 ^ 64
  pub points : a.points + b.points < 2 ^ 64
  pub eta : a.eta + b.eta < 2 ^ 64
  pub mean : a.mean + b.mean < 2 ^ 64
  pub pwrss : a.pwrss + b.pwrss < 2 ^ 64
  pub ok : a.ok + b.ok < 2 ^ 64
