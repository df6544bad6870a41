-- `table::start_ok` meets its contract: each arm is the equation of its start and family.
use Rattle.table.specs.Tests.{start_fits}
use Rattle.table.proofs.numbers.start_ok.Goals as goal

pub returns-in-Usual : goal.returns-in-Usual
unfolding start_fits
returns-in-Usual c = rw c.in-Usual.is

pub returns-in-Binomial : goal.returns-in-Binomial
unfolding start_fits
returns-in-Binomial c = rw (c.weights_ok.ensures, c.in-Binomial.is, c.in-Trials.is)

pub returns-in-Poisson : goal.returns-in-Poisson
unfolding start_fits
returns-in-Poisson c = rw (c.in-Poisson.is, c.in-Trials.is)

pub returns-in-Gaussian : goal.returns-in-Gaussian
unfolding start_fits
returns-in-Gaussian c = rw (c.in-Gaussian.is, c.in-Trials.is)

pub returns-in-Gamma : goal.returns-in-Gamma
unfolding start_fits
returns-in-Gamma c = rw (c.in-Gamma.is, c.in-Trials.is)
