-- What an inner fit tells: its number, its account and, where it stopped, its results. Assumes nothing.
use Rattle.std.specs.Prelude.{List, [], ℕ, Float}
use Rattle.base.specs.Number.{zero_f, one_f}
use Rattle.model.specs.Answer.{end_number}
use Rattle.model.specs.Items.{tally}
use Rattle.model.specs.declared.counts.Account.{Account}
use Rattle.model.specs.declared.names.Start.TheVariants.{Usual}
use Rattle.rule.specs.Given.{Given, n_of}
use Rattle.rule.specs.Solve.{b_of}
use Rattle.rule.specs.Stop.{Mode}
use Rattle.rule.specs.Run.{Ending, stopped, failed, Outcome, start_means, run_of}
use Rattle.rule.specs.Results.{v_of, se_of, z_values, residuals_of}

-- all that is compared
pub record Told : Type 0 where
  pub number : ℕ
  pub iterations : ℕ
  pub account : Account
  pub deviance : Float
  pub beta : List Float
  pub se : List Float
  pub z : List Float
  pub u : List Float
  pub b : List Float
  pub mu : List Float
  pub eta : List Float
  pub residual : List Float
  pub v : List Float

-- with v and the standard errors
unfoldable pub told_mode : Given → Account → Mode → List Float → List Float → Told
told_mode G a m v se =
    record {
      number = 0;
      iterations = m.iterations;
      account = a;
      deviance = m.laplace;
      beta = m.beta;
      se = se;
      z = z_values G.design.p m.beta se;
      u = m.u;
      b = b_of G.design m.u;
      mu = m.mu;
      eta = m.eta;
      residual = residuals_of (n_of G) G.y m.mu;
      v = v;
    }

-- with v
unfoldable pub told_v : Given → Account → Mode → List Float → Told
told_v G a m v = told_mode G a m v (se_of G.design.p v)

-- by how it ended
unfoldable pub told_ending : Given → Account → Ending → Told
told_ending G a (stopped m) = told_v G a m (v_of G.design.p m.root)
told_ending G a (failed e) =
    record { number = end_number e; iterations = 0; account = a; deviance = zero_f; beta = []; se = []; z = []; u = []; b = []; mu = []; eta = []; residual = []; v = [] }

-- of an outcome
unfoldable pub told_outcome : Given → Outcome → Told
told_outcome G o = told_ending G (tally o.items) o.ending

-- of the inner fit at phi = 1 from its usual start, with at most L iterations
unfoldable pub told_of : Given → ℕ → Told
told_of G L = told_outcome G (run_of G one_f L (start_means Usual G))
