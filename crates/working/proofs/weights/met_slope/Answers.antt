-- `working::met_slope` meets its contract: where the tests or the link say so the mean tells the derivative, and elsewhere it is taken anew.
use mathlib.Core.Path.{◌∙◌}
use Rattle.working.proofs.Slopes.{logit_slope, log_slope}
use Rattle.working.proofs.weights.met_slope.Goals as goal

pub returns-in-Logit : goal.returns-in-Logit
returns-in-Logit c = c.max.ensures ∙ logit_slope c.args.link c.args.eta c.args.mu c.in-Logit.is c.requires c.if-mu.true c.if-mu-2.true

pub returns-in-Log : goal.returns-in-Log
returns-in-Log c = log_slope c.args.link c.args.eta c.args.mu c.in-Log.is c.requires
