-- `jobcall::put_counts` meets its contract: its stores stand one after another from the front on. Assumes nothing.
use Rattle.jobcall.specs.Told.{counts_of}
use Rattle.jobcall.proofs.Stores.{stored_at, stored_laid}
use Rattle.jobcall.proofs.counts.put_counts.Goals as goal

pub returns : goal.returns
unfolding counts_of stored_at
returns c = rw (← c.flag-settled.ensures) (stored_laid _ c.args.counts.now c.requires)
