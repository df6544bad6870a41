-- What a call over a list of blocks shows to C: an answer of plain numbers, and the lent slices. Document 01, "Numbers of an answer"; document 02, P5 and P9. Assumes nothing.
use Rattle.std.specs.Prelude.{cond, List}
use Rattle.model.specs.declared.ends.Answer.{Answer}
use Rattle.model.specs.Inputs.{Inputs}
use Rattle.call.specs.Call.{Lent, Left, call_of}
use Rattle.blocks.specs.Blocks.{shape_of}
use Rattle.blocks.specs.declared.Block.{Block}
use Rattle.blocks_coded.specs.Coded.{settings_of}
use Rattle.blocks_coded.specs.declared.CodedSettings.{CodedSettings}
use Rattle.blocks_coded.specs.declared.PlainAnswer.{PlainAnswer}

-- the numbers of an answer, of its account, why, and the parts of the tries
unfoldable pub plain_of : Answer → PlainAnswer
plain_of a =
    record {
      number = a.number;
      deviance = a.deviance;
      phi = a.phi;
      order = a.order;
      flag = cond a.converged 1 0;
      iterations = a.iterations;
      fits = a.account.fits;
      solves = a.account.solves;
      tries = a.account.tries;
      points = a.account.points;
      why = a.why;
      eta = a.account.eta;
      mean = a.account.mean;
      pwrss = a.account.pwrss;
      ok = a.account.ok;
    }

-- what is returned, and the lent slices afterwards
pub record Shown : Type 0 where
  pub returned : PlainAnswer
  pub lent : Lent

abbrev pub shown : PlainAnswer → Lent → Shown
shown r L = record { returned = r; lent = L }

-- what a call leaves, with its answer in plain numbers
unfoldable pub shown_by : Left → Shown
shown_by l = shown (plain_of l.answer) l.lent

-- the call: that of the named settings and the list's shape
unfoldable pub fit_blocks_of : CodedSettings → List Block → Inputs → Lent → Shown
fit_blocks_of c bs I L = shown_by (call_of (settings_of c) (shape_of bs) I L)
