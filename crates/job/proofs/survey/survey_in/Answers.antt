-- `job::survey_in` meets its contract: the length is demanded first, then the header and the blocks. Assumes nothing.
use mathlib.Core.Path.{refl, sym, ◌∙◌}
use Prim.Native.Nat.{◌≤◌}
use lib.ListN.{length}
use borrow.Author.Tests.{leb-true}
use Rattle.job.proofs.FaultLaws.{allowed, refused}
use Rattle.job.proofs.SurveyLaws.{whole_long, whole_faulty, whole_back}
use Rattle.job.proofs.survey.survey_in.Goals.{In_ok-demand}
use Rattle.job.proofs.survey.survey_in.Goals as goal

-- the length that was demanded
short : (c : In_ok-demand) → length c.args.s.now ≤ 65536
short c = leb-true _ 65536 (allowed _ 25 65536 _ (sym c.demand.ensures ∙ c.in_ok-demand.was))

pub returns-in_err-demand : goal.returns-in_err-demand
returns-in_err-demand c = whole_long c.args.s.now _ _ _ refl (sym c.demand.ensures ∙ c.in_err-demand.was) (refused _ _ c.from_residual.ensures.1)

pub front_fault-requires : goal.front_fault-requires
front_fault-requires c = (short (goal.at.front_fault-requires c).In_ok-demand, c.head_in-head.ensures)

pub returns-in_err-front_fault : goal.returns-in_err-front_fault
returns-in_err-front_fault c =
    whole_faulty c.args.s.now c.front_fault.result _ _ (short (goal.at.returns-in_err-front_fault c).In_ok-demand) c.front_fault.ensures c.in_err-front_fault.was
    (refused _ _ c.from_residual-in_err-front_fault.ensures.1)

pub survey_back-requires : goal.survey_back-requires
survey_back-requires c = (short (goal.at.survey_back-requires c).In_ok-demand, c.head_in-head.ensures)

pub returns : goal.returns
returns c =
    c.survey_back.ensures ∙ whole_back c.args.s.now c.front_fault.result _ (short (goal.at.returns c).In_ok-demand) c.front_fault.ensures c.in_ok-front_fault.was
