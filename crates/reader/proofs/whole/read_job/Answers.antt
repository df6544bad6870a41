-- `reader::read_job` meets its contract: what is refused leaves the lent lists as they were, a sound job is filled in. Assumes nothing.
use mathlib.Core.Path.{◌≡◌, refl, sym, ap, ◌∙◌}
use mathlib.Core.Bool.{true}
use Rattle.job.specs.declared.survey.Survey.{Survey}
use Rattle.job.specs.Faults.{is_sound, fault_of}
use Rattle.job.specs.Survey.{read_off}
use Rattle.job.proofs.FaultLaws.{refused}
use Rattle.job.proofs.SurveyLaws.{fault_in}
use Rattle.reader.proofs.Rooms.{no_room, surveyed, surveyed_at, refuses, accepts}
use Rattle.reader.proofs.whole.read_job.Goals.{In_ok-survey}
use Rattle.reader.proofs.whole.read_job.Goals as goal

-- what was found of a sound job
found : (c : In_ok-survey) → (is_sound (fault_of c.args.s.now) ≡ true) × (c.in_ok-survey.survey ≡ read_off c.args.s.now)
found c = surveyed _ _ _ c.survey_in.ensures c.in_ok-survey.was

pub returns-then-not-room_in : goal.returns-then-not-room_in
returns-then-not-room_in c = refuses _ _ _ _ refl (no_room _ _ (sym c.room_in.ensures ∙ c.if-not-room_in.true))

pub returns-in_err-survey : goal.returns-in_err-survey
returns-in_err-survey c =
    refuses _ _ _ _ (refused _ _ c.from_residual.ensures.1)
    (surveyed_at _ _ c.survey_in.result _ (sym c.room_in.ensures ∙ c.if-not-room_in.false) c.survey_in.ensures (ap fault_in c.in_err-survey.was))

pub fill_job-entries-requires-clause-s_value : goal.fill_job-entries-requires-clause-s_value
fill_job-entries-requires-clause-s_value c = (found (goal.at.fill_job-entries-requires-clause-s_value c).In_ok-survey).0

pub fill_job-entries-requires-clause-c_value : goal.fill_job-entries-requires-clause-c_value
fill_job-entries-requires-clause-c_value c = let v = (found (goal.at.fill_job-entries-requires-clause-c_value c).In_ok-survey).1 in (ap (λ (x : Survey). x.counts) v, ap (λ (x : Survey). x.places) v)

pub header_in-header-requires : goal.header_in-header-requires
header_in-header-requires c =
    let v = (found (goal.at.header_in-header-requires c).In_ok-survey).1 in
    (ap (λ (x : Survey). x.head) v, ap (λ (x : Survey). x.counts) v, c.fill_job-entries.ensures.0)

pub returns : goal.returns
returns c =
    let v = (found (goal.at.returns c).In_ok-survey).1 in
    accepts _ _ _ _ _
    (surveyed_at _ _ c.survey_in.result _ (sym c.room_in.ensures ∙ c.if-not-room_in.false) c.survey_in.ensures (ap fault_in c.in_ok-survey.was))
    c.header_in-header.ensures (ap (λ (x : Survey). x.shape) v) c.fill_job-entries.ensures.1
