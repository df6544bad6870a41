-- `joint::joint_answer` meets its contract: its cases are the definition's.
use mathlib.Core.Path.{refl}
use Rattle.joint.specs.Joint.{joint_by, joint_answer}
use Rattle.joint.proofs.steps.joint_answer.Goals as goal

pub returns-in-Err : goal.returns-in-Err
unfolding joint_answer joint_by
returns-in-Err c = rw c.in-Err.is refl

pub returns-in-Ok : goal.returns-in-Ok
unfolding joint_answer joint_by
returns-in-Ok c = rw c.in-Ok.is refl
