-- What reading a job answers and leaves in the lent lists. Document 01, "The job and the program", and "Numbers of an answer" for number 2. Assumes nothing.
use Rattle.std.specs.Prelude.{◌≡◌, Bool, ◌&&◌, List, ℕ, leb, length, Result, Ok, Err}
use Rattle.model.specs.Inputs.{Inputs}
use Rattle.job.specs.declared.faults.Fault.{Fault}
use Rattle.job.specs.Lists.{laid}
use Rattle.job.specs.Faults.{Checked, demand, ◌▹◌, fault_of}
use Rattle.job.specs.Job.{Job, job_of}
use Rattle.reader.specs.declared.whole.Header.{Header}
use Rattle.reader.specs.declared.whole.Found.{Found}

-- lent lists have room for any job that is not refused
unfoldable pub roomy : Inputs → Bool
roomy b =
    leb 288 (length b.theta) && (leb 512 (length b.y) && (leb 512 (length b.weights) && (leb 512 (length b.offset)
    && (leb 8192 (length b.x) && (leb 33 (length b.starts) && (leb 8192 (length b.columns) && leb 8192 (length b.values)))))))

-- number 2 where the room is missing, whatever the job; else the job's own fault
unfoldable pub read_fault : List ℕ → Inputs → Checked
read_fault s b = demand (roomy b) 2 0 ▹ fault_of s

-- what a caller is told of a job beside its lists: the plain numbers of the call, and how long the lists are that a job may lack or whose length its blocks decide
unfoldable pub header_of : Job → Header
header_of j = record { settings = j.settings; thetas = length j.theta; weights = length j.weights; offset = length j.offset }

-- what is found: a refusal, or the job's header and beside it its blocks
unfoldable pub found_by : Checked → Job → Result Found Fault
found_by (Ok t) j = Ok (record { header = header_of j; shape = j.shape })
found_by (Err e) j = Err e

-- the lent lists with a job's over their fronts
unfoldable pub filled : Job → Inputs → Inputs
filled j b =
    record {
      theta = laid j.theta b.theta;
      y = laid j.y b.y;
      weights = laid j.weights b.weights;
      offset = laid j.offset b.offset;
      x = laid j.x b.x;
      starts = laid j.z.starts b.starts;
      columns = laid j.z.columns b.columns;
      values = laid j.z.values b.values;
    }

-- the lent lists afterwards: a refused job leaves them as they were
unfoldable pub left_by : Checked → Job → Inputs → Inputs
left_by (Ok t) j b = filled j b
left_by (Err e) j b = b

-- reading: what is found, and what the lent lists hold
pub record ReadDone (s : List ℕ) (before : Inputs) (f : Result Found Fault) (after : Inputs) : Type 0 where
  pub says : f ≡ found_by (read_fault s before) (job_of s)
  pub leaves : after ≡ left_by (read_fault s before) (job_of s) before
