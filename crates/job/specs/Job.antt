-- What a job says, as the fit is given it, and reading as one function of the bytes. Document 01, "The job and the program"; document 02, P10, for the start. Assumes nothing.
use Rattle.std.specs.Prelude.{cond, List, ℕ, ◌+◌, ◌*◌, eqb, Float, Option, Some, None, Ok, Err}
use Rattle.base.specs.List.{build}
use Rattle.base.specs.Sparse.{Sparse}
use Rattle.model.specs.Names.{family_coded, link_coded, start_coded}
use Rattle.model.specs.declared.names.Family.{Family}
use Rattle.model.specs.declared.names.Family.TheVariants.{Binomial}
use Rattle.model.specs.declared.names.Link.{Link}
use Rattle.model.specs.declared.names.Link.TheVariants.{Logit}
use Rattle.model.specs.declared.names.Start.{Start}
use Rattle.model.specs.declared.names.Start.TheVariants.{Usual}
use Rattle.model.specs.declared.sizes.Shape.{Shape}
use Rattle.model.specs.declared.sizes.Settings.{Settings}
use Rattle.job.specs.Lists.{counts, join_to}
use Rattle.job.specs.Format.{family_field, link_field, weighted, shifted, wish, obs, cols, limit_field, is_second, start_field, shape_of, rows_in, thetas, theta_at, y_at, weights_at, offset_at, x_at, number, row_at, start_of, short, column_read, value_read}
use Rattle.job.specs.Faults.{Checked, fault_of}

-- the family that was found; a code of two bits always names one
unfoldable pub family_from : Option Family → Family
family_from (Some f) = f
family_from None = Binomial

-- the link that was found; the code of a sound job always names one
unfoldable pub link_from : Option Link → Link
link_from (Some l) = l
link_from None = Logit

-- "1023 = not given"
unfoldable pub limit_from : ℕ → Option ℕ
limit_from l = cond (eqb l 1023) None (Some l)

-- the start that was found; a code of one bit always names one
unfoldable pub start_from : Option Start → Start
start_from (Some t) = t
start_from None = Usual

-- "0 for the old start and 1 for R's"; "version 1 keeps the old start"
unfoldable pub start_in : List ℕ → Start
start_in s = cond (is_second s) (start_from (start_coded (start_field s))) Usual

-- the plain numbers of the call
unfoldable pub settings_of : List ℕ → Settings
settings_of s =
    record {
      family = family_from (family_coded (family_field s));
      link = link_from (link_coded (link_field s));
      n_agq = wish s;
      limit = limit_from (limit_field s);
      n = obs s;
      p = cols s;
      rows = rows_in s;
      entries = start_of s (rows_in s);
      start = start_in s;
    }

-- the columns of row r of Z'
unfoldable pub columns_of : List ℕ → ℕ → List ℕ
columns_of s r = counts (column_read s (row_at s r)) (short s (row_at s r))

-- its values
unfoldable pub values_of : List ℕ → ℕ → List Float
values_of s r = build (value_read s (row_at s r)) (short s (row_at s r))

-- Z', one row behind another
unfoldable pub sparse_of : List ℕ → Sparse
sparse_of s =
    record { starts = counts (start_of s) (rows_in s + 1); columns = join_to (rows_in s) (columns_of s); values = join_to (rows_in s) (values_of s) }

-- a call of the fit; weights and offset are empty where absent, X is row by row
pub record Job : Type 0 where
  pub settings : Settings
  pub shape : Shape
  pub theta : List Float
  pub y : List Float
  pub weights : List Float
  pub offset : List Float
  pub x : List Float
  pub z : Sparse

-- the call whose numbers stand in the bytes
unfoldable pub job_of : List ℕ → Job
job_of s =
    record {
      settings = settings_of s;
      shape = shape_of s;
      theta = build (number s (theta_at s)) (thetas s);
      y = build (number s (y_at s)) (obs s);
      weights = build (number s (weights_at s)) (weighted s * obs s);
      offset = build (number s (offset_at s)) (shifted s * obs s);
      x = build (number s (x_at s)) (obs s * cols s);
      z = sparse_of s;
    }

-- a refusal with its byte, or a job
pub data Read : Type 0 where
  faulty : ℕ → ℕ → Read
  sound : Job → Read

-- what a fault, or none, makes of a job
unfoldable pub read_by : Checked → Job → Read
read_by (Ok t) j = sound j
read_by (Err e) j = faulty e.number e.byte

-- reading
unfoldable pub read_of : List ℕ → Read
read_of s = read_by (fault_of s) (job_of s)
