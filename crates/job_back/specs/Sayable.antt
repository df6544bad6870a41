-- Which calls a job can say: sizes in range, lists as long as the sizes ask, and numbers that their fields hold. Document 01, "What the port carries" and "The job and the program"; document 02, P10, for the versions. Assumes nothing.
use Rattle.std.specs.Prelude.{◌≡◌, true, List, ℕ, ◌+◌, ◌*◌, ◌≤◌, ◌<◌, T, Float, length, replicate}
use Rattle.std.specs.Float.Ieee.{fits}
use Rattle.std.specs.Float.{binary64}
use Rattle.base.specs.Sum.{◌!◌, ◌!!◌}
use Rattle.base.specs.Sparse.{Sparse}
use Rattle.model.specs.Shape.{effects_of, theta_length, good_shape}
use Rattle.model.specs.Settings.{good_limit}
use Rattle.model.specs.declared.names.Start.TheVariants.{Usual}
use Rattle.model.specs.declared.sizes.Settings.{Settings}
use Rattle.model.specs.declared.sizes.Shape.{Shape}
use Rattle.job.specs.Lists.{counts, laid}
use Rattle.job.specs.Job.{Job}
use Rattle.job.specs.Write.{present, Version, version1, job_bytes}

-- every number of a list is a double
abbrev pub Doubles : List Float → Type 0
Doubles xs = (i : ℕ) → i < length xs → T (fits binary64 (xs ! i))

-- the first `count` entries of a row of eight, and 0 past them
abbrev pub ZeroPast : ℕ → List ℕ → Type 0
ZeroPast count row = row ≡ laid (counts (λ i. row !! i) count) (replicate 8 0)

-- the settings, in range
pub record SettingsSayable (t : Settings) : Type 0 where
  pub some : 1 ≤ t.n
  pub few : t.n ≤ 512
  pub column : 1 ≤ t.p
  pub columns : t.p ≤ 16
  pub wish : t.n_agq < 32
  pub limit : good_limit t.limit ≡ true

-- the blocks, in range
pub record ShapeSayable (h : Shape) : Type 0 where
  pub good : good_shape h ≡ true
  pub m_zero : ZeroPast h.count h.m
  pub k_zero : ZeroPast h.count h.k

-- Z' of so many rows and entries
pub record RowsSayable (rows entries : ℕ) (z : Sparse) : Type 0 where
  pub starts : length z.starts ≡ rows + 1
  pub first : z.starts !! 0 ≡ 0
  pub last : z.starts !! rows ≡ entries
  pub rising : (r : ℕ) → r < rows → (z.starts !! r) ≤ (z.starts !! (r + 1))
  pub columns : length z.columns ≡ entries
  pub values : length z.values ≡ entries
  pub low : (e : ℕ) → e < entries → (z.columns !! e) < 8192
  pub doubles : Doubles z.values

-- a call that a job of this version can say: version 1 says no start but the old one
pub record Sayable (v : Version) (j : Job) : Type 0 where
  pub settings : SettingsSayable j.settings
  pub start : v ≡ version1 → j.settings.start ≡ Usual
  pub shape : ShapeSayable j.shape
  pub effects : j.settings.rows ≡ effects_of j.shape
  pub theta : length j.theta ≡ theta_length j.shape
  pub y : length j.y ≡ j.settings.n
  pub weights : length j.weights ≡ present j.weights * j.settings.n
  pub offset : length j.offset ≡ present j.offset * j.settings.n
  pub x : length j.x ≡ j.settings.n * j.settings.p
  pub z : RowsSayable j.settings.rows j.settings.entries j.z
  pub theta_doubles : Doubles j.theta
  pub y_doubles : Doubles j.y
  pub weights_doubles : Doubles j.weights
  pub offset_doubles : Doubles j.offset
  pub x_doubles : Doubles j.x
  pub short : length (job_bytes v j) ≤ 65536
