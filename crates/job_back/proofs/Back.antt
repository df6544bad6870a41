-- A job that is written is read as it was: its bytes have no fault, and what stands in them is what was written. Assumes nothing.
use Prim.{tt}
use Rattle.std.specs.Prelude.{Ok}
use mathlib.Core.Path.{◌≡◌, refl, sym, ap, ◌∙◌}
use mathlib.Core.Bool.{true}
use mathlib.Core.List.{List}
use Prim.Native.Nat.{ℕ, ◌+◌, ◌*◌, ◌≤◌, ◌<◌}
use native.Mathlib.Nat.{zero-add}
use native.Mathlib.Omega.{arith}
use borrow.Author.Tests.{le-leb}
use lib.ListN.{length}
use Rattle.base.specs.Sum.{◌!!◌}
use Rattle.bits.specs.Bits.{bits_of}
use Rattle.model.specs.Names.{family_coded, link_coded}
use Rattle.model.specs.Shape.{within, effects_of, theta_length, good_shape, InRange}
use Rattle.model.proofs.Shapes.{in_range_lem}
use Rattle.model.proofs.Tests.{joined, to_within}
use Rattle.job.specs.Lists.{counts, join_to}
use Rattle.job.specs.Format.{family_field, link_field, limit_field, weighted, shifted, obs, cols, blocks, blocks_at, shape_of, rows_in, thetas, sizes_fit, theta_at, y_at, weights_at, offset_at, x_at, z_at, row_at, start_of}
use Rattle.job.specs.Faults.{demand, first, head_fault, blocks_fault, rows_fault, row_fault, numbers_fault, body_fault, fault_of}
use Rattle.job.specs.Job.{Job, family_from, link_from, limit_from, start_in, settings_of, columns_of, values_of, sparse_of, sound, job_of, read_by, read_of}
use Rattle.job.specs.Write.{present, Version, version2, head_length, numbers_bytes, row_count, row_bytes, job_bytes}
use Rattle.job.proofs.FaultLaws.{reach_yes}
use Rattle.job_back.specs.Sayable.{Sayable}
use Rattle.job_back.proofs.Pieces.{Has}
use Rattle.job_back.proofs.Places.{job_bytes_lem, Laid, laid_out}
use Rattle.job_back.proofs.Head.{link_few, family_again, link_again, limit_again, HeadSaid, head_said, zeros_said, start_said, blocks_said}
use Rattle.job_back.proofs.Body.{BlockSaid, block_said, shape_said, numbers_said}
use Rattle.job_back.proofs.Rows.{start_few, rows_before, row_said, entry_said, row_place, starts_said, columns_said, values_said}
use Rattle.job_back.proofs.SoundParts.{head_sound, limit_in, pair_sound, blocks_sound, entry_sound, row_sound, rows_sound}

has_at : (s : List ℕ) (a b : ℕ) (piece : List ℕ) → a ≡ b → Has s b piece → Has s a piece
has_at s a b piece e h k l = rw e (h k l)

module _ (v : Version) (j : Job) (q : Sayable v j) where
  ranged : InRange j.shape
  ranged = in_range_lem j.shape q.shape.good

  -- the places of a written job
  placed : Laid v j (job_bytes v j) (head_length v + 2 * j.shape.count) (head_length v + 2 * j.shape.count + 8 * theta_length j.shape) (head_length v + 2 * j.shape.count + 8 * theta_length j.shape + 8 * j.settings.n) (head_length v + 2 * j.shape.count + 8 * theta_length j.shape + 8 * j.settings.n + 8 * (present j.weights * j.settings.n)) (head_length v + 2 * j.shape.count + 8 * theta_length j.shape + 8 * j.settings.n + 8 * (present j.weights * j.settings.n) + 8 * (present j.offset * j.settings.n)) (head_length v + 2 * j.shape.count + 8 * theta_length j.shape + 8 * j.settings.n + 8 * (present j.weights * j.settings.n) + 8 * (present j.offset * j.settings.n) + 8 * (j.settings.n * j.settings.p))
  placed =
      laid_out v j j.settings.n (j.settings.n * j.settings.p) (present j.weights * j.settings.n) (present j.offset * j.settings.n) (theta_length j.shape) j.shape.count
      refl q.theta q.y q.weights q.offset q.x

  said : HeadSaid v j (job_bytes v j)
  said = head_said v j (job_bytes v j) (job_bytes_lem v j) placed.has_head q.settings ranged.few

  blocks_at_lem : blocks_at (job_bytes v j) ≡ head_length v
  blocks_at_lem = blocks_said v (job_bytes v j) said.versioned

  block : (i : ℕ) → i < j.shape.count → BlockSaid j.shape (job_bytes v j) (head_length v) i
  block i l = block_said j.shape (job_bytes v j) (head_length v) blocks_at_lem (job_bytes_lem v j) placed.has_blocks ranged i l

  shaped : shape_of (job_bytes v j) ≡ j.shape
  shaped = shape_said j.shape (job_bytes v j) (head_length v) said.count block q.shape.m_zero q.shape.k_zero

  rows_are : rows_in (job_bytes v j) ≡ j.settings.rows
  rows_are = ap effects_of shaped ∙ sym q.effects

  thetas_are : thetas (job_bytes v j) ≡ theta_length j.shape
  thetas_are = ap theta_length shaped

  weights_are : weighted (job_bytes v j) * obs (job_bytes v j) ≡ present j.weights * j.settings.n
  weights_are = rw (said.weights, said.n) refl

  offset_is : shifted (job_bytes v j) * obs (job_bytes v j) ≡ present j.offset * j.settings.n
  offset_is = rw (said.offset, said.n) refl

  cells_are : obs (job_bytes v j) * cols (job_bytes v j) ≡ j.settings.n * j.settings.p
  cells_are = rw (said.n, said.p) refl

  -- the reader looks for them where they are
  theta_at_lem : theta_at (job_bytes v j) ≡ head_length v + 2 * j.shape.count
  theta_at_lem = omega (arith, blocks_at_lem, said.count)

  y_at_lem : y_at (job_bytes v j) ≡ head_length v + 2 * j.shape.count + 8 * theta_length j.shape
  y_at_lem = omega (arith, theta_at_lem, thetas_are)

  weights_at_lem : weights_at (job_bytes v j) ≡ head_length v + 2 * j.shape.count + 8 * theta_length j.shape + 8 * j.settings.n
  weights_at_lem = omega (arith, y_at_lem, said.n)

  offset_at_lem : offset_at (job_bytes v j) ≡ head_length v + 2 * j.shape.count + 8 * theta_length j.shape + 8 * j.settings.n + 8 * (present j.weights * j.settings.n)
  offset_at_lem = omega (arith, weights_at_lem, weights_are)

  x_at_lem : x_at (job_bytes v j) ≡ head_length v + 2 * j.shape.count + 8 * theta_length j.shape + 8 * j.settings.n + 8 * (present j.weights * j.settings.n) + 8 * (present j.offset * j.settings.n)
  x_at_lem = omega (arith, offset_at_lem, offset_is)

  z_at_lem : z_at (job_bytes v j) ≡ head_length v + 2 * j.shape.count + 8 * theta_length j.shape + 8 * j.settings.n + 8 * (present j.weights * j.settings.n) + 8 * (present j.offset * j.settings.n) + 8 * (j.settings.n * j.settings.p)
  z_at_lem = omega (arith, x_at_lem, cells_are)

  has_z : Has (job_bytes v j) (z_at (job_bytes v j)) (join_to j.settings.rows (row_bytes j.z))
  has_z = has_at (job_bytes v j) _ _ (join_to j.settings.rows (row_bytes j.z)) z_at_lem placed.has_rows

  -- the job ends with its rows
  ends : length (job_bytes v j) ≡ z_at (job_bytes v j) + (2 * j.settings.rows + 10 * j.settings.entries)
  ends = placed.long ∙ rw (rows_before j.z j.settings.rows j.settings.entries q.z j.settings.rows (omega arith), q.z.last, z_at_lem) refl

  few : j.settings.entries < 8192
  few = omega (arith, ends, q.short)

  place : (r : ℕ) → r ≤ j.settings.rows → (row_at (job_bytes v j) r ≡ z_at (job_bytes v j) + (2 * r + 10 * (j.z.starts !! r))) × (start_of (job_bytes v j) r ≡ (j.z.starts !! r))
  place = row_place (job_bytes v j) (job_bytes_lem v j) j.z j.settings.rows j.settings.entries q.z few has_z

  -- ---- what is read
  settings_said : settings_of (job_bytes v j) ≡ j.settings
  unfolding settings_of
  settings_said =
      let family : family_from (family_coded (family_field (job_bytes v j))) ≡ j.settings.family = rw said.family (family_again j.settings.family) in
      let link : link_from (link_coded (link_field (job_bytes v j))) ≡ j.settings.link = rw said.link (link_again j.settings.link) in
      let limit : limit_from (limit_field (job_bytes v j)) ≡ j.settings.limit = rw said.limit (limit_again j.settings.limit q.settings.limit) in
      let entries : start_of (job_bytes v j) (rows_in (job_bytes v j)) ≡ j.settings.entries = ap (start_of (job_bytes v j)) rows_are ∙ (place j.settings.rows (omega arith)).1 ∙ q.z.last in
      let start : start_in (job_bytes v j) ≡ j.settings.start = start_said v j (job_bytes v j) (job_bytes_lem v j) placed.has_head said.versioned q.start in
      λ i. record { family = family i; link = link i; n_agq = said.wished i; limit = limit i; n = said.n i; p = said.p i; rows = rows_are i; entries = entries i; start = start i }

  sparse_said : sparse_of (job_bytes v j) ≡ j.z
  unfolding sparse_of
  sparse_said =
      let starts : counts (start_of (job_bytes v j)) (rows_in (job_bytes v j) + 1) ≡ j.z.starts =
      ap (λ (r : ℕ). counts (start_of (job_bytes v j)) (r + 1)) rows_are ∙ starts_said (job_bytes v j) (job_bytes_lem v j) j.z j.settings.rows j.settings.entries q.z few has_z in
      let columns : join_to (rows_in (job_bytes v j)) (columns_of (job_bytes v j)) ≡ j.z.columns =
      ap (λ (r : ℕ). join_to r (columns_of (job_bytes v j))) rows_are ∙ columns_said (job_bytes v j) (job_bytes_lem v j) j.z j.settings.rows j.settings.entries q.z few has_z in
      let values : join_to (rows_in (job_bytes v j)) (values_of (job_bytes v j)) ≡ j.z.values =
      ap (λ (r : ℕ). join_to r (values_of (job_bytes v j))) rows_are ∙ values_said (job_bytes v j) (job_bytes_lem v j) j.z j.settings.rows j.settings.entries q.z few has_z in
      λ i. record { starts = starts i; columns = columns i; values = values i }

  job_said : job_of (job_bytes v j) ≡ j
  unfolding job_of
  job_said =
      let s = job_bytes v j in
      let b = job_bytes_lem v j in
      let theta = numbers_said s (theta_at s) (thetas s) j.theta (q.theta ∙ sym thetas_are) b (has_at s _ _ (numbers_bytes j.theta) theta_at_lem placed.has_theta) q.theta_doubles in
      let y = numbers_said s (y_at s) (obs s) j.y (q.y ∙ sym said.n) b (has_at s _ _ (numbers_bytes j.y) y_at_lem placed.has_y) q.y_doubles in
      let weights = numbers_said s (weights_at s) (weighted s * obs s) j.weights (q.weights ∙ sym weights_are) b (has_at s _ _ (numbers_bytes j.weights) weights_at_lem placed.has_weights) q.weights_doubles in
      let offset = numbers_said s (offset_at s) (shifted s * obs s) j.offset (q.offset ∙ sym offset_is) b (has_at s _ _ (numbers_bytes j.offset) offset_at_lem placed.has_offset) q.offset_doubles in
      let x = numbers_said s (x_at s) (obs s * cols s) j.x (q.x ∙ sym cells_are) b (has_at s _ _ (numbers_bytes j.x) x_at_lem placed.has_x) q.x_doubles in
      λ i. record { settings = settings_said i; shape = shaped i; theta = theta i; y = y i; weights = weights i; offset = offset i; x = x i; z = sparse_said i }

  -- ---- that there is no fault
  zeros : v ≡ version2 → bits_of (job_bytes v j) 49 7 ≡ 0
  zeros = zeros_said v j (job_bytes v j) (job_bytes_lem v j) placed.has_head

  head_ok : head_fault (job_bytes v j) ≡ Ok tt
  head_ok =
      head_sound v (job_bytes v j) (omega (arith, ends, z_at_lem)) said.versioned zeros (rw said.link (link_few j.settings.link))
      (limit_in j.settings.limit (limit_field (job_bytes v j)) q.settings.limit said.limit)

  blocks_ok : (n : ℕ) → n ≡ j.shape.count → blocks_fault (job_bytes v j) (blocks_at (job_bytes v j)) n ≡ Ok tt
  blocks_ok n e =
      rw blocks_at_lem
      (blocks_sound (job_bytes v j) (head_length v) n (λ i l. pair_sound (job_bytes v j) (head_length v + 2 * i) 5 (omega (arith, ends, z_at_lem)) (block i (omega arith)).spare))

  row_ok : (r : ℕ) → r < j.settings.rows → row_fault (job_bytes v j) (row_at (job_bytes v j) r) ≡ Ok tt
  row_ok r l =
      let next = start_few j.z j.settings.rows j.settings.entries q.z (r + 1) (omega arith) in
      let up = q.z.rising r l in
      let here = row_said (job_bytes v j) (job_bytes_lem v j) j.z j.settings.rows j.settings.entries q.z few (z_at (job_bytes v j)) has_z r l in
      rw (place r (omega arith)).0
      (row_sound (job_bytes v j) (z_at (job_bytes v j) + (2 * r + 10 * (j.z.starts !! r))) (row_count j.z r) (omega (arith, ends)) here.spare here.said
      (λ i m. entry_sound (job_bytes v j) (z_at (job_bytes v j) + (2 * r + 10 * (j.z.starts !! r)) + 2 + 10 * i) (omega (arith, ends)) (entry_said (job_bytes v j) (job_bytes_lem v j) j.z j.settings.rows j.settings.entries q.z few (z_at (job_bytes v j)) has_z r i l m).column.spare))

  rows_ok : (n : ℕ) → n ≡ j.settings.rows → rows_fault (job_bytes v j) (row_at (job_bytes v j) 0) n ≡ Ok tt
  rows_ok n e =
      rows_sound (job_bytes v j) 0 n (λ i l. rw (zero-add i) (row_ok i (omega arith)))
      (rw (zero-add n, e, (place j.settings.rows (omega arith)).0, q.z.last) (omega (arith, ends)))

  sizes_ok : sizes_fit (job_bytes v j) ≡ true
  unfolding sizes_fit
  sizes_ok =
      let n : within 1 512 (obs (job_bytes v j)) ≡ true = rw said.n (to_within q.settings.some q.settings.few) in
      let p : within 1 16 (cols (job_bytes v j)) ≡ true = rw said.p (to_within q.settings.column q.settings.columns) in
      let h : good_shape (shape_of (job_bytes v j)) ≡ true = ap good_shape shaped ∙ q.shape.good in
      joined n (joined p h)

  no_fault : fault_of (job_bytes v j) ≡ Ok tt
  unfolding fault_of body_fault numbers_fault demand first row_at
  no_fault =
      rw (
        le-leb (length (job_bytes v j)) 65536 q.short,
        head_ok,
        blocks_ok (blocks (job_bytes v j)) said.count,
        sizes_ok,
        reach_yes (job_bytes v j) (8 * z_at (job_bytes v j)) (omega (arith, ends)),
      )
      (rows_ok (rows_in (job_bytes v j)) rows_are)

-- writing and then reading
pub read_back : (v : Version) (j : Job) → Sayable v j → read_of (job_bytes v j) ≡ sound j
unfolding read_of read_by
read_back v j q = rw (no_fault v j q) (ap sound (job_said v j q))
