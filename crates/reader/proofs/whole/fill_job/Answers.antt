-- `reader::fill_job` meets its contract: a sound job reaches as far as is read, and each list is laid over its slice. Assumes nothing.
use mathlib.Core.Path.{refl}
use native.Mathlib.Omega.{arith}
use Rattle.job.proofs.RowLaws.{Fits, sound_fits}
use Rattle.model.specs.Inputs.{inputs}
use Rattle.reader.proofs.Rooms.{Room, room_of, filled_is}
use Rattle.reader.proofs.whole.fill_job.Goals.{Start}
use Rattle.reader.proofs.whole.fill_job.Goals as goal

fits : (c : Start) → Fits c.args.s.now
fits c = sound_fits _ c.requires.s_value

room : (c : Start) → Room
    (inputs c.args.theta.now c.args.y.now c.args.weights.now c.args.offset.now c.args.x.now c.args.starts.now
    c.args.columns.now c.args.values.now)
room c = room_of _ c.requires.values_value

pub read_numbers-requires : goal.read_numbers-requires
read_numbers-requires c =
    let f = fits (goal.at.read_numbers-requires c).Start in
    let r = room (goal.at.read_numbers-requires c).Start in
    rw (c.requires.c_value.1, c.requires.c_value.0) (f.fitting.0.0, omega (arith, f.whole), omega (arith, f.small.packed, r.theta_room))

pub read_numbers-requires-2 : goal.read_numbers-requires-2
read_numbers-requires-2 c =
    let f = fits (goal.at.read_numbers-requires-2 c).Start in
    let r = room (goal.at.read_numbers-requires-2 c).Start in rw (c.requires.c_value.1, c.requires.c_value.0) (f.fitting.0.0, omega (arith, f.whole), omega (arith, f.small.rows, r.y_room))

pub read_numbers-requires-3 : goal.read_numbers-requires-3
read_numbers-requires-3 c =
    let f = fits (goal.at.read_numbers-requires-3 c).Start in
    let r = room (goal.at.read_numbers-requires-3 c).Start in
    rw (c.requires.c_value.1, c.requires.c_value.0) (f.fitting.0.0, omega (arith, f.whole), omega (arith, f.small.weighed, r.weights_room))

pub read_numbers-requires-4 : goal.read_numbers-requires-4
read_numbers-requires-4 c =
    let f = fits (goal.at.read_numbers-requires-4 c).Start in
    let r = room (goal.at.read_numbers-requires-4 c).Start in
    rw (c.requires.c_value.1, c.requires.c_value.0) (f.fitting.0.0, omega (arith, f.whole), omega (arith, f.small.moved, r.offset_room))

pub read_numbers-requires-5 : goal.read_numbers-requires-5
read_numbers-requires-5 c =
    let f = fits (goal.at.read_numbers-requires-5 c).Start in
    let r = room (goal.at.read_numbers-requires-5 c).Start in rw (c.requires.c_value.1, c.requires.c_value.0) (f.fitting.0.0, omega (arith, f.whole), omega (arith, f.small.grid, r.x_room))

pub read_rows-requires : goal.read_rows-requires
read_rows-requires c =
    let f = fits (goal.at.read_rows-requires c).Start in
    let r = room (goal.at.read_rows-requires c).Start in
    record {
      s_len_bound = rw (c.requires.c_value.1, c.requires.c_value.0) (f.fitting.0.0, refl, omega (arith, f.ends));
      q_in_bounds = rw c.requires.c_value.0 (omega (arith, f.small.effects, r.starts_room), r.columns_room, r.values_room);
    }

pub returns : goal.returns
returns c =
    let p = c.requires.c_value.1 in
    let n = c.requires.c_value.0 in
    let w = c.read_rows.ensures in (
      rw n at w.0,
      filled_is _ _ _ _ _ _ _ _ _ _ (rw (p, n) at c.read_numbers.ensures) (rw (p, n) at c.read_numbers-2.ensures)
          (rw (p, n) at c.read_numbers-3.ensures) (rw (p, n) at c.read_numbers-4.ensures)
          (rw (p, n) at c.read_numbers-5.ensures) (rw n at w.1) (rw n at w.2) (rw n at w.3),
    )
