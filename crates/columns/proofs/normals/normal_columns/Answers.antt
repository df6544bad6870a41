-- `columns::normal_columns` meets its contract: seven steps, each of which reads what earlier ones wrote and changes one piece.
use mathlib.Core.List.{List}
use lib.Ieee.{Float}
use Rattle.columns.proofs.AllColumns.{Places, columns_made}
use Rattle.columns.proofs.normals.normal_columns.Goals.{After-beta_at-beta}
use Rattle.columns.proofs.normals.normal_columns.Goals as goal

-- ---- the places, which no step changes
abbrev PlacesAt : After-beta_at-beta → List Float → List Float → Type 0
PlacesAt c m t =
    Places c.args.n c.args.p c.args.q c.args.r.now m t
    c.working_row-working.result
    c.w_at-w.result
    c.unsolved_at-unsolved.result
    c.normal_at-normal.result
    c.solved_at-solved.result
    c.root_inverse_at-crossed.result
    c.wy_at-wy.result
    c.beta_at-beta.result

at_places : (c : After-beta_at-beta) → PlacesAt c c.args.m.now c.args.t.now
at_places c = record {
  lent = c.requires.work_room;
  working_place = c.working_row-working.ensures;
  w_place_lem = c.w_at-w.ensures;
  unsolved_place_lem = c.unsolved_at-unsolved.ensures;
  normal_place_lem = c.normal_at-normal.ensures;
  solved_place_lem = c.solved_at-solved.ensures;
  crossed_place = c.root_inverse_at-crossed.ensures;
  wy_place_lem = c.wy_at-wy.ensures;
  beta_place_lem = c.beta_at-beta.ensures;
}

pub returns : goal.returns
returns c =
    columns_made {m1 = c.cross_into.new.m} {m2 = c.dots_into.new.m} {m3 = c.rows_into.new.m} {m4 = c.solved_into.new.m} {m5 = c.sides_into.new.m}
    {t1 = c.unsolved_into.new.t} {t2 = c.normal_into.new.t}
    c.requires.ready.effects (at_places (goal.at.returns c).After-beta_at-beta)
    (record {
      crosses = c.cross_into.ensures;
      dots = c.dots_into.ensures;
      rows = c.rows_into.ensures;
      before = c.unsolved_into.ensures;
      after = c.solved_into.ensures;
      remains = c.normal_into.ensures;
      sides = c.sides_into.ensures;
    })
