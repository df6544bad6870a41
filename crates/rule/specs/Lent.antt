-- The records that the code hands on, as the definitions see them. Document 01, "What the port carries". Assumes nothing.
use Rattle.std.specs.Prelude.{List, Float}
use Rattle.rule.specs.Given.{Design, Given, design_of, given_of}
use Rattle.rule.specs.declared.given.Design.{Design as LentDesign}
use Rattle.rule.specs.declared.given.Given.{Given as LentGiven}
use Rattle.stored.specs.Lent.{sparse_in}

-- the design that is lent, with another X
abbrev pub design_at : LentDesign → List Float → Design
design_at d x = design_of d.n d.p d.shape d.theta.now d.offset.now x (sparse_in d.zt)

-- the design that is lent
abbrev pub design_in : LentDesign → Design
design_in d = design_at d d.x.now

-- what is given, as it is lent, with another X: where X is not looked at, a promise holds for each
abbrev pub given_at : LentGiven → List Float → Given
given_at g x = given_of g.family g.link g.y.now g.weights.now (design_at g.design x)

-- what is given, as it is lent
abbrev pub given_in : LentGiven → Given
given_in g = given_at g g.design.x.now
