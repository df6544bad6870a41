-- `tries::tries_cap` meets its contract: the link's test decides as the cap does.
use mathlib.Core.Bool.{Bool, true, false, cond}
use Rattle.model.specs.Names.{is_inverse}
use Rattle.model.specs.declared.names.Link.{Link}
use mathlib.Core.Path.{◌≡◌}
use Rattle.model.specs.Caps.{tries_cap}
use Rattle.tries.proofs.search.tries_cap.Goals as goal

-- the cap by the test's answer
cap_by : (b t : Bool) (l m : Link) → l ≡ m → b ≡ is_inverse l → b ≡ t → cond t 100 25 ≡ tries_cap m
unfolding tries_cap
cap_by b t l m e f h = rw (← h, f, e)

pub returns-then-is_inverse : goal.returns-then-is_inverse
returns-then-is_inverse c = cap_by _ true _ _ c.link_of.ensures c.is_inverse.ensures c.if-is_inverse.true

pub returns : goal.returns
returns c = cap_by _ false _ _ c.link_of.ensures c.is_inverse.ensures c.if-is_inverse.false
