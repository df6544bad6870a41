-- `base::wipe` meets its contract: the front of out is +0.0 n times.
use mathlib.Core.Path.{◌≡◌}
use native.Mathlib.Omega.{arith}
use lib.ListN.{length, take, length-take, length-replicate}
use lib.Ieee.{nan}
use Rattle.std.proofs.lemmas.List.{get_or-replicate}
use Rattle.base.specs.Number.{zero_f}
use Rattle.base.specs.List.{zero_at}
use Rattle.base.proofs.Every.{front_filled}
use Rattle.base.proofs.vector.wipe.Goals as goal

pub returns : goal.returns
returns c =
    let n = c.args.n in
    let whole : length (take n c.args.out.now) ≡ n = omega (arith, length-take n c.args.out.now, c.requires) in
    rw (c.fill.ensures.after, whole)
    (front_filled n zero_at c.args.out.now _ c.requires (length-replicate n zero_f) (λ i l. get_or-replicate n i zero_f nan l))
