-- `scale::one_sigma` meets its contract: A stands at the front of the slice.
use Rattle.scale.proofs.SigmaFound.{diagonal_read}
use Rattle.scale.proofs.sigmas.one_sigma.Goals as goal

pub returns : goal.returns
returns c =
    diagonal_read c.args.q c.args.g _ c.args.m.now _ c.requires.1 c.requires.2 c.offset-o.ensures.0
    c.sigma_of.ensures
