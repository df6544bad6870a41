-- `inner::fixed_row` meets its contract: the part that is lent becomes the row of Xβ, from the part that is β.
use native.Mathlib.Omega.{arith}
use Rattle.inner.proofs.Stepped.{fixed_made}
use Rattle.inner.proofs.quadratures.fixed_row.Goals as goal

pub returns : goal.returns
returns c =
    let args = c.args in
    fixed_made args.n args.p args.q _ _ _ _ args.x.now args.m.now args.r.now c.x_beta.new.out
    c.beta_at-beta.ensures c.beta_end-end.ensures c.xbeta_row-xbeta.ensures c.deviance_row-deviance.ensures
    (omega (arith, c.requires.2, c.deviance_row-deviance.ensures)) c.x_beta.auto.out c.x_beta.ensures
