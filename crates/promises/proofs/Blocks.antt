-- The functions of libblocks_c.a, with their parameters and the fields of its structs in the order of include/glmm.h: those that blocks_c's exports call, whose contracts are theirs (`blocks_c`'s proofs/Same). Assumes nothing.
use mathlib.Core.Path.{◌≡◌, refl}
use seplogic.Ra.Ura.{Ura}
use base.Logic.{SProp}
use prog.Memory.{Memory}
use prog.Routine.{Routine}
use types.Logic.{Logic}
use contract.Monad.{Fun}
use Rattle.model.specs.Inputs.{inputs}
use Rattle.call.specs.Call.{lent}
use Rattle.layout.specs.WorkTerms.{terms_length}
use Rattle.lengths.specs.Asked.{rows_asked, matrices_asked}
use Rattle.blocks.specs.declared.Block.{Block}
use Rattle.blocks.specs.contracts.Block as block
use Rattle.blocks_coded.specs.declared.CodedSettings.{CodedSettings}
use Rattle.blocks_coded.specs.declared.PlainAnswer.{PlainAnswer}
use Rattle.blocks_coded.specs.Plain.{shown, fit_blocks_of}
use Rattle.blocks_coded.specs.contracts.CodedSettings as settings
use Rattle.blocks_coded.specs.contracts.PlainAnswer as answer
use Rattle.blocks_coded.specs.contracts.fit_coded as fit-blocks
use Rattle.lengths.specs.contracts.rows_asked as rows-length
use Rattle.lengths.specs.contracts.matrices_asked as matrices-length
use Rattle.layout.specs.contracts.terms_length as terms_length_lem
use Rattle.promises.specs.Promise.{Fact, promise}

-- what is returned and left of the twelve slices
abbrev fit_blocks : Fact fit-blocks.ended
fit_blocks κs (coded, (blocks, (theta, (y, (weights, (offset, (x, (starts, (columns, (values, (beta, (se, (z, (u, (b, (mu, (eta, (residual, (v, (rows, (matrices, (terms, _))))))))))))))))))))))
    r (_, (_, (_, (_, (_, (_, (_, (_, (_, (_, (beta', (se', (z', (u', (b', (mu', (eta', (residual', (v', (rows', (matrices', (terms', _)))))))))))))))))))))) =
    shown r (lent beta'.now se'.now z'.now u'.now b'.now mu'.now eta'.now residual'.now v'.now rows'.now matrices'.now terms'.now)
    ≡ fit_blocks_of coded blocks.now (inputs theta.now y.now weights.now offset.now x.now starts.now columns.now values.now)
    (lent beta.now se.now z.now u.now b.now mu.now eta.now residual.now v.now rows.now matrices.now terms.now)

module _ {M : Type 1} {𝓤 : Ura M} (𝓛 : Logic 𝓤) (mem : Memory → SProp 𝓤) (run : Routine → Fun 𝓤) where
  pub fit_blocks_promised : fit-blocks.clauses 𝓛 mem run ≡ promise 𝓤 fit-blocks.ended fit_blocks
  fit_blocks_promised = refl

  pub rows_length_promised : rows-length.clauses 𝓛 mem run ≡ promise 𝓤 rows-length.ended (λ κs a r e. r ≡ rows_asked a.0)
  rows_length_promised = refl

  pub matrices_length_promised : matrices-length.clauses 𝓛 mem run ≡ promise 𝓤 matrices-length.ended (λ κs a r e. r ≡ matrices_asked a.0 a.1.0)
  matrices_length_promised = refl

  pub terms_length_promised : terms_length_lem.clauses 𝓛 mem run ≡ promise 𝓤 terms_length_lem.ended (λ κs a r e. r ≡ terms_length)
  terms_length_promised = refl

-- ---- the fields of the structs, in their order
pub block_fields : (x : Block) → (block.the_type).to x ≡ (x.m, (x.k, tt))
block_fields x = refl

pub settings_fields : (x : CodedSettings) → (settings.the_type).to x ≡ (x.family, (x.link, (x.n_agq, (x.limit, (x.n, (x.p, (x.rows, (x.entries, (x.start, tt)))))))))
settings_fields x = refl

pub answer_fields : (x : PlainAnswer) → (answer.the_type).to x ≡ (x.number, (x.deviance, (x.phi, (x.order, (x.flag, (x.iterations, (x.fits, (x.solves, (x.tries, (x.points, (x.why, (x.eta, (x.mean, (x.pwrss, (x.ok, tt)))))))))))))))
answer_fields x = refl
