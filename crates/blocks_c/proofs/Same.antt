-- What each export asks and ensures is what the function asks and ensures that it calls, so that a weaker contract here is refused; `promises` states those once more.
-- Assumes nothing.
use mathlib.Core.Path.{◌≡◌, refl}
use seplogic.Ra.Ura.{Ura}
use base.Logic.{SProp}
use prog.Memory.{Memory}
use prog.Routine.{Routine}
use types.Logic.{Logic}
use contract.Monad.{Fun}
use Rattle.blocks_c.specs.contracts.glmm_rows_length as glmm_rows_length
use Rattle.blocks_c.specs.contracts.glmm_matrices_length as glmm_matrices_length
use Rattle.blocks_c.specs.contracts.glmm_terms_length as glmm_terms_length
use Rattle.blocks_c.specs.contracts.glmm_fit_blocks as glmm_fit_blocks
use Rattle.lengths.specs.contracts.rows_asked as rows_length
use Rattle.lengths.specs.contracts.matrices_asked as matrices_length
use Rattle.layout.specs.contracts.terms_length as terms_length
use Rattle.blocks_coded.specs.contracts.fit_coded as fit_blocks

module _ {M : Type 1} {𝓤 : Ura M} (𝓛 : Logic 𝓤) (mem : Memory → SProp 𝓤) (run : Routine → Fun 𝓤) where
  pub rows_length_same : glmm_rows_length.clauses 𝓛 mem run ≡ rows_length.clauses 𝓛 mem run
  rows_length_same = refl

  pub matrices_length_same : glmm_matrices_length.clauses 𝓛 mem run ≡ matrices_length.clauses 𝓛 mem run
  matrices_length_same = refl

  pub terms_length_same : glmm_terms_length.clauses 𝓛 mem run ≡ terms_length.clauses 𝓛 mem run
  terms_length_same = refl

  pub fit_blocks_same : glmm_fit_blocks.clauses 𝓛 mem run ≡ fit_blocks.clauses 𝓛 mem run
  fit_blocks_same = refl
