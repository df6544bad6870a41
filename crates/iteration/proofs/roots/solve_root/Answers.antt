-- `iteration::solve_root` meets its contract: the factor stands where the normal matrix stood, and β is solved with it.
use mathlib.Core.Path.{◌≡◌, refl}
use Prim.Native.Nat.{ℕ}
use borrow.Author.Rules.{rules}
use Rattle.std.specs.Prelude.{Result, Err, ⊤}
use Rattle.iteration.proofs.RootFound.{root_failed, root_found}
use Rattle.iteration.proofs.roots.solve_root.Goals as goal

pub returns-in_err-factor_normal : goal.returns-in_err-factor_normal
returns-in_err-factor_normal c =
    let e : ◌≡◌ {A = Result ⊤ ℕ} c.from_residual.result (Err c.in_err-factor_normal.field-0.0) = search rules in
    rw e (root_failed _ _ _ _ _ _ _ _ _ c.normal_at-normal.ensures c.in_err-factor_normal.was c.factor_normal.ensures)

pub returns : goal.returns
returns c =
    root_found _ _ _ _ _ _ _ _ _ _ _ c.normal_at-normal.ensures refl c.beta_at-beta.ensures c.in_ok-factor_normal.was
    c.factor_normal.ensures c.solve_beta.ensures
