-- What the calls of the writer leave, put together; and what the results are in the rule's words. Assumes nothing.
use mathlib.Core.Path.{◌≡◌, refl, ap, ◌∙◌}
use mathlib.Core.List.{List}
use Prim.Native.Nat.{ℕ}
use lib.Ieee.{Float}
use Rattle.base.specs.List.{build, entry_of, fill_to, grid_to}
use Rattle.base.proofs.Fills.{fill_build, grid_matrix, copied}
use Rattle.model.specs.declared.sizes.Shape.{Shape}
use Rattle.factor.specs.Inverse.{v_at}
use Rattle.lambda.specs.Product.{lambda_times_at}
use Rattle.rule.specs.Given.{Given}
use Rattle.rule.specs.Stop.{Mode}
use Rattle.rule.specs.Solve.{b_of}
use Rattle.rule.specs.Results.{v_from, v_of, se_at, se_of, z_value_at, z_values, residual_at, residuals_of}
use Rattle.results.specs.Nine.{nine, results_from, results_of}
use Rattle.results.specs.Room.{Readable, Writable}

-- ---- the nine, each from its call
module _ (shape : Shape) (n p q : ℕ) (theta y columns modeBeta modeU modeMu modeEta beta se z u b mu eta residual v : List Float) (beta' se' z' u' b' mu' eta' residual' v' : List Float) where
  pub results_made : Readable shape n p q theta y columns modeBeta modeU modeMu modeEta → Writable n p q beta se z u b mu eta residual v
      → v' ≡ grid_to p p (v_at p columns) v → se' ≡ fill_to p (se_at p v') se → z' ≡ fill_to p (z_value_at modeBeta se') z → beta' ≡ fill_to p (entry_of modeBeta) beta
      → u' ≡ fill_to q (entry_of modeU) u → b' ≡ fill_to q (lambda_times_at shape theta modeU) b → mu' ≡ fill_to n (entry_of modeMu) mu → eta' ≡ fill_to n (entry_of modeEta) eta
      → residual' ≡ fill_to n (residual_at y modeMu) residual
      → nine beta' se' z' u' b' mu' eta' residual' v' ≡ results_from n p shape theta y columns modeBeta modeU modeMu modeEta
  unfolding results_from v_from se_of z_values residuals_of
  results_made r w ev es ez ebeta eu eb emu eeta eres =
      let v-is : v' ≡ v_from p columns = ev ∙ grid_matrix p p (v_at p columns) v w.v_long in
      let se-is : se' ≡ se_of p (v_from p columns) = es ∙ fill_build p (se_at p v') se w.se_long ∙ ap (se_of p) v-is in
      let z-is : z' ≡ z_values p modeBeta (se_of p (v_from p columns)) = ez ∙ fill_build p (z_value_at modeBeta se') z w.z_long ∙ ap (z_values p modeBeta) se-is in
      let b-is : b' ≡ build (lambda_times_at shape theta modeU) q = eb ∙ fill_build q (lambda_times_at shape theta modeU) b w.b_long in
      let residual-is : residual' ≡ residuals_of n y modeMu = eres ∙ fill_build n (residual_at y modeMu) residual w.residual_long in
      let beta-is : beta' ≡ modeBeta = ebeta ∙ copied p modeBeta beta r.beta_long w.beta_long in
      let u-is : u' ≡ modeU = eu ∙ copied q modeU u r.u_long w.u_long in
      let mu-is : mu' ≡ modeMu = emu ∙ copied n modeMu mu r.mu_long w.mu_long in
      let eta-is : eta' ≡ modeEta = eeta ∙ copied n modeEta eta r.eta_long w.eta_long in
      rw (v-is, se-is, z-is, b-is, residual-is, beta-is, u-is, mu-is, eta-is, r.effects) refl

-- ---- of a mode: v is the one of the normal matrix's factor, and b is Λu
pub mode_v : (G : Given) (M : Mode) → (results_of G M).v ≡ v_of G.design.p M.root
unfolding results_of results_from v_of
mode_v G M = refl

pub mode_b : (G : Given) (M : Mode) → (results_of G M).b ≡ b_of G.design M.u
unfolding results_of results_from b_of
mode_b G M = refl
