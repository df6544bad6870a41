-- The inner fit's contract leaves one answer, and one content of what is read afterwards. Assumes nothing.
use Rattle.std.specs.Prelude.{Ok}
use mathlib.Core.Path.{◌≡◌, sym, ap, ◌∙◌}
use mathlib.Core.List.{List}
use mathlib.Core.Bool.{Bool}
use Prim.Native.Nat.{ℕ, ◌*◌}
use lib.Ieee.{Float}
use Rattle.base.specs.Rows.{row}
use Rattle.layout.specs.WorkRows.{mu_row, deviance_row}
use Rattle.layout.specs.WorkMatrices.{system_place, root_inverse_place, u_place, beta_place}
use Rattle.rule.specs.Given.{Given, n_of, q_of}
use Rattle.rule.specs.Stop.{Mode}
use Rattle.stages.specs.Held.{eta_row}
use Rattle.rule.specs.Run.{Ending, stopped, failed, run_of}
use Rattle.pirls.specs.Inner.{HoldsResults, HoldsMode, EndingTold, InnerLeft}
use Rattle.pirls.specs.declared.run.InnerFit.{InnerFit}
use Rattle.pirls.specs.declared.run.Stopped.{Stopped}

same_stopped : {s t : Stopped} → s.iterations ≡ t.iterations → s.in_second ≡ t.in_second → s.deviance_sum ≡ t.deviance_sum → s.fit ≡ t.fit → s.laplace ≡ t.laplace → s ≡ t
same_stopped e1 e2 e3 e4 e5 = λ i. record { iterations = e1 i; in_second = e2 i; deviance_sum = e3 i; fit = e4 i; laplace = e5 i }

same_fit : {a b : InnerFit} → a.outcome ≡ b.outcome → a.account ≡ b.account → a ≡ b
same_fit e f = λ i. record { outcome = e i; account = f i }

told_once : (o : Ending) (G : Given) (r r' m m' : List Float) (a b : InnerFit) → a.account ≡ b.account → EndingTold o G r m a → EndingTold o G r' m' b → a ≡ b
told_once (stopped k) G r r' m m' a b e x y =
    let h = x.2 in
    let h' = y.2 in
    let s : x.0 ≡ y.0 = same_stopped (h.iterations ∙ sym h'.iterations) (h.results.place ∙ sym h'.results.place) (h.sum ∙ sym h'.sum) (h.fit_term_lem ∙ sym h'.fit_term_lem) (h.laplace_deviance ∙ sym h'.laplace_deviance) in
    same_fit (x.1 ∙ ap Ok s ∙ sym y.1) e
told_once (failed f) G r r' m m' a b e x y = same_fit (x ∙ sym y) e

-- one answer
pub inner_once : (G : Given) (phi : Float) (L : ℕ) (mu r r' r'' m m' m'' t t' t'' : List Float) (a b : InnerFit) → InnerLeft G phi L mu r r' m m' t t' a → InnerLeft G phi L mu r r'' m m'' t t'' b → a ≡ b
inner_once G phi L mu r r' r'' m m' m'' t t' t'' a b x y =
    told_once (run_of G phi L mu).ending G r' r'' m' m'' a b (x.counted ∙ sym y.counted) x.told y.told

-- what two fits leave for the results is the same
pub record SameResults (G : Given) (second second' : Bool) (r r' m m' : List Float) : Type 0 where
  pub eta : row (eta_row (n_of G) second) (n_of G) r ≡ row (eta_row (n_of G) second') (n_of G) r'
  pub mu : row (mu_row (n_of G)) (n_of G) r ≡ row (mu_row (n_of G)) (n_of G) r'
  pub inverse : row (root_inverse_place G.design.p (q_of G.design)) (G.design.p * G.design.p) m ≡ row (root_inverse_place G.design.p (q_of G.design)) (G.design.p * G.design.p) m'
  pub beta : row (beta_place G.design.p (q_of G.design)) G.design.p m ≡ row (beta_place G.design.p (q_of G.design)) G.design.p m'
  pub u : row (u_place G.design.p (q_of G.design)) (q_of G.design) m ≡ row (u_place G.design.p (q_of G.design)) (q_of G.design) m'

pub results_once : (G : Given) (k : Mode) (second second' : Bool) (r r' m m' : List Float) → HoldsResults G k second r m → HoldsResults G k second' r' m' → SameResults G second second' r r' m m'
results_once G k second second' r r' m m' x y =
    record { eta = x.eta ∙ sym y.eta; mu = x.mu ∙ sym y.mu; inverse = x.inverse ∙ sym y.inverse; beta = x.beta ∙ sym y.beta; u = x.u ∙ sym y.u }

-- and so is what they leave for the quadrature
pub record SameMode (G : Given) (r r' m m' : List Float) (a b : Stopped) : Type 0 where
  pub results : SameResults G a.in_second b.in_second r r' m m'
  pub deviances : row (deviance_row (n_of G)) (n_of G) r ≡ row (deviance_row (n_of G)) (n_of G) r'
  pub system : row system_place (q_of G.design * q_of G.design) m ≡ row system_place (q_of G.design * q_of G.design) m'

pub mode_once : (G : Given) (k : Mode) (r r' m m' : List Float) (a b : Stopped) → HoldsMode G k r m a → HoldsMode G k r' m' b → SameMode G r r' m m' a b
mode_once G k r r' m m' a b x y =
    record {
      results = results_once G k a.in_second b.in_second r r' m m' x.results y.results;
      deviances = x.deviances ∙ sym y.deviances;
      system = x.system ∙ sym y.system;
    }
