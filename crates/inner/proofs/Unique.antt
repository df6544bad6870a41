-- The contract leaves one answer, and one content of what the results are read from. Assumes nothing.
use Rattle.quadrature.specs.declared.orders.Decline.{Decline}
use Rattle.quadrature.specs.declared.orders.Order.{Order}
use Rattle.std.specs.Prelude.{Result, Ok}
use mathlib.Core.Path.{◌≡◌, refl, sym, ap, ◌∙◌}
use mathlib.Core.List.{List, []}
use Prim.Native.Nat.{ℕ, ◌*◌}
use lib.Ieee.{Float}
use Rattle.base.specs.Number.{zero_f}
use Rattle.base.specs.Rows.{row}
use Rattle.layout.specs.WorkRows.{deviance_row}
use Rattle.layout.specs.WorkMatrices.{system_place, u_place, beta_place}
use Rattle.rule.specs.Given.{Given, n_of, q_of}
use Rattle.rule.specs.Stop.{Mode}
use Rattle.agq_rule.specs.Steps.{Integrated}
use Rattle.agq_rule.specs.Inner.{InnerEnd, with_mode, without_mode, inner_of}
use Rattle.sums.specs.declared.answers.Quadrature.{Quadrature}
use Rattle.sums.proofs.Unique.{same_integrated}
use Rattle.pirls.proofs.Unique.{SameResults, results_once}
use Rattle.inner.specs.Read.{Reads, QuadratureLeft}
use Rattle.inner.specs.Answered.{HoldsAnswer, AnswerTold, AnswerLeft}
use Rattle.model.specs.declared.ends.End.{End}
use Rattle.inner.specs.declared.answers.Answered.{Answered}
use Rattle.inner.specs.declared.answers.InnerAnswer.{InnerAnswer}

-- answers with the same fields are the same
pub same_answered : {s t : Answered} → s.iterations ≡ t.iterations → s.in_second ≡ t.in_second → s.deviance_sum ≡ t.deviance_sum → s.deviance ≡ t.deviance → s.order ≡ t.order → s.why ≡ t.why → s ≡ t
same_answered e1 e2 e3 e4 e5 e6 = λ i. record { iterations = e1 i; in_second = e2 i; deviance_sum = e3 i; deviance = e4 i; order = e5 i; why = e6 i }

pub same_answer : {a b : InnerAnswer} → a.outcome ≡ b.outcome → a.account ≡ b.account → a ≡ b
same_answer e f = λ i. record { outcome = e i; account = f i }

told_once : (o : InnerEnd) (G : Given) (r r' m m' : List Float) (a b : InnerAnswer) → a.account ≡ b.account → AnswerTold o G r m a → AnswerTold o G r' m' b → a ≡ b
told_once (with_mode k i) G r r' m m' a b e x y =
    let h = x.2 in
    let h' = y.2 in
    let s : x.0 ≡ y.0 = same_answered (h.iterations ∙ sym h'.iterations) (h.results.place ∙ sym h'.results.place) (h.sum ∙ sym h'.sum) (h.deviance ∙ sym h'.deviance) (h.order ∙ sym h'.order) (h.why ∙ sym h'.why) in
    same_answer (x.1 ∙ ap Ok s ∙ sym y.1) e
told_once (without_mode f) G r r' m m' a b e x y = same_answer (x ∙ sym y) e

-- one answer
pub answer_once : (G : Given) (wish : ℕ) (phi : Float) (L : ℕ) (mu r r' r'' m m' m'' t t' t'' : List Float) (a b : InnerAnswer) → AnswerLeft G wish phi L mu r r' m m' t t' a → AnswerLeft G wish phi L mu r r'' m m'' t t'' b
    → a ≡ b
answer_once G wish phi L mu r r' r'' m m' m'' t t' t'' a b x y =
    told_once (inner_of G wish phi L mu).ending G r' r'' m' m'' a b (x.counted ∙ sym y.counted) x.told y.told

-- what an answer with a result holds is held of that result
held_by : (G : Given) (k : Mode) (i : Result (Float × Order) Decline) (r m : List Float) (a : InnerAnswer) (s : Answered) → a.outcome ≡ Ok s → AnswerTold (with_mode k i) G r m a → HoldsAnswer G k i r m s
held_by G k i r m a s e x =
    let o : ◌≡◌ {A = Result Answered End} (Ok x.0) (Ok s) = sym x.1 ∙ e in
    let w : x.0 ≡ s = cc in
    rw w at x.2

-- where the inner fit has a mode, two such answers have a result each, and leave the same for the results
pub left_once : (G : Given) (wish : ℕ) (phi : Float) (L : ℕ) (mu r r' r'' m m' m'' t t' t'' : List Float) (a b : InnerAnswer) (k : Mode) (i : Result (Float × Order) Decline) → (inner_of G wish phi L mu).ending ≡ with_mode k i
    → AnswerLeft G wish phi L mu r r' m m' t t' a → AnswerLeft G wish phi L mu r r'' m m'' t t'' b
    → (s : Answered) × (s' : Answered) × (a.outcome ≡ Ok s) × (b.outcome ≡ Ok s') × SameResults G s.in_second s'.in_second r' r'' m' m''
left_once G wish phi L mu r r' r'' m m' m'' t t' t'' a b k i e x y =
    let x' : AnswerTold (with_mode k i) G r' m' a = rw e at x.told in
    let y' : AnswerTold (with_mode k i) G r'' m'' b = rw e at y.told in
    (x'.0, y'.0, x'.1, y'.1, results_once G k (x'.0).in_second (y'.0).in_second r' r'' m' m'' x'.2.results y'.2.results)

-- the same of results that are known
pub left_of : (G : Given) (wish : ℕ) (phi : Float) (L : ℕ) (mu r r' r'' m m' m'' t t' t'' : List Float) (a b : InnerAnswer) (k : Mode) (i : Result (Float × Order) Decline) → (inner_of G wish phi L mu).ending ≡ with_mode k i
    → AnswerLeft G wish phi L mu r r' m m' t t' a → AnswerLeft G wish phi L mu r r'' m m'' t t'' b → (s s' : Answered) → a.outcome ≡ Ok s → b.outcome ≡ Ok s' → SameResults G s.in_second s'.in_second r' r'' m' m''
left_of G wish phi L mu r r' r'' m m' m'' t t' t'' a b k i e x y s s' ea eb =
    let x' : AnswerTold (with_mode k i) G r' m' a = rw e at x.told in
    let y' : AnswerTold (with_mode k i) G r'' m'' b = rw e at y.told in
    let h : HoldsAnswer G k i r' m' s = held_by G k i r' m' a s ea x' in
    let h' : HoldsAnswer G k i r'' m'' s' = held_by G k i r'' m'' b s' eb y' in
    results_once G k s.in_second s'.in_second r' r'' m' m'' h.results h'.results

-- ---- the quadrature: the work slices always hold some mode, so its contract too leaves one answer
-- a mode with what the quadrature reads of the work slices; the rest, which it does not read, is empty or zero
abbrev standing : Given → Float → (rows matrices : List Float) → Mode
standing G fit r m =
    record {
      iterations = 0;
      system = row system_place (q_of G.design * q_of G.design) m;
      root = [];
      beta = row (beta_place G.design.p (q_of G.design)) G.design.p m;
      u = row (u_place G.design.p (q_of G.design)) (q_of G.design) m;
      eta = [];
      mu = [];
      devs = row (deviance_row (n_of G)) (n_of G) r;
      dev_sum = zero_f;
      fit = fit;
      laplace = zero_f;
    }

pub quadrature_once : (G : Given) (rule : Mode → Integrated) (fit : Float) (r r' r'' m m' m'' t t' t'' : List Float) (a b : Quadrature) → QuadratureLeft G rule fit r r' m m' t t' a → QuadratureLeft G rule fit r r'' m m'' t t'' b → a ≡ b
quadrature_once G rule fit r r' r'' m m' m'' t t' t'' a b x y =
    let k : Mode = standing G fit r m in
    let s : Reads G k fit r m = record { fit_term_lem = refl; deviances = refl; system = refl; beta = refl; u = refl } in
    same_integrated a b (sym (x.told k s) ∙ y.told k s)
